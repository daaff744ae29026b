-- Sequence numbers over any history (SPEC.md, "Sequence numbers"): what is remembered, that the numbers of accepted
-- files follow, and what becomes of a file that comes again. Assumes nothing.
use Rattle.std.specs.Prelude.{ℕ, ◌≤◌, Bool, false, cond, List, [], ◌∷◌, ◌++◌, map, ◌≡◌, length}
use Rattle.std.proofs.Math.Option.{none}
use Rattle.answer.specs.Refusals.{sequence_place}
use Rattle.answer.specs.declared.Reason.TheVariants.{NotFollowing}
use Rattle.answer.specs.Answers.{Refused}
use Rattle.answer.specs.Orders.{Each}
use Rattle.barcode.specs.Agreed.{RightList}
use Rattle.file.specs.Forms.{in_form}
use Rattle.board.specs.Lanes.{lanes_from}
use Rattle.pairs.specs.declared.Pair.{Pair}
use Rattle.pairs.specs.Pairs.{most_pairs, next_number, remembered_for, follows, pairs_of}
use Rattle.session.specs.Sessions.{pair_in, take_of}
use Rattle.session.specs.Runs.{empty_run, run_of, bytes_of}
use Rattle.ledger.specs.Ledgers.{Filed, payment_records, lanes_of_records, headers_of, number_shown, are_of_one_pair, latest_number, first_of_pairs, Step}
use Rattle.ledger.specs.Promises.{session_after, reached, ledger_of, shown_lanes}
use Rattle.ledger.specs.WholeFiles.{records_of, all_in_form, file_of}

-- the numbers of the headers that are of this one's pair, in order
abbrev pub numbers_of : List ℕ → List (List ℕ) → List ℕ
numbers_of a [] = []
numbers_of a (h ∷ hs) = cond (are_of_one_pair h a) (number_shown h ∷ numbers_of a hs) (numbers_of a hs)

-- each number is the next of the one before
abbrev pub FollowingOn : ℕ → List ℕ → Type 0
FollowingOn last [] = Unit {0}
FollowingOn last (n ∷ ns) = (n ≡ next_number last) × FollowingOn n ns

abbrev pub Following : List ℕ → Type 0
Following [] = Unit {0}
Following (n ∷ ns) = FollowingOn n ns

-- Promises, of any list of steps from a fresh session.

-- the number remembered for a pair is that of the latest accepted file of the pair, found from the headers of the
-- accepted files alone; there is none if no accepted file is of the pair
abbrev pub LastNumberIsRemembered : Type 0
LastNumberIsRemembered =
    (steps : List Step) (a : List ℕ)
    → remembered_for (pair_in a) (pairs_of (reached steps).memory)
    ≡ latest_number a (headers_of (ledger_of steps).accepted)

-- the accepted files of each pair, in order, have numbers each of which is the next of the one before
abbrev pub NumbersFollow : Type 0
NumbersFollow = (steps : List Step) (a : List ℕ) → Following (numbers_of a (headers_of (ledger_of steps).accepted))

-- a pair without its number
abbrev pub unnumbered : Pair → Pair
unnumbered p = record { bank = p.bank; agreement = p.agreement; sequence = 0 }

-- the pairs in use are those of the accepted files, in the order in which a file of each was first accepted, and `used`
-- is how many they are, at most 16
abbrev pub PairsInOrder : Type 0
PairsInOrder =
    (steps : List Step)
    → let firsts = first_of_pairs [] (headers_of (ledger_of steps).accepted) in
    let memory = (reached steps).memory in
    (map unnumbered (pairs_of memory) ≡ map (λ (h : List ℕ). unnumbered (pair_in h)) firsts)
    × (memory.used ≡ length firsts) × (memory.used ≤ most_pairs)

-- what becomes of an accepted file, among those before and after it, that comes again: its header is refused 26 at its
-- number, and so is a run over all its bytes, which takes nothing; record by record too the session stays as it is. So
-- the lanes show its payments once.
abbrev pub RefusedAgain : List Step → List ℕ → Bool → List Filed → Filed → List Filed → Type 0
RefusedAgain steps agreed lined before f after =
    (take_of agreed (reached steps) (in_form lined f.header)
    ≡ record { answer = Refused NotFollowing sequence_place; session = reached steps })
    × (run_of agreed (reached steps) false (bytes_of (all_in_form lined (records_of f.header f.payments f.trailer)))
    ≡ empty_run (Refused NotFollowing sequence_place) (reached steps))
    × (session_after (reached steps) (file_of agreed lined f.header f.payments f.trailer) ≡ reached steps)
    × (shown_lanes steps
    ≡ lanes_from (lanes_of_records (payment_records before ++ (f.payments ++ payment_records after))))

-- with no file open and under a right list that is so, unless its number is the next of its pair again, as it can be
-- when the numbers have gone round
abbrev pub FileAgainIsRefused : Type 0
FileAgainIsRefused =
    (steps : List Step) (agreed : List ℕ) (lined : Bool) (before : List Filed) (f : Filed) (after : List Filed)
    → RightList agreed → (ledger_of steps).opened ≡ none → (ledger_of steps).accepted ≡ before ++ (f ∷ after)
    → follows (latest_number f.header (headers_of (before ++ (f ∷ after)))) (number_shown f.header) ≡ false
    → RefusedAgain steps agreed lined before f after

-- and so it is while no later accepted file is of its pair, whatever was refused or abandoned in between
abbrev pub FileTwiceIsRefused : Type 0
FileTwiceIsRefused =
    (steps : List Step) (agreed : List ℕ) (lined : Bool) (before : List Filed) (f : Filed) (after : List Filed)
    → RightList agreed → (ledger_of steps).opened ≡ none → (ledger_of steps).accepted ≡ before ++ (f ∷ after)
    → Each (λ (g : Filed). are_of_one_pair g.header f.header ≡ false) after
    → RefusedAgain steps agreed lined before f after
