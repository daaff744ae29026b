-- A whole file: when a session takes all its records, and what it then shows. Assumes nothing.
use Rattle.std.specs.Prelude.{ℕ, ◌+◌, ◌≤◌, Bool, false, List, [], ◌∷◌, ◌++◌, map, ◌↔◌, ◌≡◌, length, get_or, Some}
use Rattle.answer.specs.Answers.{Answer, Accepted}
use Rattle.answer.specs.Orders.{Each}
use Rattle.layout.specs.declared.Record.{Record}
use Rattle.layout.specs.declared.Record.TheVariants.{Header, Payment, Trailer}
use Rattle.layout.specs.Layouts.{named_by}
use Rattle.record.specs.Records.{record_answer}
use Rattle.barcode.specs.Agreed.{RightList}
use Rattle.kinds.specs.Terms.{Terms}
use Rattle.record.specs.Values.{version_in, trailer_shown}
use Rattle.file.specs.Forms.{in_form, body_of, has_line_end}
use Rattle.file.specs.Files.{most_payments, most_centavos, fresh_file, file_answers}
use Rattle.board.specs.Lanes.{most_lanes, lanes_from}
use Rattle.board.specs.Boards.{post_answers, board_with_all}
use Rattle.session.specs.declared.Session.{Session}
use Rattle.pairs.specs.Pairs.{memory_answer, memory_with}
use Rattle.session.specs.Sessions.{fresh_session, closed_at, opened_at, pair_in, take_result, take_of}
use Rattle.ledger.specs.Ledgers.{Filed, lanes_of_records, received_by, received_in, tariff_in, header_terms, Step, taking}
use Rattle.ledger.specs.Promises.{session_after, answers_of, reached, ledger_of, shown_lanes}

-- a record of this kind that is accepted by itself, under these terms
abbrev pub IsRight : Terms → Record → List ℕ → Type 0
IsRight t r rec = (record_answer t rec ≡ Accepted) × (named_by (get_or rec 0 0) ≡ Some r)

-- a file: A, its payments, Z, each right under the version that the header names and under a right list
pub record Whole (agreed a : List ℕ) (recs : List (List ℕ)) (z : List ℕ) : Type 0 where
  pub list : RightList agreed
  pub header : IsRight (header_terms agreed a) Header a
  pub payments : Each (IsRight (header_terms agreed a) Payment) recs
  pub trailer : IsRight (header_terms agreed a) Trailer z

-- a file's records, and the file in either form: each record taken with what follows it, all under one list
abbrev pub records_of : List ℕ → List (List ℕ) → List ℕ → List (List ℕ)
records_of a recs z = a ∷ (recs ++ (z ∷ []))

abbrev pub all_in_form : Bool → List (List ℕ) → List (List ℕ)
all_in_form lined recs = map (in_form lined) recs

abbrev pub file_of : List ℕ → Bool → List ℕ → List (List ℕ) → List ℕ → List Step
file_of agreed lined a recs z = map (taking agreed) (all_in_form lined (records_of a recs z))

abbrev pub received_each : List (List ℕ) → List ℕ
received_each recs = map received_by recs

-- the trailer shows the true count and total
abbrev pub TrueFigures : List (List ℕ) → List ℕ → Type 0
TrueFigures recs z = ((trailer_shown z).count ≡ length recs + 2) × ((trailer_shown z).total ≡ received_in recs)

abbrev pub AllAccepted : List Answer → Type 0
AllAccepted answers = Each (λ (a : Answer). a ≡ Accepted) answers

-- Promises.

-- of any session with no file open: a right A, lined or bare, is answered by the memory, 26 and 27, and opens its file
-- if that lets it pass
abbrev pub HeadersAskTheMemory : Type 0
HeadersAskTheMemory =
    (agreed : List ℕ) (s : Session) (lined : Bool) (a : List ℕ)
    → RightList agreed → s.opened ≡ false → IsRight (header_terms agreed a) Header a
    → take_of agreed s (in_form lined a)
    ≡ take_result (memory_answer s.memory (pair_in a))
    (opened_at s.shown s.memory (version_in a) lined (pair_in a)) s

-- of any session with no file open: a file, lined or bare, is accepted under its list exactly if the memory lets its
-- header pass, none of its payments is refused 15 to 18 and its trailer is true; the board then has them all, and the
-- memory its number
abbrev pub FileAccepted : Type 0
FileAccepted =
    (agreed : List ℕ) (s : Session) (lined : Bool) (a : List ℕ) (recs : List (List ℕ)) (z : List ℕ)
    → s.opened ≡ false → Whole agreed a recs z
    → AllAccepted (answers_of s (file_of agreed lined a recs z))
    ↔ ((memory_answer s.memory (pair_in a) ≡ Accepted)
    × (file_answers (fresh_file (version_in a) lined) (received_each recs) ≡ Accepted)
    × (post_answers s.shown (lanes_of_records recs) ≡ Accepted) × TrueFigures recs z)

abbrev pub FilePosted : Type 0
FilePosted =
    (agreed : List ℕ) (s : Session) (lined : Bool) (a : List ℕ) (recs : List (List ℕ)) (z : List ℕ)
    → s.opened ≡ false → Whole agreed a recs z
    → AllAccepted (answers_of s (file_of agreed lined a recs z))
    → session_after s (file_of agreed lined a recs z)
    ≡ closed_at (board_with_all s.shown (lanes_of_records recs)) (memory_with s.memory (pair_in a))

-- of any session with no file open: an A, Gs and a Z that are all accepted under one list, with whatever follows each,
-- are right under the version that the A names and that list, and all of the A's form
abbrev pub AcceptedFileIsWhole : Type 0
AcceptedFileIsWhole =
    (agreed : List ℕ) (s : Session) (a : List ℕ) (recs : List (List ℕ)) (z : List ℕ) → s.opened ≡ false
    → Each (λ (rec : List ℕ). named_by (get_or rec 0 0) ≡ Some Payment) recs → named_by (get_or z 0 0) ≡ Some Trailer
    → AllAccepted (answers_of s (map (taking agreed) (records_of a recs z)))
    → Whole agreed (body_of a) (map body_of recs) (body_of z)
    × (records_of a recs z ≡ all_in_form (has_line_end a) (records_of (body_of a) (map body_of recs) (body_of z)))

-- a fresh session accepts a file under its list exactly if it is within its limits, names at most 64 issuers and its
-- trailer is true
abbrev pub FreshSessionAccepts : Type 0
FreshSessionAccepts =
    (agreed : List ℕ) (lined : Bool) (a : List ℕ) (recs : List (List ℕ)) (z : List ℕ) → Whole agreed a recs z
    → AllAccepted (answers_of fresh_session (file_of agreed lined a recs z))
    ↔ ((length recs ≤ most_payments) × (received_in recs ≤ most_centavos)
    × (length (lanes_from (lanes_of_records recs)) ≤ most_lanes) × TrueFigures recs z)

-- and then shows its payments
abbrev pub FreshSessionShows : Type 0
FreshSessionShows =
    (agreed : List ℕ) (lined : Bool) (a : List ℕ) (recs : List (List ℕ)) (z : List ℕ) → Whole agreed a recs z
    → let file = file_of agreed lined a recs z in
    AllAccepted (answers_of fresh_session file)
    → (shown_lanes file ≡ lanes_from (lanes_of_records recs))
    × ((reached file).shown.total
    ≡ record { payments = length recs; centavos = received_in recs; tariff = tariff_in recs })
    × ((reached file).opened ≡ false)

-- an accepted file of a ledger: whole under the empty list, since what is accepted under any list is, within a file's
-- limits, its trailer true
pub record SoundFile (f : Filed) : Type 0 where
  pub whole : Whole [] f.header f.payments f.trailer
  pub few : length f.payments ≤ most_payments
  pub low : received_in f.payments ≤ most_centavos
  pub figures : TrueFigures f.payments f.trailer

-- so is each accepted file, after any list of steps, whatever lists were lent
abbrev pub LedgerFilesAreWhole : Type 0
LedgerFilesAreWhole = (steps : List Step) → Each SoundFile (ledger_of steps).accepted
