-- What a run takes, what it leaves, and that an input may be fed to it in parts. Assumes nothing.
use Rattle.std.specs.Prelude.{Err}
use Prim.Native.Nat.{ℕ, zero, suc, ◌+◌, ◌≤◌, ◌<◌}
use mathlib.Core.Bool.{Bool, true, false, cond}
use mathlib.Core.List.{List, [], ◌∷◌, ◌++◌}
use mathlib.Core.Logic.{⊎_elim}
use mathlib.Core.Path.{◌≡◌, refl, sym, ap, ap₂, subst, ◌∙◌}
use native.Mathlib.Omega.{arith}
use lib.Dec.{ltb}
use lib.ListN.{length, get_or, take, drop, length-append, length-take, length-drop, take-append-drop}
use lib.Seq.{take-append-add, take-append-le, drop-append-le, drop-drop, length-take-le}
use Rattle.answer.specs.declared.Reason.{Reason}
use Rattle.answer.specs.declared.Reason.TheVariants.{WrongList}
use Rattle.answer.specs.Answers.{Answer, Accepted, Refused}
use Rattle.answer.specs.Orders.{◌then◌}
use Rattle.answer.proofs.Orders.{not_both, accepted_takes}
use Rattle.answer.proofs.Tests.{lt_or_le}
use Rattle.barcode.specs.Agreed.{list_answer, RightList}
use Rattle.barcode.proofs.Lists.{one_list_refusal}
use Rattle.layout.specs.Layouts.{named_by}
use Rattle.file.specs.Forms.{lined_length, length_of, is_taken_lined, is_next_lined}
use Rattle.session.specs.declared.Session.{Session}
use Rattle.session.specs.declared.RunResult.{RunResult}
use Rattle.session.specs.Sessions.{take_answer, next_session, take_under, take_of}
use Rattle.session.specs.Runs.{piece_length, piece_of, least_left, pieces_up_to, pieces_of, files_closed, add_counts, empty_run, stopped_if_refused, run_all, run_under, run_of, bytes_of, AllTaken, session_after_all, next_answer, RunIsItsTakes, WrongListTakesNothing, RunLeavesFew, FeedingIsOneRun}
use Rattle.file.proofs.Forms.{at_most_lined}
use Rattle.session.proofs.Runs.{piece_some, least_some, run_none, run_refused, run_on, counts_add, counts_none}

abbrev closed_by : List ℕ → ℕ
closed_by rec = files_closed (named_by (get_or rec 0 0))

-- What is known of the records that a run took.
record TakenBy (agreed : List ℕ) (s : Session) (recs : List (List ℕ)) (r : RunResult) : Type 0 where
  taken : AllTaken agreed s (take r.records recs)
  session : r.session ≡ session_after_all agreed s (take r.records recs)
  size : length (bytes_of (take r.records recs)) ≡ r.bytes
  answer : r.answer ≡ next_answer agreed r.session (drop r.records recs)
  whole : r.answer ≡ Accepted → r.records ≡ length recs

-- one more record in front
taken_more : (agreed : List ℕ) (rec : List ℕ) (recs : List (List ℕ)) (s : Session) (c : ℕ) (r : RunResult)
    → (take_of agreed s rec).answer ≡ Accepted → TakenBy agreed (take_of agreed s rec).session recs r
    → TakenBy agreed s (rec ∷ recs) (add_counts 1 c (length rec) r)
taken_more agreed rec recs s c r e t =
    let one : 1 + r.records ≡ suc r.records = omega arith in
    record {
      taken = subst (λ (m : ℕ). AllTaken agreed s (take m (rec ∷ recs))) (sym one) (e, t.taken);
      session = t.session ∙ ap (λ (m : ℕ). session_after_all agreed s (take m (rec ∷ recs))) (sym one);
      size =
          ap (λ (m : ℕ). length (bytes_of (take m (rec ∷ recs)))) one
          ∙ omega (arith, length-append rec (bytes_of (take r.records recs)), t.size);
      answer = t.answer ∙ ap (λ (m : ℕ). next_answer agreed r.session (drop m (rec ∷ recs))) (sym one);
      whole = λ x. omega (arith, t.whole x);
    }

taken_by : (agreed : List ℕ) → RightList agreed → (recs : List (List ℕ)) (s : Session) → TakenBy agreed s recs (run_all agreed s recs)
taken_by agreed right [] s = record { taken = tt; session = refl; size = refl; answer = refl; whole = λ e. refl }
taken_by agreed right (rec ∷ recs) s = go (take_answer agreed s rec) refl (taken_by agreed right recs)
  where
    go : (a : Answer) → take_answer agreed s rec ≡ a → ((s : Session) → TakenBy agreed s recs (run_all agreed s recs))
        → TakenBy agreed s (rec ∷ recs) (stopped_if_refused a s (add_counts 1 (closed_by rec) (length rec) (run_all agreed (next_session agreed s rec) recs)))
    go (Err refusal) e later = record { taken = tt; session = refl; size = refl; answer = sym (rw right e); whole = λ x. not_both _ refl x }
    go Accepted e later =
        let answer : list_answer agreed then take_answer agreed s rec ≡ Accepted = rw right e in
        let next = accepted_takes (list_answer agreed then take_answer agreed s rec) (next_session agreed s rec) s answer in
        taken_more agreed rec recs s (closed_by rec) (run_all agreed (next_session agreed s rec) recs) answer
        (subst (λ (x : Session). TakenBy agreed x recs (run_all agreed (next_session agreed s rec) recs)) (sym next) (later (next_session agreed s rec)))

-- the bytes that a run counts are those of the records that it took
pub run_size : (agreed : List ℕ) → RightList agreed → (recs : List (List ℕ)) (s : Session)
    → length (bytes_of (take (run_all agreed s recs).records recs)) ≡ (run_all agreed s recs).bytes
run_size agreed right recs s = (taken_by agreed right recs s).size

-- the first pieces are the first bytes
in_front : (front x bytes : List ℕ) → x ≡ take (length x) bytes → front ++ x ≡ take (length (front ++ x)) (front ++ bytes)
in_front front x bytes e =
    ap (λ (l : List ℕ). front ++ l) e ∙ sym (take-append-add front bytes (length x))
    ∙ ap (λ (n : ℕ). take n (front ++ bytes)) (sym (length-append front x))

first_pieces : (agreed : List ℕ) (k n : ℕ) (s : Session) (more : Bool) (bytes : List ℕ)
    → let front = bytes_of (take k (pieces_up_to agreed n s more bytes)) in front ≡ take (length front) bytes
first_pieces agreed zero n s more bytes = refl
first_pieces agreed (suc k) zero s more bytes = refl
first_pieces agreed (suc k) (suc n) s more bytes =
    go (ltb (length bytes) (least_left more)) (pieces_up_to agreed n next more left) (first_pieces agreed k n next more left)
  where
    next : Session
    next = (take_under agreed s (piece_of s bytes)).session

    left : List ℕ
    left = drop (piece_length s bytes) bytes

    go : (t : Bool) (later : List (List ℕ)) → bytes_of (take k later) ≡ take (length (bytes_of (take k later))) (drop (piece_length s bytes) bytes)
        → let front = bytes_of (take (suc k) (cond t [] (piece_of s bytes ∷ later))) in front ≡ take (length front) bytes
    go true later h = refl
    go false later h =
        let front = bytes_of (take k later) in
        in_front (piece_of s bytes) front (drop (piece_length s bytes) bytes) h
        ∙ ap (take (length (piece_of s bytes ++ front))) (take-append-drop (piece_length s bytes) bytes)

-- under a right list a caller gets the run, under a wrong one nothing
pub run_right : (agreed : List ℕ) (s : Session) (more : Bool) (bytes : List ℕ) → RightList agreed → run_of agreed s more bytes ≡ run_under agreed s more bytes
run_right agreed s more bytes right = rw right

pub run_wrong : (agreed : List ℕ) (s : Session) (more : Bool) (bytes : List ℕ) → list_answer agreed ≡ Refused WrongList 0
    → run_of agreed s more bytes ≡ empty_run (Refused WrongList 0) s
run_wrong agreed s more bytes wrong = rw wrong

pub wrong_list_takes_nothing : WrongListTakesNothing
wrong_list_takes_nothing agreed s more bytes not =
    ⊎_elim (λ right. absurd (not right)) (run_wrong agreed s more bytes) (one_list_refusal agreed)

abbrev ItsTakes : List ℕ → Session → Bool → List ℕ → RunResult → Type 0
ItsTakes agreed s more bytes r =
    let pieces = pieces_of agreed s more bytes in
    let taken = take r.records pieces in
    AllTaken agreed s taken × (r.session ≡ session_after_all agreed s taken)
    × (bytes_of taken ≡ take r.bytes bytes) × (length (bytes_of taken) ≡ r.bytes)
    × (r.answer ≡ next_answer agreed r.session (drop r.records pieces))
    × (r.answer ≡ Accepted → r.records ≡ length pieces)

pub run_is_its_takes : RunIsItsTakes
run_is_its_takes agreed s more bytes right =
    let pieces = pieces_of agreed s more bytes in
    let t = taken_by agreed right pieces s in
    let r = run_all agreed s pieces in
    let first = first_pieces agreed r.records (length bytes) s more bytes in
    subst (ItsTakes agreed s more bytes) (sym (run_right agreed s more bytes right))
    (t.taken, t.session, first ∙ ap (λ (n : ℕ). take n bytes) t.size, t.size, t.answer, t.whole)

-- One turn of a run, by what is left and by the answer to the next piece: a statement holds of it if it holds where no
-- piece is left, where the next is refused, and behind an accepted one.
by_turns : (agreed : List ℕ) (P : (s : Session) (bytes : List ℕ) → Type 0) (more : Bool)
    → ((s : Session) (bytes : List ℕ) → length bytes < least_left more → P s bytes)
    → ((s : Session) (bytes : List ℕ) → least_left more ≤ length bytes → (why : Reason) (p : ℕ) → take_answer agreed s (piece_of s bytes) ≡ Refused why p → P s bytes)
    → ((s : Session) (bytes : List ℕ) → least_left more ≤ length bytes → take_answer agreed s (piece_of s bytes) ≡ Accepted
    → P (next_session agreed s (piece_of s bytes)) (drop (piece_length s bytes) bytes) → P s bytes)
    → (s : Session) (bytes : List ℕ) → P s bytes
by_turns agreed P more none refused on s bytes = up_to (length bytes) s bytes (omega arith)
  where
    up_to : (n : ℕ) (s : Session) (bytes : List ℕ) → length bytes ≤ n → P s bytes
    up_to zero s bytes h = none s bytes (omega (arith, least_some more))
    up_to (suc n) s bytes h =
        ⊎_elim (none s bytes) (λ enough. turn (take_answer agreed s (piece_of s bytes)) refl enough (up_to n (next_session agreed s (piece_of s bytes)) (drop (piece_length s bytes) bytes) (omega (arith, length-drop (piece_length s bytes) bytes, piece_some s bytes))))
        (lt_or_le (length bytes) (least_left more))
      where
        turn : (a : Answer) → take_answer agreed s (piece_of s bytes) ≡ a → least_left more ≤ length bytes
            → P (next_session agreed s (piece_of s bytes)) (drop (piece_length s bytes) bytes) → P s bytes
        turn Accepted e enough later = on s bytes enough e later
        turn (Err refusal) e enough later = refused s bytes enough refusal.why refusal.place e

pub leaves_few : (agreed : List ℕ) (s : Session) (more : Bool) (bytes : List ℕ) → (run_under agreed s more bytes).answer ≡ Accepted
    → length bytes < (run_under agreed s more bytes).bytes + least_left more
leaves_few agreed s more bytes =
    by_turns agreed
    (λ (s : Session) (bytes : List ℕ). (run_under agreed s more bytes).answer ≡ Accepted → length bytes < (run_under agreed s more bytes).bytes + least_left more)
    more
    (λ s bytes few e. omega (arith, few))
    (λ s bytes enough why p e a. not_both (take_answer agreed s (piece_of s bytes)) e (ap (λ (r : RunResult). r.answer) (sym (run_refused agreed s more bytes enough refl e)) ∙ a))
    (λ s bytes enough e later a.
    let goes = run_on agreed s more bytes enough e in
    let size = piece_length s bytes in
    rw goes (omega (arith, later (ap (λ (r : RunResult). r.answer) (sym goes) ∙ a), length-take size bytes, length-drop size bytes)))
    s bytes

-- an accepted run has a right list
pub accepted_right : (agreed : List ℕ) (s : Session) (more : Bool) (bytes : List ℕ) → (run_of agreed s more bytes).answer ≡ Accepted → RightList agreed
accepted_right agreed s more bytes e =
    ⊎_elim (λ right. right) (λ wrong. not_both _ (ap (λ (r : RunResult). r.answer) (run_wrong agreed s more bytes wrong)) e) (one_list_refusal agreed)

pub run_leaves_few : RunLeavesFew
run_leaves_few agreed s more bytes e =
    let same = run_right agreed s more bytes (accepted_right agreed s more bytes e) in
    rw same (leaves_few agreed s more bytes (ap (λ (r : RunResult). r.answer) (sym same) ∙ e))

-- The front of an input, fed first: the rest changes no piece of it.
module _ (agreed : List ℕ) (s : Session) (front rest : List ℕ) (enough : lined_length ≤ length front) where
  abbrev size : ℕ
  size = piece_length s front

  short : size ≤ length front
  short = omega (arith, enough, at_most_lined (is_next_lined s.opened s.file.lined front))

  same_size : piece_length s (front ++ rest) ≡ size
  same_size = ap (λ (l : List ℕ). length_of (is_taken_lined s.opened s.file.lined l)) (take-append-le lined_length front rest enough)

  same_piece : piece_of s (front ++ rest) ≡ piece_of s front
  same_piece = ap (λ (n : ℕ). take n (front ++ rest)) same_size ∙ take-append-le size front rest short

  same_left : drop (piece_length s (front ++ rest)) (front ++ rest) ≡ drop size front ++ rest
  same_left = ap (λ (n : ℕ). drop n (front ++ rest)) same_size ∙ drop-append-le size front rest short

  whole_left : (more : Bool) → least_left more ≤ length (front ++ rest)
  whole_left true = omega (arith, enough, length-append front rest)
  whole_left false = omega (arith, enough, length-append front rest)

  -- behind the first piece, of either
  abbrev after : Bool → List ℕ → RunResult
  after more left = add_counts 1 (closed_by (piece_of s front)) (length (piece_of s front)) (run_under agreed (next_session agreed s (piece_of s front)) more left)

  goes_on : (more : Bool) → take_answer agreed s (piece_of s front) ≡ Accepted → run_under agreed s more (front ++ rest) ≡ after more (drop size front ++ rest)
  goes_on more e =
      run_on agreed s more (front ++ rest) (whole_left more) (ap (take_answer agreed s) same_piece ∙ e)
      ∙ ap₂ (λ (r left : List ℕ). add_counts 1 (closed_by r) (length r) (run_under agreed (next_session agreed s r) more left)) same_piece same_left

  stops_too : (more : Bool) {why : Reason} {p : ℕ} → take_answer agreed s (piece_of s front) ≡ Refused why p
      → run_under agreed s true front ≡ run_under agreed s more (front ++ rest)
  stops_too more e =
      run_refused agreed s true front enough refl e
      ∙ sym (run_refused agreed s more (front ++ rest) (whole_left more) (ap (take_answer agreed s) (sym same_piece)) e)

  left_behind : (n : ℕ) → drop n (drop size front) ≡ drop (length (piece_of s front) + n) front
  left_behind n = drop-drop n size front ∙ ap (λ (k : ℕ). drop (k + n) front) (sym (length-take-le size front short))

abbrev Feeds : List ℕ → Bool → List ℕ → Session → List ℕ → Type 0
Feeds agreed more rest s front =
    let r = run_under agreed s true front in
    (r.answer ≡ Accepted
    → add_counts r.records r.files r.bytes (run_under agreed r.session more (drop r.bytes front ++ rest)) ≡ run_under agreed s more (front ++ rest))
    × ((r.answer ≡ Accepted → ⊥) → r ≡ run_under agreed s more (front ++ rest))

-- what a run and the one behind it come to
abbrev both : List ℕ → Bool → List ℕ → List ℕ → RunResult → RunResult
both agreed more front rest r = add_counts r.records r.files r.bytes (run_under agreed r.session more (drop r.bytes front ++ rest))

pub feeding : (agreed : List ℕ) (s : Session) (more : Bool) (front rest : List ℕ) → Feeds agreed more rest s front
feeding agreed s more front rest =
    by_turns agreed (Feeds agreed more rest) true
    (λ s front few.
    let none = run_none agreed s true front few in (
      λ e. ap (both agreed more front rest) none ∙ counts_none (run_under agreed s more (front ++ rest)),
      λ e. absurd (e (ap (λ (r : RunResult). r.answer) none)),
    ))
    (λ s front enough why p e. (
      λ a. not_both (take_answer agreed s (piece_of s front)) e (ap (λ (r : RunResult). r.answer) (sym (run_refused agreed s true front enough refl e)) ∙ a),
      λ a. stops_too agreed s front rest enough more e,
    ))
    (λ s front enough e later.
    let goes = run_on agreed s true front enough e in
    let piece = piece_of s front in
    let left = drop (piece_length s front) front in
    let r = run_under agreed (next_session agreed s piece) true left in
    let counts = add_counts 1 (closed_by piece) (length piece) in
    let rest_of = run_under agreed r.session more (drop r.bytes left ++ rest) in (
      λ a.
          ap (both agreed more front rest) goes
          ∙ ap (λ (l : List ℕ). add_counts (1 + r.records) (closed_by piece + r.files) (length piece + r.bytes) (run_under agreed r.session more (l ++ rest))) (sym (left_behind agreed s front rest enough r.bytes))
          ∙ sym (counts_add 1 (closed_by piece) (length piece) r.records r.files r.bytes rest_of)
          ∙ ap counts (later.0 (ap (λ (x : RunResult). x.answer) (sym goes) ∙ a))
          ∙ sym (goes_on agreed s front rest enough more e),
      λ a. goes ∙ ap counts (later.1 (λ b. a (ap (λ (x : RunResult). x.answer) goes ∙ b))) ∙ sym (goes_on agreed s front rest enough more e),
    ))
    s front

pub feeding_is_one_run : FeedingIsOneRun
feeding_is_one_run agreed s more front rest =
    ⊎_elim (λ (right : RightList agreed). rw right (feeding agreed s more front rest))
    (λ (wrong : list_answer agreed ≡ Refused WrongList 0).
    let none = run_wrong agreed s true front wrong in (
      λ e. not_both _ (ap (λ (r : RunResult). r.answer) none) e,
      λ e. none ∙ sym (run_wrong agreed s more (front ++ rest) wrong),
    ))
    (one_list_refusal agreed)
