-- A line under a list of agreed issuers. Assumes nothing.
use Rattle.std.specs.Prelude.{Err}
use Prim.Native.Nat.{ℕ, ◌+◌, ◌≤◌}
use mathlib.Core.List.{List, [], ◌∷◌}
use mathlib.Core.Logic.{inl, inr, ⊎_elim}
use mathlib.Core.Path.{◌≡◌, refl, ap}
use native.Mathlib.Omega.{arith}
use lib.Dec.{eqb}
use lib.ListN.{length}
use Rattle.answer.specs.declared.Reason.TheVariants.{WrongLength, WrongBoxCheck}
use Rattle.answer.specs.Answers.{Answer, Accepted}
use Rattle.answer.specs.Orders.{require, first_refusal, moved_by}
use Rattle.answer.specs.Refusals.{answer_number}
use Rattle.answer.proofs.Orders.{then_accepts, then_accepted, moved_number, moved_accepts, require_number, then_number}
use Rattle.decimal.specs.Places.{Stretch}
use Rattle.barcode.specs.Codes.{digit_at, modulus_of, issuer_of, free_of, prefix_answer, full_length_answer}
use Rattle.barcode.specs.Agreed.{list_answer, due_answer, barcode_check}
use Rattle.barcode.specs.Shown.{fields_of, decoded}
use Rattle.barcode.proofs.Lists.{empty_is_right, free_accepts, free_answers, shows_due, due_of_none, behind_checks}
use Rattle.barcode.proofs.RoundTrips.{check_tells}
use Rattle.barcode.proofs.Codes.{prefix_number, full_length_number}
use Rattle.barcode.specs.RoundTrips.{answer_of_barcode}
use Rattle.line.specs.Lines.{boxes, code_of, in_line, box_right, box_answer, checks_answer, line_body, line_answer, line_under, line_check}
use Rattle.line.specs.RoundTrips.{AcceptedIsBoxesAndCode, DueOfLineIsAsked, DueOfLineIsShown, LineAcceptedOrNoDueDate, NoDueDatePassesChecks, EmptyListAsksNothing, DecodedLineAnswers}
use Rattle.line.proofs.Boxes.{line_is_boxes_and_code}

pub line_tells : (agreed line : List ℕ) → line_check agreed line ≡ Accepted
    → (list_answer agreed ≡ Accepted) × (line_answer line ≡ Accepted) × (due_answer agreed (code_of line) ≡ Accepted)
line_tells agreed line e =
    let due = due_answer agreed (code_of line) in
    let list = (then_accepts (list_answer agreed) (line_under agreed line)).0 e in
    let passes = (then_accepts (line_answer line) (moved_by in_line due)).0 list.1 in
    (list.0, passes.0, (moved_accepts in_line due).0 passes.1)

pub line_accepts : (agreed line : List ℕ) → list_answer agreed ≡ Accepted → line_answer line ≡ Accepted → due_answer agreed (code_of line) ≡ Accepted
    → line_check agreed line ≡ Accepted
line_accepts agreed line right e due = rw (right, e, due)

-- the code of an accepted line is accepted under the same list
pub line_code : (agreed line : List ℕ) → line_check agreed line ≡ Accepted → barcode_check agreed (code_of line) ≡ Accepted
line_code agreed line e =
    let told = line_tells agreed line e in
    rw (told.0, ((line_is_boxes_and_code line).0 told.1).code, told.2)

pub accepted_is_boxes_and_code : AcceptedIsBoxesAndCode
accepted_is_boxes_and_code agreed line = (
  λ e.
      let sound = (line_is_boxes_and_code line).0 (line_tells agreed line e).1 in
      record { long = sound.long; checks = sound.checks; code = line_code agreed line e },
  λ a.
      let told = check_tells agreed (code_of line) a.code in
      line_accepts agreed line told.0 ((line_is_boxes_and_code line).1 (record { long = a.long; checks = a.checks; code = told.1 })) told.2,
)

pub due_of_line_is_asked : DueOfLineIsAsked
due_of_line_is_asked agreed line right =
    let due = free_accepts agreed (issuer_of (code_of line)) (free_of (code_of line)) in (
      λ e. let told = line_tells agreed line e in (told.1, due.0 told.2),
      λ h. line_accepts agreed line right h.0 (due.1 h.1),
    )

pub due_of_line_is_shown : DueOfLineIsShown
due_of_line_is_shown agreed line e = rw e (shows_due agreed (issuer_of (code_of line)) (free_of (code_of line)) (line_tells agreed line e).2)

pub line_accepted_or_no_due_date : LineAcceptedOrNoDueDate
line_accepted_or_no_due_date agreed line right e = (
  ⊎_elim (λ a. inl (line_accepts agreed line right e a)) (λ r. inr (rw (right, e) (ap (moved_by in_line) r))) (free_answers agreed (issuer_of (code_of line)) (free_of (code_of line))),
  λ n. line_accepts agreed line right e ((free_accepts agreed (issuer_of (code_of line)) (free_of (code_of line))).1 (inl n)),
)

-- no refusal of the checks has a number past 7
boxes_number : (line : List ℕ) (plan : List Stretch) → answer_number (first_refusal (box_answer line) plan) ≤ 7
boxes_number line [] = omega arith
boxes_number line (b ∷ plan) =
    then_number 7 (box_answer line b) (first_refusal (box_answer line) plan)
    (require_number 7 (box_right (modulus_of (digit_at 3 line)) line b) WrongBoxCheck (b.last + 1) (omega arith)) (boxes_number line plan)

line_number : (line : List ℕ) → answer_number (line_answer line) ≤ 7
line_number line =
    let code = full_length_answer (code_of line) in
    let boxed = first_refusal (box_answer line) boxes in
    let moved : answer_number (moved_by in_line code) ≤ 7 = rw (moved_number in_line code) (full_length_number (code_of line)) in
    then_number 7 (require (eqb (length line) 48) WrongLength 0) (line_body line) (require_number 7 (eqb (length line) 48) WrongLength 0 (omega arith))
    (then_number 7 (prefix_answer line) (checks_answer line) (prefix_number line) (then_number 7 boxed (moved_by in_line code) (boxes_number line boxes) moved))

pub no_due_date_passes_checks : NoDueDatePassesChecks
no_due_date_passes_checks agreed line e =
    behind_checks agreed (line_answer line) (moved_by in_line (due_answer agreed (code_of line))) (line_number line) e

pub empty_list_asks_nothing : EmptyListAsksNothing
empty_list_asks_nothing line = rw (empty_is_right, due_of_none (code_of line)) (then_accepted (line_answer line))

pub decoded_line_answers : DecodedLineAnswers
decoded_line_answers agreed line = answers (line_check agreed line)
  where
    answers : (a : Answer) → answer_of_barcode (decoded a (fields_of agreed (code_of line))) ≡ a
    answers Accepted = refl
    answers (Err refusal) = refl
