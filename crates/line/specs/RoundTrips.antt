-- What is promised of typed lines and their barcodes. Assumes nothing.
use Rattle.std.specs.Prelude.{Ok, ℕ, true, false, List, [], ◌↔◌, ◌⊎◌, ◌≡◌, length}
use Rattle.answer.specs.declared.Reason.TheVariants.{NoDate, WrongGeneralCheck}
use Rattle.answer.specs.Answers.{Answer, Accepted, Refused}
use Rattle.answer.specs.Refusals.{answer_number}
use Rattle.answer.specs.Orders.{require, if_accepted, Each}
use Rattle.barcode.specs.declared.Issuer.{Issuer}
use Rattle.barcode.specs.Codes.{digit_at, modulus_of, free, issuer_of, free_of, prefix_answer, general_right, barcode_answer}
use Rattle.barcode.specs.Agreed.{is_agreed, due_of, barcode_check, RightList, DueIsRight, ShowsDue}
use Rattle.barcode.specs.Shown.{fields_of}
use Rattle.barcode.specs.Building.{built_of}
use Rattle.barcode.specs.RoundTrips.{answer_of_barcode, shown_fields, built_from, from_answer, WithinRanges}
use Rattle.line.specs.Lines.{line_length, boxes, code_of, in_line, box_right, line_answer, line_check, decoded_line, line_of, to_line_check, to_code_check}

-- a line passes its checks exactly when its four box checks hold and its barcode passes its own
pub record SoundLine (line : List ℕ) : Type 0 where
  pub long : length line ≡ line_length
  pub checks : Each (λ box. box_right (modulus_of (digit_at 3 line)) line box ≡ true) boxes
  pub code : barcode_answer (code_of line) ≡ Accepted

abbrev pub LineIsBoxesAndCode : Type 0
LineIsBoxesAndCode = (line : List ℕ) → (line_answer line ≡ Accepted) ↔ SoundLine line

-- and is accepted under a list exactly when its four box checks hold and its barcode is accepted under it
pub record AcceptedLine (agreed line : List ℕ) : Type 0 where
  pub long : length line ≡ line_length
  pub checks : Each (λ box. box_right (modulus_of (digit_at 3 line)) line box ≡ true) boxes
  pub code : barcode_check agreed (code_of line) ≡ Accepted

abbrev pub AcceptedIsBoxesAndCode : Type 0
AcceptedIsBoxesAndCode = (agreed line : List ℕ) → (line_check agreed line ≡ Accepted) ↔ AcceptedLine agreed line

-- under a right list a line is accepted exactly when its checks are and its due date is right
abbrev pub DueOfLineIsAsked : Type 0
DueOfLineIsAsked =
    (agreed line : List ℕ) → RightList agreed
    → (line_check agreed line ≡ Accepted)
    ↔ ((line_answer line ≡ Accepted) × DueIsRight agreed (issuer_of (code_of line)) (free_of (code_of line)))

-- an accepted line shows the due date of its barcode
abbrev pub DueOfLineIsShown : Type 0
DueOfLineIsShown =
    (agreed line : List ℕ) → line_check agreed line ≡ Accepted
    → let code = code_of line in
    ShowsDue agreed (issuer_of code) (free_of code) (shown_fields (decoded_line agreed line)).due

-- refused 11, at the free field's first place in the line
abbrev pub no_due_date : List ℕ → Answer
no_due_date line = Refused NoDate (in_line (free (issuer_of (code_of line)).segment).first)

-- one that passes its checks is accepted under a right list, or refused 11; and if its issuer did not agree on due
-- dates, it is accepted
abbrev pub LineAcceptedOrNoDueDate : Type 0
LineAcceptedOrNoDueDate =
    (agreed line : List ℕ) → RightList agreed → line_answer line ≡ Accepted
    → ((line_check agreed line ≡ Accepted) ⊎ (line_check agreed line ≡ no_due_date line))
    × (is_agreed agreed (issuer_of (code_of line)) ≡ false → line_check agreed line ≡ Accepted)

-- one that is refused 11 passes its checks: the due date is asked last
abbrev pub NoDueDatePassesChecks : Type 0
NoDueDatePassesChecks =
    (agreed line : List ℕ) → answer_number (line_check agreed line) ≡ 11 → line_answer line ≡ Accepted

-- under the empty list a line is answered as by its checks
abbrev pub EmptyListAsksNothing : Type 0
EmptyListAsksNothing = (line : List ℕ) → line_check [] line ≡ line_answer line

-- behind the boxes only 7 at place 4 is left: a line whose length, digits, first three places and boxes are right passes
-- its checks if its general check is right, else it is refused so
abbrev pub OnlySevenBehindBoxes : Type 0
OnlySevenBehindBoxes =
    (line : List ℕ) → length line ≡ line_length → prefix_answer line ≡ Accepted
    → Each (λ box. box_right (modulus_of (digit_at 3 line)) line box ≡ true) boxes
    → line_answer line ≡ require (general_right (code_of line)) WrongGeneralCheck 4

-- the answer that a decoded line gives is the line's
abbrev pub DecodedLineAnswers : Type 0
DecodedLineAnswers = (agreed line : List ℕ) → answer_of_barcode (decoded_line agreed line) ≡ line_check agreed line

-- line and barcode convert into each other and back, under one list
abbrev pub CodeToLineAndBack : Type 0
CodeToLineAndBack =
    (agreed code : List ℕ) → barcode_check agreed code ≡ Accepted
    → (line_check agreed (line_of code) ≡ Accepted) × (code_of (line_of code) ≡ code)

abbrev pub LineToCodeAndBack : Type 0
LineToCodeAndBack =
    (agreed line : List ℕ) → line_check agreed line ≡ Accepted
    → (barcode_check agreed (code_of line) ≡ Accepted) × (line_of (code_of line) ≡ line)

-- a line decoded to its fields and free field, built and converted is the same 48 bytes
abbrev pub LineIsItsFields : Type 0
LineIsItsFields =
    (agreed line : List ℕ) → line_check agreed line ≡ Accepted
    → (from_answer agreed (fields_of agreed (code_of line)) (free_of (code_of line)) ≡ Accepted)
    × (line_of (built_from (fields_of agreed (code_of line)) (free_of (code_of line))) ≡ line)

-- every field set within its ranges, with a due date where the issuer agreed on one, gives an accepted line, which
-- decodes to it
abbrev pub FieldsGiveALine : Type 0
FieldsGiveALine =
    (agreed : List ℕ) (i : Issuer) (kind amount : ℕ) (rest : List ℕ) → RightList agreed
    → WithinRanges i kind amount rest → DueIsRight agreed i rest
    → decoded_line agreed (line_of (built_of i kind amount rest))
    ≡ Ok (record { kind = kind; value = amount; issuer = i; due = due_of agreed i rest })

-- a refused conversion leaves every byte of the caller's buffer as it was
abbrev pub RefusedConversionsKeep : Type 0
RefusedConversionsKeep =
    (agreed out line code : List ℕ)
    → ((to_code_check agreed (length out) line ≡ Accepted → ⊥)
    → if_accepted (to_code_check agreed (length out) line) (code_of line) out ≡ out)
    × ((to_line_check agreed (length out) code ≡ Accepted → ⊥)
    → if_accepted (to_line_check agreed (length out) code) (line_of code) out ≡ out)
