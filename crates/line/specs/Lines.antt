-- The typed line of 48 digits (SPEC.md, "Typed line"). Assumes nothing.
use Rattle.std.specs.Prelude.{ℕ, ◌+◌, ◌-◌, ◌/◌, Bool, List, [], ◌∷◌, ◌++◌, eqb, length, get_or}
use Rattle.answer.specs.declared.Reason.TheVariants.{WrongLength, WrongBoxCheck}
use Rattle.answer.specs.Answers.{Answer}
use Rattle.answer.specs.Orders.{require, ◌then◌, first_refusal, moved_by}
use Rattle.decimal.specs.Places.{Stretch, part_at, gather}
use Rattle.modulus.specs.declared.Modulus.{Modulus}
use Rattle.modulus.specs.Checks.{check_of}
use Rattle.barcode.specs.Shown.{Decoded, fields_of, decoded}
use Rattle.barcode.specs.Codes.{code_length, digit_at, modulus_of, prefix_answer, full_length_answer}
use Rattle.barcode.specs.Agreed.{list_answer, due_answer, barcode_under}

abbrev pub line_length : ℕ
line_length = 48

-- four boxes of eleven barcode digits, each followed by its check: places 12, 24, 36, 48
abbrev pub box_digits : ℕ
box_digits = 11

abbrev pub boxes : List Stretch
boxes =
    record { first = 1; last = 11 }
    ∷ record { first = 13; last = 23 }
    ∷ record { first = 25; last = 35 }
    ∷ record { first = 37; last = 47 }
    ∷ []

-- the barcode that a line holds, and where a place of the barcode is in the line
abbrev pub code_of : List ℕ → List ℕ
code_of line = gather boxes line

abbrev pub in_line : ℕ → ℕ
in_line place = place + (place - 1) / box_digits

-- a box is right if the byte behind it is its check under the modulus; the line's third digit names it for all four
unfoldable pub box_right : Modulus → List ℕ → Stretch → Bool
box_right m line box = eqb (get_or line box.last 0) (48 + check_of m (part_at box line))

abbrev pub box_answer : List ℕ → Stretch → Answer
box_answer line box = require (box_right (modulus_of (digit_at 3 line)) line box) WrongBoxCheck (box.last + 1)

-- 6, lowest box first, then an answer about the barcode, at its place in the line
abbrev pub boxes_then : List ℕ → Answer → Answer
boxes_then line of_code = first_refusal (box_answer line) boxes then moved_by in_line of_code

abbrev pub checks_answer : List ℕ → Answer
checks_answer line = boxes_then line (full_length_answer (code_of line))

abbrev pub line_body : List ℕ → Answer
line_body line = prefix_answer line then checks_answer line

-- the checks of a typed line: 1, 2, 3, 4, 5, 6, then those of its barcode, of which only 7 is left, as the rest came
-- before (`OnlySevenBehindBoxes`)
abbrev pub line_answer : List ℕ → Answer
line_answer line = require (eqb (length line) line_length) WrongLength 0 then line_body line

-- under a list of agreed issuers that was judged: last 11, at the free field's first place in the line
abbrev pub line_under : List ℕ → List ℕ → Answer
line_under agreed line = line_answer line then moved_by in_line (due_answer agreed (code_of line))

-- as a caller asks it: 25 before everything
abbrev pub line_check : List ℕ → List ℕ → Answer
line_check agreed line = list_answer agreed then line_under agreed line

abbrev pub decoded_line : List ℕ → List ℕ → Decoded
decoded_line agreed line = decoded (line_check agreed line) (fields_of agreed (code_of line))

-- Written from a barcode: its quarters, each followed by its check.

abbrev pub quarters : List Stretch
quarters =
    record { first = 1; last = 11 }
    ∷ record { first = 12; last = 22 }
    ∷ record { first = 23; last = 33 }
    ∷ record { first = 34; last = code_length }
    ∷ []

abbrev pub checked_box : Modulus → List ℕ → List ℕ
checked_box m part = part ++ (48 + check_of m part) ∷ []

abbrev pub with_checks : Modulus → List Stretch → List ℕ → List ℕ
with_checks m [] code = []
with_checks m (q ∷ qs) code = checked_box m (part_at q code) ++ with_checks m qs code

abbrev pub line_of : List ℕ → List ℕ
line_of code = with_checks (modulus_of (digit_at 3 code)) quarters code

-- Both conversions give 25 first, then 1 if the length of the caller's buffer or of what is read is wrong, then the
-- refusals of what is read.

abbrev pub to_line_check : List ℕ → ℕ → List ℕ → Answer
to_line_check agreed size code =
    list_answer agreed then require (eqb size line_length) WrongLength 0 then barcode_under agreed code

abbrev pub to_code_check : List ℕ → ℕ → List ℕ → Answer
to_code_check agreed size line =
    list_answer agreed then require (eqb size code_length) WrongLength 0 then line_under agreed line
