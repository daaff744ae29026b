-- What is promised of barcodes: they are their fields, and fields within their ranges are barcodes. Assumes nothing.
use Rattle.std.specs.Prelude.{Err, Ok, ℕ, ◌^◌, ◌<◌, true, List, ◌↔◌, ◌≡◌, length}
use Rattle.answer.specs.Answers.{Refused, Answer}
use Rattle.answer.specs.Answers as answer
use Rattle.decimal.specs.declared.Class.TheVariants.{Digit}
use Rattle.decimal.specs.Bytes.{is_of, all}
use Rattle.decimal.specs.Numbers.{digits_of}
use Rattle.decimal.specs.Places.{width_of, part_at}
use Rattle.barcode.specs.declared.Issuer.{Issuer}
use Rattle.barcode.specs.declared.Fields.{Fields}
use Rattle.barcode.specs.Shown.{Decoded, fields_of, no_fields, decoded_barcode, shown_free}
use Rattle.barcode.specs.Codes.{code_length, is_segment, is_kind, value, issuer, free, issuer_of, free_of}
use Rattle.barcode.specs.Agreed.{due_of, barcode_check, RightList, DueIsRight, ShowsDue}
use Rattle.barcode.specs.Building.{built_of, build_check, built_into}

-- the answer that a decoded barcode gives, and the fields that it shows
abbrev pub answer_of_barcode : Decoded → Answer
answer_of_barcode (Ok fields) = answer.Accepted
answer_of_barcode (Err refusal) = Err refusal

abbrev pub shown_fields : Decoded → Fields
shown_fields (Ok fields) = fields
shown_fields (Err refusal) = no_fields

abbrev pub DecodedAnswers : Type 0
DecodedAnswers =
    (agreed code : List ℕ) → answer_of_barcode (decoded_barcode agreed code) ≡ barcode_check agreed code

-- an accepted barcode shows its due date
abbrev pub DueIsShown : Type 0
DueIsShown =
    (agreed code : List ℕ) → barcode_check agreed code ≡ answer.Accepted
    → ShowsDue agreed (issuer_of code) (free_of code) (shown_fields (decoded_barcode agreed code)).due

-- a barcode built of these fields and free field
abbrev pub built_from : Fields → List ℕ → List ℕ
built_from f rest = built_of f.issuer f.kind f.value rest

abbrev pub from_answer : List ℕ → Fields → List ℕ → Answer
from_answer agreed f rest = build_check agreed code_length f.issuer f.kind f.value rest

-- value, issuer and free field of an accepted barcode are exactly its places 5 to 15, 16 to 19 or 23, and the rest
pub record ShowsItsPlaces (agreed code : List ℕ) (f : Fields) : Type 0 where
  pub amount : digits_of (width_of value) f.value ≡ part_at value code
  pub number :
      digits_of (width_of (issuer f.issuer.segment)) f.issuer.number ≡ part_at (issuer f.issuer.segment) code
  pub rest : shown_free agreed code ≡ part_at (free f.issuer.segment) code

abbrev pub FieldsAreItsPlaces : Type 0
FieldsAreItsPlaces =
    (agreed code : List ℕ) → answer_of_barcode (decoded_barcode agreed code) ≡ answer.Accepted
    → ShowsItsPlaces agreed code (shown_fields (decoded_barcode agreed code))

-- the fields of an accepted barcode and its free field build the same 44 bytes, under the same list
abbrev pub CodeIsItsFields : Type 0
CodeIsItsFields =
    (agreed code : List ℕ) → barcode_check agreed code ≡ answer.Accepted
    → (from_answer agreed (fields_of agreed code) (free_of code) ≡ answer.Accepted)
    × (built_from (fields_of agreed code) (free_of code) ≡ code)

-- what the builder accepted decodes, under the same list, to what it was given
abbrev pub BuiltIsRead : Type 0
BuiltIsRead =
    (agreed : List ℕ) (i : Issuer) (kind amount : ℕ) (rest : List ℕ)
    → build_check agreed code_length i kind amount rest ≡ answer.Accepted
    → (decoded_barcode agreed (built_of i kind amount rest)
    ≡ Ok (record { kind = kind; value = amount; issuer = i; due = due_of agreed i rest }))
    × (shown_free agreed (built_of i kind amount rest) ≡ rest)

-- each field is within its range
pub record WithinRanges (i : Issuer) (kind amount : ℕ) (rest : List ℕ) : Type 0 where
  pub segment : is_segment i.segment ≡ true
  pub kinds : is_kind kind ≡ true
  pub amounts : amount < 10 ^ width_of value
  pub number : i.number < 10 ^ width_of (issuer i.segment)
  pub long : length rest ≡ width_of (free i.segment)
  pub digits : all (is_of Digit) rest ≡ true

-- under a right list the builder accepts exactly the fields within their ranges, with a due date where the issuer
-- agreed on one: nothing is refused that the layout allows
abbrev pub FieldsWithinRangesBuild : Type 0
FieldsWithinRangesBuild =
    (agreed : List ℕ) (i : Issuer) (kind amount : ℕ) (rest : List ℕ) → RightList agreed
    → (build_check agreed code_length i kind amount rest ≡ answer.Accepted)
    ↔ (WithinRanges i kind amount rest × DueIsRight agreed i rest)

-- a refused build leaves every byte of the caller's buffer as it was
abbrev pub RefusedBuildKeeps : Type 0
RefusedBuildKeeps =
    (agreed out : List ℕ) (i : Issuer) (kind amount : ℕ) (rest : List ℕ)
    → (build_check agreed (length out) i kind amount rest ≡ answer.Accepted → ⊥)
    → built_into (build_check agreed (length out) i kind amount rest) i kind amount rest out ≡ out
