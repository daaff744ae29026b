-- A barcode built from its fields: issuer, kind, value and free field (SPEC.md, "Builder"). Assumes nothing.
use Rattle.std.specs.Prelude.{ℕ, ◌+◌, ◌^◌, List, [], ◌∷◌, ◌++◌, ltb, eqb, length}
use Rattle.answer.specs.declared.Reason.TheVariants.{WrongLength, NoDigit, UnknownSegment, UnknownKind, TooWide}
use Rattle.answer.specs.Answers.{Answer}
use Rattle.answer.specs.Orders.{require, ◌then◌, behind, moved_by, if_accepted}
use Rattle.decimal.specs.declared.Class.TheVariants.{Digit}
use Rattle.decimal.specs.Bytes.{is_of, each_is}
use Rattle.decimal.specs.Numbers.{digits_of}
use Rattle.decimal.specs.Places.{width_of}
use Rattle.modulus.specs.Checks.{check_of}
use Rattle.barcode.specs.declared.Issuer.{Issuer}
use Rattle.barcode.specs.Codes.{code_length, product, is_segment, is_kind, modulus_of, value, issuer_end, issuer, free}
use Rattle.barcode.specs.Agreed.{list_answer, free_answer}

-- the places before the check, and those behind it
abbrev pub head_of : ℕ → ℕ → List ℕ
head_of segment kind = (48 + product) ∷ (48 + segment) ∷ (48 + kind) ∷ []

abbrev pub tail_of : Issuer → ℕ → List ℕ → List ℕ
tail_of i amount rest = digits_of (width_of value) amount ++ (digits_of (width_of (issuer i.segment)) i.number ++ rest)

abbrev pub check_for : Issuer → ℕ → ℕ → List ℕ → ℕ
check_for i kind amount rest = check_of (modulus_of kind) (head_of i.segment kind ++ tail_of i amount rest)

abbrev pub code_with : ℕ → Issuer → ℕ → ℕ → List ℕ → List ℕ
code_with check i kind amount rest = head_of i.segment kind ++ (48 + check) ∷ tail_of i amount rest

abbrev pub built_of : Issuer → ℕ → ℕ → List ℕ → List ℕ
built_of i kind amount rest = code_with (check_for i kind amount rest) i kind amount rest

-- builder: 1 for the caller's 44 bytes, 4, 5, 1 for the free field, 21 value, 21 issuer, 2; every place but 0 is a
-- place in the barcode
unfoldable pub build_answer : ℕ → Issuer → ℕ → ℕ → List ℕ → Answer
build_answer size i kind amount rest =
    require (eqb size code_length) WrongLength 0
    then require (is_segment i.segment) UnknownSegment 2
    then require (is_kind kind) UnknownKind 3
    then require (eqb (length rest) (width_of (free i.segment))) WrongLength 0
    then require (ltb amount (10 ^ width_of value)) TooWide value.first
    then require (ltb i.number (10 ^ width_of (issuer i.segment))) TooWide (issuer i.segment).first
    then moved_by (behind (issuer_end i.segment)) (each_is (is_of Digit) NoDigit 1 rest)

-- as a caller asks it: 25 before everything, and behind 2 the due date of an issuer that agreed on one, 11
abbrev pub build_check : List ℕ → ℕ → Issuer → ℕ → ℕ → List ℕ → Answer
build_check agreed size i kind amount rest =
    list_answer agreed then build_answer size i kind amount rest then free_answer agreed i rest

-- the caller's buffer after it: the barcode, or what it held before if the answer is a refusal
abbrev pub built_into : Answer → Issuer → ℕ → ℕ → List ℕ → List ℕ → List ℕ
built_into result i kind amount rest old = if_accepted result (built_of i kind amount rest) old
