-- The barcode of 44 digits (SPEC.md, "Barcode"). Assumes nothing.
use Rattle.std.specs.Prelude.{ℕ, ◌+◌, ◌-◌, Bool, cond, ◌||◌, List, [], ◌∷◌, leb, eqb, length, get_or}
use Rattle.answer.specs.declared.Reason.TheVariants.{WrongLength, NoDigit, WrongProduct, UnknownSegment, UnknownKind, WrongGeneralCheck}
use Rattle.answer.specs.Answers.{Answer}
use Rattle.answer.specs.Orders.{require, ◌then◌}
use Rattle.decimal.specs.declared.Class.TheVariants.{Digit}
use Rattle.decimal.specs.Bytes.{within, is_of, each_is}
use Rattle.decimal.specs.Numbers.{value_of, number_of}
use Rattle.decimal.specs.Places.{Stretch, part_at, gather}
use Rattle.modulus.specs.declared.Modulus.{Modulus}
use Rattle.modulus.specs.declared.Modulus.TheVariants.{Ten, Eleven}
use Rattle.modulus.specs.Checks.{check_of}
use Rattle.barcode.specs.declared.Issuer.{Issuer}

abbrev pub code_length : ℕ
code_length = 44

-- the digit at a place
abbrev pub digit_at : ℕ → List ℕ → ℕ
digit_at place l = value_of (get_or l (place - 1) 0)

-- 1: product, 8
abbrev pub product : ℕ
product = 8

-- 2: segment, 1 to 7 or 9
abbrev pub is_segment : ℕ → Bool
is_segment s = within 1 7 s || eqb s 9

-- 3: value kind, 6 to 9; 6 and 7 name modulo 10, 8 and 9 modulo 11.
-- The value is centavos under 6 and 8, a reference quantity under 7 and 9.
abbrev pub is_kind : ℕ → Bool
is_kind k = within 6 9 k

abbrev pub modulus_of : ℕ → Modulus
modulus_of k = cond (leb k 7) Ten Eleven

-- 4: general check, over the 43 digits without place 4
abbrev pub checked : List Stretch
checked = record { first = 1; last = 3 } ∷ record { first = 5; last = code_length } ∷ []

-- 5-15: value
abbrev pub value : Stretch
value = record { first = 5; last = 15 }

-- 16-19: issuer, free field 20-44; in segment 6 instead 16-23: 8 digits of the CNPJ, free field 24-44
abbrev pub issuer_end : ℕ → ℕ
issuer_end s = cond (eqb s 6) 23 19

abbrev pub issuer : ℕ → Stretch
issuer s = record { first = 16; last = issuer_end s }

abbrev pub free : ℕ → Stretch
free s = record { first = issuer_end s + 1; last = code_length }

-- The fields. An issuer is the segment together with its number.

abbrev pub issuer_of : List ℕ → Issuer
issuer_of code = record { segment = digit_at 2 code; number = number_of (part_at (issuer (digit_at 2 code)) code) }

abbrev pub free_of : List ℕ → List ℕ
free_of code = part_at (free (digit_at 2 code)) code

-- The answer.

-- 3, 4, 5
unfoldable pub first_three_answer : List ℕ → Answer
first_three_answer l =
    require (eqb (digit_at 1 l) product) WrongProduct 1
    then require (is_segment (digit_at 2 l)) UnknownSegment 2
    then require (is_kind (digit_at 3 l)) UnknownKind 3

-- what a barcode and a typed line are checked for first: 2 over all digits, 3, 4, 5
abbrev pub prefix_answer : List ℕ → Answer
prefix_answer l = each_is (is_of Digit) NoDigit 1 l then first_three_answer l

abbrev pub general_check : List ℕ → ℕ
general_check code = check_of (modulus_of (digit_at 3 code)) (gather checked code)

unfoldable pub general_right : List ℕ → Bool
general_right code = eqb (get_or code 3 0) (48 + general_check code)

-- of 44 bytes, wherever they are
abbrev pub full_length_answer : List ℕ → Answer
full_length_answer code = prefix_answer code then require (general_right code) WrongGeneralCheck 4

-- barcode: 1, 2 over all digits, 3, 4, 5, 7
abbrev pub barcode_answer : List ℕ → Answer
barcode_answer code = require (eqb (length code) code_length) WrongLength 0 then full_length_answer code
