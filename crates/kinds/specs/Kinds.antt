-- What each kind of field may hold (SPEC.md, "Records" and "Field bytes"). Assumes nothing.
use Rattle.std.specs.Prelude.{ℕ, ◌+◌, Bool, true, false, ◌&&◌, ◌||◌, List, [], ◌∷◌, ◌↔◌, ◌⊎◌, ◌≡◌, eqb, length, get_or}
use Rattle.answer.specs.declared.Reason.TheVariants.{NoDigit, NoText, FixedDiffers, NoDate, UnknownCode}
use Rattle.answer.specs.Answers.{Answer}
use Rattle.answer.specs.Orders.{require, ◌then◌}
use Rattle.decimal.specs.declared.Class.TheVariants as class
use Rattle.decimal.specs.Bytes.{within, is_of, all, each_is}
use Rattle.decimal.specs.Numbers.{number_of}
use Rattle.calendar.specs.Dates.{date_of, is_found}
use Rattle.barcode.specs.Agreed.{barcode_under}
use Rattle.layout.specs.declared.Kind.{Kind}
use Rattle.layout.specs.declared.Kind.TheVariants.{Mark, Version, Service, Blank, Text, Digits, Money, Date, Barcode, Capture, Form}
use Rattle.kinds.specs.Terms.{Terms, is_version, captures_of, forms_of}

-- two lists of bytes are the same
abbrev pub same : List ℕ → List ℕ → Bool
same [] [] = true
same [] (b ∷ bs) = false
same (a ∷ xs) [] = false
same (a ∷ xs) (b ∷ bs) = eqb a b && same xs bs

-- two digits that are the number of a version: 04 or 06
unfoldable pub is_version_text : List ℕ → Bool
is_version_text bs = (eqb (length bs) 2 && all (is_of class.Digit) bs) && is_version (number_of bs)

-- the 16 characters CODIGO DE BARRAS and one blank; the second is byte 79, O, or byte 211, the same with its accent
abbrev pub service_of : ℕ → List ℕ
service_of second = 67 ∷ second ∷ 68 ∷ 73 ∷ 71 ∷ 79 ∷ 32 ∷ 68 ∷ 69 ∷ 32 ∷ 66 ∷ 65 ∷ 82 ∷ 82 ∷ 65 ∷ 83 ∷ 32 ∷ []

abbrev pub is_spelling : ℕ → Bool
is_spelling second = eqb second 79 || eqb second 211

unfoldable pub is_service : List ℕ → Bool
is_service bs = is_spelling (get_or bs 1 0) && same bs (service_of (get_or bs 1 0))

-- a date: digits, then a day of the calendar
unfoldable pub date_answer : List ℕ → Answer
date_answer bs = each_is (is_of class.Digit) NoDigit 1 bs then require (is_found (date_of bs)) NoDate 1

-- one of so many captures: they count from `1` with the customer's bill and from `a` without it
abbrev pub is_capture_among : ℕ → ℕ → Bool
is_capture_among count b = within 49 (48 + count) b || within 97 (96 + count) b

-- capture: under 04 `1` to `6` or `a` to `f`, under 06 `1` to `9` or `a` to `i`
unfoldable pub is_capture : ℕ → ℕ → Bool
is_capture version b = is_capture_among (captures_of version) b

-- payment form: under 04 `1` to `3`, under 06 `1` to `6`
unfoldable pub is_form : ℕ → ℕ → Bool
is_form version b = within 49 (48 + forms_of version) b

-- a field's bytes, answered with places in the field: only here it is said what a kind may hold
unfoldable pub kind_answer : Terms → Kind → List ℕ → Answer
kind_answer t (Mark byte) bs = require (same bs (byte ∷ [])) FixedDiffers 1
kind_answer t Version bs = require (is_version_text bs) FixedDiffers 1
kind_answer t Service bs = require (is_service bs) FixedDiffers 1
kind_answer t Blank bs = require (all (is_of class.Blank) bs) FixedDiffers 1
kind_answer t Text bs = each_is (is_of class.Text) NoText 1 bs
kind_answer t Digits bs = each_is (is_of class.Digit) NoDigit 1 bs
kind_answer t Money bs = each_is (is_of class.Digit) NoDigit 1 bs
kind_answer t Date bs = date_answer bs
kind_answer t Barcode bs = barcode_under t.agreed bs
kind_answer t Capture bs = require (is_capture t.version (get_or bs 0 0)) UnknownCode 1
kind_answer t Form bs = require (is_form t.version (get_or bs 0 0)) UnknownCode 1

-- Promises.

-- a header's version is the text 04 or 06, and no other
abbrev pub VersionsAreTwoTexts : Type 0
VersionsAreTwoTexts = (bs : List ℕ) → (is_version_text bs ≡ true) ↔ ((bs ≡ 48 ∷ 52 ∷ []) ⊎ (bs ≡ 48 ∷ 54 ∷ []))

-- of the terms only capture and payment form depend on the version, and only the barcode on the list
abbrev pub OtherKindsIgnoreTerms : Type 0
OtherKindsIgnoreTerms =
    (t u : Terms) (k : Kind) (bs : List ℕ) → (k ≡ Barcode → t.agreed ≡ u.agreed)
    → (k ≡ Capture → t.version ≡ u.version) → (k ≡ Form → t.version ≡ u.version)
    → kind_answer t k bs ≡ kind_answer u k bs
