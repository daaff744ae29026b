-- Laws of the kinds of fields. Assumes nothing.
use Rattle.std.specs.Prelude.{None, Some}
use Prim.Native.Nat.{ℕ, ◌≤◌}
use mathlib.Core.Bool.{Bool, true, false, cond, ◌&&◌, and-eq-true_iff}
use mathlib.Core.List.{List, [], ◌∷◌}
use mathlib.Core.Path.{◌≡◌, refl}
use native.Mathlib.Omega.{arith}
use borrow.Author.Tests.{eqb-true}
use lib.Dec.{eqb}
use lib.ListN.{length, get_or}
use Rattle.answer.specs.declared.Reason.{Reason}
use Rattle.answer.specs.declared.Reason.TheVariants.{NoDigit, NoText, FixedDiffers, NoDate, UnknownCode}
use Rattle.answer.specs.Answers.{Accepted}
use Rattle.answer.specs.Refusals.{answer_place}
use Rattle.answer.specs.Orders.{require}
use Rattle.answer.proofs.Orders.{require_place, then_place}
use Rattle.decimal.specs.declared.Class.TheVariants as class
use Rattle.decimal.specs.declared.Class.TheVariants.{Digit}
use Rattle.decimal.specs.Bytes.{is_of, all, each_is}
use Rattle.decimal.proofs.Bytes.{each_accepts, each_place}
use Rattle.calendar.specs.declared.Date.{Date}
use Rattle.calendar.specs.Dates.{is_date, spelled, date_of, is_found}
use Rattle.barcode.proofs.Lists.{under_place}
use Rattle.layout.specs.declared.Kind.{Kind}
use Rattle.layout.specs.declared.Kind.TheVariants as kind
use Rattle.kinds.specs.Terms.{Terms}
use Rattle.kinds.specs.Kinds.{same, is_version_text, is_service, date_answer, is_capture, is_form, kind_answer}

-- lists that are the same are equal
pub same_equal : (xs bs : List ℕ) → same xs bs ≡ true → xs ≡ bs
same_equal [] [] t = refl
same_equal [] (b ∷ bs) t = cc
same_equal (a ∷ xs) [] t = cc
same_equal (a ∷ xs) (b ∷ bs) t =
    let both = (and-eq-true_iff (eqb a b) (same xs bs)).0 t in
    rw (eqb-true a b both.0, same_equal xs bs both.1)

-- a date is eight digits
dated_digits : (bs : List ℕ) (d : Date) → date_of bs ≡ Some d → all (is_of Digit) bs ≡ true
unfolding date_of
dated_digits bs d e = go (eqb (length bs) 8 && (all (is_of Digit) bs && is_date (spelled bs))) refl e
  where
    go : (t : Bool) → (eqb (length bs) 8 && (all (is_of Digit) bs && is_date (spelled bs))) ≡ t
        → cond t (Some (spelled bs)) None ≡ Some d
        → all (is_of Digit) bs ≡ true
    go true h q = ((and-eq-true_iff (all (is_of Digit) bs) (is_date (spelled bs))).0 ((and-eq-true_iff (eqb (length bs) 8) (all (is_of Digit) bs && is_date (spelled bs))).0 h).1).0
    go false h q = let z : ◌≡◌ {A = ℕ} 0 1 = cc in absurd (omega arith)

pub date_accepted : (bs : List ℕ) (d : Date) → date_of bs ≡ Some d → Accepted ≡ date_answer bs
unfolding date_answer
date_accepted bs d e = rw ((each_accepts (is_of Digit) NoDigit 1 bs).1 (dated_digits bs d e), e)

-- no place of an answer is far past a field of a record
at_first : (t : Bool) (why : Reason) → answer_place (require t why 1) ≤ 151
at_first t why = require_place 151 t why 1 (omega arith)

in_part : (ok : ℕ → Bool) (why : Reason) (bs : List ℕ) → length bs ≤ 150 → answer_place (each_is ok why 1 bs) ≤ 151
in_part ok why bs h = omega (arith, each_place ok why 1 bs)

pub kind_place : (t : Terms) (k : Kind) (bs : List ℕ) → length bs ≤ 150 → answer_place (kind_answer t k bs) ≤ 151
unfolding kind_answer date_answer
kind_place t (kind.Mark byte) bs h = at_first (same bs (byte ∷ [])) FixedDiffers
kind_place t kind.Version bs h = at_first (is_version_text bs) FixedDiffers
kind_place t kind.Service bs h = at_first (is_service bs) FixedDiffers
kind_place t kind.Blank bs h = at_first (all (is_of class.Blank) bs) FixedDiffers
kind_place t kind.Text bs h = in_part (is_of class.Text) NoText bs h
kind_place t kind.Digits bs h = in_part (is_of Digit) NoDigit bs h
kind_place t kind.Money bs h = in_part (is_of Digit) NoDigit bs h
kind_place t kind.Date bs h =
    then_place 151 (each_is (is_of Digit) NoDigit 1 bs) (require (is_found (date_of bs)) NoDate 1) (in_part (is_of Digit) NoDigit bs h) (at_first (is_found (date_of bs)) NoDate)
kind_place t kind.Barcode bs h = omega (arith, under_place t.agreed bs)
kind_place t kind.Capture bs h = at_first (is_capture t.version (get_or bs 0 0)) UnknownCode
kind_place t kind.Form bs h = at_first (is_form t.version (get_or bs 0 0)) UnknownCode
