-- The rule of each kind of a G's fields as one test of its bytes. Assumes nothing.
use Rattle.std.specs.Prelude.{None, Option, Some}
use Rattle.calendar.specs.declared.Date.{Date}
use Prim.Native.Nat.{ℕ}
use mathlib.Core.Bool.{true, ◌&&◌, and-eq-true_iff}
use mathlib.Core.List.{List, [], ◌∷◌}
use mathlib.Core.Logic.{◌↔◌}
use mathlib.Core.Path.{◌≡◌, refl, sym, ap, ◌∙◌}
use native.Mathlib.Omega.{arith}
use borrow.Author.Tests.{eq-eqb}
use lib.Dec.{eqb}
use lib.ListN.{length, get_or, take, drop}
use Rattle.answer.specs.declared.Reason.TheVariants.{NoDigit, NoText, FixedDiffers, NoDate, UnknownCode}
use Rattle.answer.specs.Answers.{Accepted}
use Rattle.answer.specs.Orders.{require}
use Rattle.answer.proofs.Orders.{require_accepts, then_accepts}
use Rattle.decimal.specs.declared.Class.TheVariants.{Digit, Blank, Text}
use Rattle.decimal.specs.Bytes.{is_of, all, each_is}
use Rattle.decimal.specs.Numbers.{number_of}
use Rattle.decimal.proofs.Bytes.{each_accepts}
use Rattle.decimal.proofs.Finite.{never}
use Rattle.calendar.specs.Dates.{date_of, is_found}
use Rattle.barcode.specs.Agreed.{barcode_under}
use Rattle.layout.specs.declared.Kind.TheVariants as kind
use Rattle.layout.specs.Layouts.{record_length}
use Rattle.kinds.specs.Terms.{Terms, is_version}
use Rattle.kinds.specs.Kinds.{is_capture, is_form, is_version_text, same, date_answer, kind_answer}
use Rattle.kinds.proofs.KindLaws.{date_accepted}

pub text : (t : Terms) (bs : List ℕ) → (kind_answer t kind.Text bs ≡ Accepted) ↔ (all (is_of Text) bs ≡ true)
unfolding kind_answer
text t bs = each_accepts (is_of Text) NoText 1 bs

pub money : (t : Terms) (bs : List ℕ) → (kind_answer t kind.Money bs ≡ Accepted) ↔ (all (is_of Digit) bs ≡ true)
unfolding kind_answer
money t bs = each_accepts (is_of Digit) NoDigit 1 bs

pub digits : (t : Terms) (bs : List ℕ) → (kind_answer t kind.Digits bs ≡ Accepted) ↔ (all (is_of Digit) bs ≡ true)
unfolding kind_answer
digits t bs = each_accepts (is_of Digit) NoDigit 1 bs

pub blank : (t : Terms) (bs : List ℕ) → (kind_answer t kind.Blank bs ≡ Accepted) ↔ (all (is_of Blank) bs ≡ true)
unfolding kind_answer
blank t bs = require_accepts (all (is_of Blank) bs) FixedDiffers 1

pub capture : (t : Terms) (bs : List ℕ) → (kind_answer t kind.Capture bs ≡ Accepted) ↔ (is_capture t.version (get_or bs 0 0) ≡ true)
unfolding kind_answer
capture t bs = require_accepts (is_capture t.version (get_or bs 0 0)) UnknownCode 1

pub form : (t : Terms) (bs : List ℕ) → (kind_answer t kind.Form bs ≡ Accepted) ↔ (is_form t.version (get_or bs 0 0) ≡ true)
unfolding kind_answer
form t bs = require_accepts (is_form t.version (get_or bs 0 0)) UnknownCode 1

pub code : (t : Terms) (bs : List ℕ) → (kind_answer t kind.Barcode bs ≡ Accepted) ↔ (barcode_under t.agreed bs ≡ Accepted)
unfolding kind_answer
code t bs = (λ e. e, λ e. e)

pub date : (t : Terms) (bs : List ℕ) → (kind_answer t kind.Date bs ≡ Accepted) ↔ (is_found (date_of bs) ≡ true)
unfolding kind_answer date_answer
date t bs = (
  λ e. (require_accepts (is_found (date_of bs)) NoDate 1).0 ((then_accepts (each_is (is_of Digit) NoDigit 1 bs) (require (is_found (date_of bs)) NoDate 1)).0 e).1,
  go (date_of bs) refl,
)
  where
    go : (d : Option Date) → date_of bs ≡ d → is_found (date_of bs) ≡ true → kind_answer t kind.Date bs ≡ Accepted
    go (Some d) f t = sym (date_accepted bs d f)
    go None f t = never (sym (ap is_found f) ∙ t)

-- the two bytes of a header's version are the number of one, and digits
pub version : (t : Terms) (bs : List ℕ) → kind_answer t kind.Version bs ≡ Accepted
    → (all (is_of Digit) bs ≡ true) × (is_version (number_of bs) ≡ true)
unfolding kind_answer is_version_text
version t bs e =
    let both = (and-eq-true_iff (eqb (length bs) 2 && all (is_of Digit) bs) (is_version (number_of bs))).0
    ((require_accepts (is_version_text bs) FixedDiffers 1).0 e) in
    (((and-eq-true_iff (eqb (length bs) 2) (all (is_of Digit) bs)).0 both.0).1, both.1)

pub mark : (t : Terms) (rec : List ℕ) → length rec ≡ record_length → get_or rec 0 0 ≡ 71 → kind_answer t (kind.Mark 71) (take 1 (drop 0 rec)) ≡ Accepted
unfolding kind_answer
mark t [] n e = absurd (omega arith)
mark t (b ∷ rec) n e = (require_accepts (same (b ∷ []) (71 ∷ [])) FixedDiffers 1).1 ((and-eq-true_iff (eqb b 71) true).1 (eq-eqb b 71 e, refl))
