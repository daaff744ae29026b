-- Laws of the versions and their codes. Assumes nothing.
use Prim.Native.Nat.{ℕ, ◌+◌, ◌≤◌}
use mathlib.Core.Bool.{Bool, true, false, cond, ◌&&◌, ◌||◌, or-true, and-eq-true_iff}
use mathlib.Core.List.{List, [], ◌∷◌}
use mathlib.Core.Logic.{⊎_elim, inl, inr}
use mathlib.Core.Path.{◌≡◌, refl, sym, ap, ◌∙◌}
use native.Mathlib.Omega.{arith}
use borrow.Author.Tests.{eqb-true, le-leb}
use lib.Dec.{eqb, lit≤}
use lib.ListN.{length, get_or}
use Rattle.answer.specs.declared.Reason.TheVariants.{NoDigit, NoText, FixedDiffers, UnknownCode}
use Rattle.answer.specs.Answers.{Answer, Accepted}
use Rattle.answer.specs.Orders.{require, ◌then◌}
use Rattle.answer.proofs.Orders.{require_accepts, then_accepted}
use Rattle.answer.proofs.Tests.{or_cases, unequal}
use Rattle.decimal.specs.declared.Class.TheVariants as class
use Rattle.decimal.specs.declared.Class.TheVariants.{Digit, Text}
use Rattle.decimal.specs.Bytes.{within, is_of, all, each_is}
use Rattle.decimal.specs.Numbers.{value_of, number_of, digits_of}
use Rattle.decimal.proofs.Bytes.{within_bounds}
use Rattle.decimal.proofs.Numbers.{digits_of_number}
use Rattle.barcode.specs.Codes.{barcode_answer}
use Rattle.barcode.specs.Agreed.{due_answer}
use Rattle.barcode.proofs.Lists.{due_of_none}
use Rattle.layout.specs.declared.Kind.{Kind}
use Rattle.layout.specs.declared.Kind.TheVariants as kind
use Rattle.kinds.specs.Terms.{told, version04, version06, is_version, captures_of}
use Rattle.kinds.specs.Kinds.{same, is_version_text, is_service, date_answer, is_capture_among, is_capture, is_form, kind_answer, VersionsAreTwoTexts, OtherKindsIgnoreTerms}

is_false : (t : Bool) → (t ≡ true → ⊥) → t ≡ false
is_false true h = absurd (h refl)
is_false false h = refl

-- a byte within bounds is within wider ones, and within those of text
wider : (lo hi top b : ℕ) → hi ≤ top → within lo hi b ≡ true → within lo top b ≡ true
wider lo hi top b h t = let in-it = within_bounds lo hi b t in rw (le-leb lo b in-it.0, le-leb b top (omega (arith, in-it.1)))

text_byte : (lo hi b : ℕ) → 32 ≤ lo → hi ≤ 126 → within lo hi b ≡ true → is_of Text b ≡ true
unfolding is_of
text_byte lo hi b h k t =
    let in-it = within_bounds lo hi b t in
    rw (le-leb 32 b (omega (arith, in-it.0)), le-leb b 126 (omega (arith, in-it.1)))

few_captures : (v : ℕ) → captures_of v ≤ 9
few_captures v = go (eqb v version04) (eqb v version06)
  where
    go : (four six : Bool) → cond four 6 (cond six 9 0) ≤ 9
    go true six = lit≤ tt
    go false true = lit≤ tt
    go false false = lit≤ tt

-- a capture of any version is text
pub capture_is_text : (v b : ℕ) → is_capture v b ≡ true → is_of Text b ≡ true
unfolding is_capture
capture_is_text v b t =
    let few = few_captures v in
    ⊎_elim
    (text_byte 49 (48 + captures_of v) b (omega arith) (omega (arith, few)))
    (text_byte 97 (96 + captures_of v) b (omega arith) (omega (arith, few)))
    (or_cases (within 49 (48 + captures_of v) b) (within 97 (96 + captures_of v) b) t)

-- what is no version has no codes
pub no_capture : (b : ℕ) → is_capture_among 0 b ≡ false
no_capture b = is_false (is_capture_among 0 b) (λ t. ⊎_elim (λ e. omega (arith, within_bounds 49 48 b e)) (λ e. omega (arith, within_bounds 97 96 b e)) (or_cases (within 49 48 b) (within 97 96 b) t))

pub no_form : (b : ℕ) → within 49 48 b ≡ false
no_form b = is_false (within 49 48 b) (λ t. omega (arith, within_bounds 49 48 b t))

-- so what has a capture is a version
pub capture_has_version : (v b : ℕ) → is_capture v b ≡ true → is_version v ≡ true
unfolding is_capture
capture_has_version v b t = go (eqb v version04) (eqb v version06) t
  where
    go : (four six : Bool) → is_capture_among (cond four 6 (cond six 9 0)) b ≡ true → (four || six) ≡ true
    go true six t = refl
    go false true t = refl
    go false false t = unequal t (no_capture b)

-- what a field may hold under 04, it may hold under 06
more_captures : (b : ℕ) → is_capture version04 b ≡ true → is_capture version06 b ≡ true
unfolding is_capture
more_captures b t =
    ⊎_elim (λ e. rw (wider 49 54 57 b (lit≤ tt) e)) (λ e. rw (wider 97 102 105 b (lit≤ tt) e, or-true (within 49 57 b)))
    (or_cases (within 49 54 b) (within 97 102 b) t)

more_forms : (b : ℕ) → is_form version04 b ≡ true → is_form version06 b ≡ true
unfolding is_form
more_forms b t = wider 49 51 54 b (lit≤ tt) t

pub more_codes : (agreed : List ℕ) (k : Kind) (bs : List ℕ) → kind_answer (told version04 agreed) k bs ≡ Accepted → kind_answer (told version06 agreed) k bs ≡ Accepted
unfolding kind_answer
more_codes agreed (kind.Mark byte) bs e = e
more_codes agreed kind.Version bs e = e
more_codes agreed kind.Service bs e = e
more_codes agreed kind.Blank bs e = e
more_codes agreed kind.Text bs e = e
more_codes agreed kind.Digits bs e = e
more_codes agreed kind.Money bs e = e
more_codes agreed kind.Date bs e = e
more_codes agreed kind.Barcode bs e = e
more_codes agreed kind.Capture bs e =
    let b = get_or bs 0 0 in
    (require_accepts (is_capture version06 b) UnknownCode 1).1 (more_captures b ((require_accepts (is_capture version04 b) UnknownCode 1).0 e))
more_codes agreed kind.Form bs e =
    let b = get_or bs 0 0 in
    (require_accepts (is_form version06 b) UnknownCode 1).1 (more_forms b ((require_accepts (is_form version04 b) UnknownCode 1).0 e))

-- what it may hold under a list of agreed issuers is what it may hold under the empty list, with the due date of a barcode
abbrev pub due_of_kind : List ℕ → Kind → List ℕ → Answer
due_of_kind agreed (kind.Mark byte) bs = Accepted
due_of_kind agreed kind.Version bs = Accepted
due_of_kind agreed kind.Service bs = Accepted
due_of_kind agreed kind.Blank bs = Accepted
due_of_kind agreed kind.Text bs = Accepted
due_of_kind agreed kind.Digits bs = Accepted
due_of_kind agreed kind.Money bs = Accepted
due_of_kind agreed kind.Date bs = Accepted
due_of_kind agreed kind.Barcode bs = due_answer agreed bs
due_of_kind agreed kind.Capture bs = Accepted
due_of_kind agreed kind.Form bs = Accepted

pub kind_with_due : (v : ℕ) (agreed : List ℕ) (k : Kind) (bs : List ℕ) → kind_answer (told v agreed) k bs ≡ kind_answer (told v []) k bs then due_of_kind agreed k bs
unfolding kind_answer
kind_with_due v agreed (kind.Mark byte) bs = sym (then_accepted (require (same bs (byte ∷ [])) FixedDiffers 1))
kind_with_due v agreed kind.Version bs = sym (then_accepted (require (is_version_text bs) FixedDiffers 1))
kind_with_due v agreed kind.Service bs = sym (then_accepted (require (is_service bs) FixedDiffers 1))
kind_with_due v agreed kind.Blank bs = sym (then_accepted (require (all (is_of class.Blank) bs) FixedDiffers 1))
kind_with_due v agreed kind.Text bs = sym (then_accepted (each_is (is_of Text) NoText 1 bs))
kind_with_due v agreed kind.Digits bs = sym (then_accepted (each_is (is_of Digit) NoDigit 1 bs))
kind_with_due v agreed kind.Money bs = sym (then_accepted (each_is (is_of Digit) NoDigit 1 bs))
kind_with_due v agreed kind.Date bs = sym (then_accepted (date_answer bs))
kind_with_due v agreed kind.Barcode bs = rw (due_of_none bs, then_accepted (barcode_answer bs))
kind_with_due v agreed kind.Capture bs = sym (then_accepted (require (is_capture v (get_or bs 0 0)) UnknownCode 1))
kind_with_due v agreed kind.Form bs = sym (then_accepted (require (is_form v (get_or bs 0 0)) UnknownCode 1))

-- the texts 04 and 06
two_digits : (bs : List ℕ) (v : ℕ) → length bs ≡ 2 → all (is_of Digit) bs ≡ true → number_of bs ≡ v → bs ≡ digits_of 2 v
two_digits bs v n d e = sym (digits_of_number bs d) ∙ rw (n, e)

pub versions_are_two_texts : VersionsAreTwoTexts
unfolding is_version_text digits_of is_of value_of
versions_are_two_texts bs = (
  λ h.
      let both = (and-eq-true_iff (eqb (length bs) 2 && all (is_of Digit) bs) (is_version (number_of bs))).0 h in
      let text = (and-eq-true_iff (eqb (length bs) 2) (all (is_of Digit) bs)).0 both.0 in
      let n = eqb-true (length bs) 2 text.0 in
      ⊎_elim
      (λ e. inl (two_digits bs version04 n text.1 (eqb-true (number_of bs) version04 e)))
      (λ e. inr (two_digits bs version06 n text.1 (eqb-true (number_of bs) version06 e)))
      (or_cases (eqb (number_of bs) version04) (eqb (number_of bs) version06) both.1),
  λ h. ⊎_elim (λ e. ap is_version_text e) (λ e. ap is_version_text e) h,
)

pub other_kinds_ignore_terms : OtherKindsIgnoreTerms
unfolding kind_answer
other_kinds_ignore_terms t u (kind.Mark byte) bs b c f = refl
other_kinds_ignore_terms t u kind.Version bs b c f = refl
other_kinds_ignore_terms t u kind.Service bs b c f = refl
other_kinds_ignore_terms t u kind.Blank bs b c f = refl
other_kinds_ignore_terms t u kind.Text bs b c f = refl
other_kinds_ignore_terms t u kind.Digits bs b c f = refl
other_kinds_ignore_terms t u kind.Money bs b c f = refl
other_kinds_ignore_terms t u kind.Date bs b c f = refl
other_kinds_ignore_terms t u kind.Barcode bs b c f = rw (b refl)
other_kinds_ignore_terms t u kind.Capture bs b c f = rw (c refl)
other_kinds_ignore_terms t u kind.Form bs b c f = rw (f refl)
