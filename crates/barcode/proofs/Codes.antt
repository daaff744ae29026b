-- Laws of the barcode's parts, of its general check and of its answer. Assumes nothing.
use Prim.Native.Nat.{ℕ, ◌+◌, ◌-◌, ◌%◌, ◌≤◌}
use mathlib.Core.Bool.{Bool, true, false, cond}
use mathlib.Core.List.{List, [], ◌++◌, append-nil}
use mathlib.Core.Logic.{◌↔◌, ⊎_elim}
use mathlib.Core.Path.{◌≡◌, refl, ap, ◌∙◌}
use native.Mathlib.Nat.{mod-add-mod, add-mod-mod}
use native.Mathlib.Omega.{arith}
use borrow.Author.Tests.{eqb-true, eq-eqb}
use lib.Dec.{eqb}
use lib.ListN.{length, take, drop, get_or, length-drop}
use lib.Seq.{length-take-le}
use Rattle.answer.specs.declared.Reason.TheVariants.{WrongLength, NoDigit, WrongProduct, UnknownSegment, UnknownKind, WrongGeneralCheck}
use Rattle.answer.specs.Answers.{Accepted}
use Rattle.answer.specs.Refusals.{answer_number, answer_place}
use Rattle.answer.specs.Orders.{require, ◌then◌}
use Rattle.answer.proofs.Orders.{require_accepts, then_accepts, require_place, then_place, require_number, then_number}
use Rattle.answer.proofs.Steps.{passed}
use Rattle.answer.proofs.Tests.{or_cases}
use Rattle.decimal.specs.declared.Class.TheVariants.{Digit}
use Rattle.decimal.specs.Bytes.{within, is_of, all, each_is}
use Rattle.decimal.specs.Numbers.{value_of, number_of}
use Rattle.decimal.specs.LowHalves.{low_number_of}
use Rattle.decimal.specs.Places.{gather}
use Rattle.decimal.proofs.Bytes.{within_bounds, each_place, each_number, each_accepts, all_of_part}
use Rattle.decimal.proofs.Numbers.{low_of_digits}
use Rattle.modulus.specs.declared.Modulus.{Modulus}
use Rattle.modulus.specs.Checks.{size_of, weighted_sum, digit_of_remainder, check_of}
use Rattle.modulus.proofs.Sums.{parts_compose}
use Rattle.barcode.specs.declared.Issuer.{Issuer}
use Rattle.barcode.specs.Codes.{issuer_of, digit_at, product, is_segment, is_kind, modulus_of, checked, issuer_end, first_three_answer, general_check, general_right, prefix_answer, full_length_answer, barcode_answer}

-- past the end
pub no_digit : 0 ≡ value_of 0
unfolding value_of is_of
no_digit = refl

-- the check of the 43 digits from the remainders of their two stretches
pub general_check_holds : (m : Modulus) (code : List ℕ) → length code ≡ 44 → {x y : ℕ} → x ≡ weighted_sum m 40 (take 3 code) % size_of m
    → y ≡ weighted_sum m 0 (take 40 (drop 4 code)) % size_of m → digit_of_remainder m ((x + y) % size_of m) ≡ check_of m (gather checked code)
general_check_holds m code n ex ey =
    let b = take 40 (drop 4 code) in
    let l : length (b ++ []) ≡ 40 = rw (append-nil b) (length-take-le 40 (drop 4 code) (omega (arith, length-drop 4 code))) in
    let s : weighted_sum m 0 (gather checked code) ≡ weighted_sum m 40 (take 3 code) + weighted_sum m 0 b
    = rw l at (parts_compose m 0 (take 3 code) (b ++ [])) ∙ rw (append-nil b) in
    rw (ex, ey, mod-add-mod, add-mod-mod, s)

pub general_as : (code : List ℕ) → length code ≡ 44 → {m : Modulus} {d x y r k : ℕ} → d ≡ digit_at 3 code → m ≡ modulus_of d
    → x ≡ weighted_sum m 40 (take 3 code) % size_of m → y ≡ weighted_sum m 0 (take 40 (drop 4 code)) % size_of m → r ≡ (x + y) % size_of m → k ≡ digit_of_remainder m r
    → k ≡ general_check code
general_as code n {m} ed em ex ey er ek =
    let e : m ≡ modulus_of (digit_at 3 code) = em ∙ ap modulus_of ed in
    rw (ek, er, ← e, general_check_holds m code n ex ey)

-- 3, 4 and 5 depend on the first three bytes alone
pub first_three_same : (l k : List ℕ) → get_or l 0 0 ≡ get_or k 0 0 → get_or l 1 0 ≡ get_or k 1 0 → get_or l 2 0 ≡ get_or k 2 0 → first_three_answer l ≡ first_three_answer k
unfolding first_three_answer
first_three_same l k a b c = rw (a, b, c)

-- no place of its answer is past its end
first_three_place : (l : List ℕ) → answer_place (first_three_answer l) ≤ 45
unfolding first_three_answer
first_three_place l =
    let a = require (eqb (digit_at 1 l) product) WrongProduct 1 in
    let b = require (is_segment (digit_at 2 l)) UnknownSegment 2 in
    let c = require (is_kind (digit_at 3 l)) UnknownKind 3 in
    then_place 45 a (b then c) (require_place 45 (eqb (digit_at 1 l) product) WrongProduct 1 (omega arith))
    (then_place 45 b c (require_place 45 (is_segment (digit_at 2 l)) UnknownSegment 2 (omega arith)) (require_place 45 (is_kind (digit_at 3 l)) UnknownKind 3 (omega arith)))

pub code_place : (code : List ℕ) → answer_place (barcode_answer code) ≤ 45
code_place code = go (eqb (length code) 44) refl
  where
    go : (t : Bool) → eqb (length code) 44 ≡ t → answer_place (require t WrongLength 0 then full_length_answer code) ≤ 45
    go false e = omega arith
    go true e =
        then_place 45 (prefix_answer code) (require (general_right code) WrongGeneralCheck 4) (then_place 45 (each_is (is_of Digit) NoDigit 1 code) (first_three_answer code) (omega (arith, each_place (is_of Digit) NoDigit 1 code, eqb-true (length code) 44 e))
        (first_three_place code))
        (require_place 45 (general_right code) WrongGeneralCheck 4 (omega arith))

-- no refusal of its checks has a number past 7
first_three_number : (l : List ℕ) → answer_number (first_three_answer l) ≤ 7
unfolding first_three_answer
first_three_number l =
    let a = require (eqb (digit_at 1 l) product) WrongProduct 1 in
    let b = require (is_segment (digit_at 2 l)) UnknownSegment 2 in
    let c = require (is_kind (digit_at 3 l)) UnknownKind 3 in
    then_number 7 a (b then c) (require_number 7 (eqb (digit_at 1 l) product) WrongProduct 1 (omega arith))
    (then_number 7 b c (require_number 7 (is_segment (digit_at 2 l)) UnknownSegment 2 (omega arith)) (require_number 7 (is_kind (digit_at 3 l)) UnknownKind 3 (omega arith)))

pub prefix_number : (l : List ℕ) → answer_number (prefix_answer l) ≤ 7
prefix_number l =
    then_number 7 (each_is (is_of Digit) NoDigit 1 l) (first_three_answer l) (each_number 7 (is_of Digit) NoDigit 1 l (omega arith)) (first_three_number l)

pub full_length_number : (code : List ℕ) → answer_number (full_length_answer code) ≤ 7
full_length_number code =
    then_number 7 (prefix_answer code) (require (general_right code) WrongGeneralCheck 4) (prefix_number code) (require_number 7 (general_right code) WrongGeneralCheck 4 (omega arith))

pub issuer_end_range : (s : ℕ) → (19 ≤ issuer_end s) × (issuer_end s ≤ 23)
issuer_end_range s = go (eqb s 6)
  where
    go : (t : Bool) → (19 ≤ cond t 23 19) × (cond t 23 19 ≤ 23)
    go true = (omega arith, omega arith)
    go false = (omega arith, omega arith)

-- What an accepting answer tells, and what makes it accept.

pub first_three_accepts : (l : List ℕ)
    → (first_three_answer l ≡ Accepted) ↔ ((digit_at 1 l ≡ product) × (is_segment (digit_at 2 l) ≡ true) × (is_kind (digit_at 3 l) ≡ true))
unfolding first_three_answer
first_three_accepts l = (
  λ e.
      let a = passed (eqb (digit_at 1 l) product) WrongProduct 1 e in
      let b = passed (is_segment (digit_at 2 l)) UnknownSegment 2 a.1 in
      (eqb-true (digit_at 1 l) product a.0, b.0, (require_accepts (is_kind (digit_at 3 l)) UnknownKind 3).0 b.1),
  λ h. rw (eq-eqb (digit_at 1 l) product h.0, h.1, h.2),
)

pub prefix_accepts : (l : List ℕ) → (prefix_answer l ≡ Accepted) ↔ ((all (is_of Digit) l ≡ true) × (first_three_answer l ≡ Accepted))
prefix_accepts l =
    let digits = each_accepts (is_of Digit) NoDigit 1 l in
    let both = then_accepts (each_is (is_of Digit) NoDigit 1 l) (first_three_answer l) in
    (λ e. (digits.0 (both.0 e).0, (both.0 e).1), λ h. both.1 (digits.1 h.0, h.1))

pub record Good (code : List ℕ) : Type 0 where
  pub long : length code ≡ 44
  pub digits : all (is_of Digit) code ≡ true
  pub first_three : first_three_answer code ≡ Accepted
  pub general : general_right code ≡ true

pub good : (code : List ℕ) → barcode_answer code ≡ Accepted → Good code
good code e =
    let l = passed (eqb (length code) 44) WrongLength 0 e in
    let body = (then_accepts (prefix_answer code) (require (general_right code) WrongGeneralCheck 4)).0 l.1 in
    let prefix = (prefix_accepts code).0 body.0 in
    record {
      long = eqb-true _ _ l.0;
      digits = prefix.0;
      first_three = prefix.1;
      general = (require_accepts (general_right code) WrongGeneralCheck 4).0 body.1;
    }

pub accepted : (code : List ℕ) → Good code → barcode_answer code ≡ Accepted
accepted code g = rw (eq-eqb _ _ g.long, (prefix_accepts code).1 (g.digits, g.first_three), g.general)

pub accepted_length : (code : List ℕ) → barcode_answer code ≡ Accepted → length code ≡ 44
accepted_length code e = (good code e).long

-- The fields of 44 digits, from what each part was read as.
module _ (code : List ℕ) (n : length code ≡ 44) (a : all (is_of Digit) code ≡ true) where
  pub part_number : {r : ℕ} (from count : ℕ) → count ≤ 19 → from + count ≤ 44 → r ≡ low_number_of (take count (drop from code)) → r ≡ number_of (take count (drop from code))
  part_number from count small fits e =
      let l : length (take count (drop from code)) ≡ count = length-take-le count (drop from code) (omega (arith, length-drop from code)) in
      e ∙ low_of_digits (take count (drop from code)) (all_of_part (is_of Digit) from count code a) (omega arith)

  pub as_issuer : {s e i : ℕ} → s ≡ digit_at 2 code → e ≡ issuer_end s → i ≡ low_number_of (take (e - 15) (drop 15 code))
      → ◌≡◌ {A = Issuer} (record { segment = s; number = i }) (issuer_of code)
  as_issuer {s} {e} es ee ei =
      let range = issuer_end_range s in
      let fi = part_number 15 (e - 15) (omega arith) (omega arith) ei in
      let f : e ≡ issuer_end (digit_at 2 code) = ee ∙ ap issuer_end es in
      rw (fi, f, es)

-- segment and kind are one digit each
pub segment_small : (s : ℕ) → is_segment s ≡ true → s ≤ 9
segment_small s h =
    ⊎_elim (λ e. omega (arith, (within_bounds 1 7 s e).1)) (λ e. omega (arith, eqb-true s 9 e))
    (or_cases (within 1 7 s) (eqb s 9) h)

pub kind_small : (k : ℕ) → is_kind k ≡ true → k ≤ 9
kind_small k h = (within_bounds 6 9 k h).1
