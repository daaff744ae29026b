-- Laws of the fast path: what its checks show of a barcode's digits, and the answer from them. Assumes nothing.
use Rattle.std.specs.Prelude.{None}
use Prim.Native.Nat.{ℕ, ◌+◌, ◌%◌}
use mathlib.Core.Bool.{Bool, true, false}
use mathlib.Core.List.{List, [], ◌∷◌}
use mathlib.Core.Logic.{◌↔◌}
use mathlib.Core.Path.{◌≡◌, refl, sym, ap, ◌∙◌}
use native.Mathlib.Nat.{add-mod-mod}
use native.Mathlib.Omega.{arith}
use borrow.Author.Tests.{eqb-true, eq-eqb}
use lib.Dec.{eqb}
use lib.ListN.{length, take, drop, get_or, length-drop}
use lib.Seq.{take_all, length-take-le}
use Rattle.answer.specs.Answers.{Accepted}
use Rattle.decimal.specs.declared.Class.TheVariants.{Digit}
use Rattle.decimal.specs.Bytes.{is_of, all}
use Rattle.decimal.specs.Numbers.{value_of}
use Rattle.decimal.specs.Places.{gather}
use Rattle.decimal.proofs.Bytes.{all_of_part}
use Rattle.decimal.proofs.Numbers.{value_other}
use Rattle.modulus.specs.declared.Modulus.{Modulus}
use Rattle.modulus.specs.Checks.{both_sums, weighted_sum, size_of, digit_of_remainder}
use Rattle.modulus.proofs.Columns.{no_sum_tells}
use Rattle.modulus.proofs.Sums.{check_is_a_digit}
use Rattle.barcode.proofs.Codes.{general_as, first_three_accepts, good, accepted}
use Rattle.barcode.specs.Codes.{digit_at, product, is_segment, is_kind, modulus_of, checked, first_three_answer, general_check, general_right, barcode_answer}

-- a byte whose value passes a test that 0 fails is a digit
shows : (ok : ℕ → Bool) → ok 0 ≡ false → (b : ℕ) → ok (value_of b) ≡ true → is_of Digit b ≡ true
shows ok z b h = go (is_of Digit b) refl
  where
    go : (t : Bool) → is_of Digit b ≡ t → is_of Digit b ≡ true
    go true e = e
    go false e = let f : ok 0 ≡ true = rw (value_other b e) at h in let n : ◌≡◌ {A = Bool} false true = cc in rw e n

first_three_shows : (l : List ℕ) → first_three_answer l ≡ Accepted → (is_of Digit (get_or l 0 0) ≡ true) × (is_of Digit (get_or l 1 0) ≡ true) × (is_of Digit (get_or l 2 0) ≡ true)
first_three_shows l e =
    let three = (first_three_accepts l).0 e in (
      shows (λ v. eqb v product) refl (get_or l 0 0) (eq-eqb (digit_at 1 l) product three.0),
      shows is_segment refl (get_or l 1 0) three.1,
      shows is_kind refl (get_or l 2 0) three.2,
    )

check_shows : (code : List ℕ) → general_right code ≡ true → is_of Digit (get_or code 3 0) ≡ true
unfolding general_right
check_shows code e =
    let written = eqb-true (get_or code 3 0) (48 + general_check code) e in
    rw written (check_is_a_digit (modulus_of (digit_at 3 code)) (gather checked code))

right_digits : (code : List ℕ) → length code ≡ 44 → first_three_answer code ≡ Accepted → general_right code ≡ true
    → all (is_of Digit) (take 40 (drop 4 code)) ≡ true → all (is_of Digit) code ≡ true
right_digits [] n l g h = absurd (omega arith)
right_digits (a ∷ []) n l g h = absurd (omega arith)
right_digits (a ∷ (b ∷ [])) n l g h = absurd (omega arith)
right_digits (a ∷ (b ∷ (c ∷ []))) n l g h = absurd (omega arith)
right_digits (a ∷ (b ∷ (c ∷ (d ∷ rest)))) n l g h =
    let three = first_three_shows (a ∷ (b ∷ (c ∷ (d ∷ rest)))) l in
    let check = check_shows (a ∷ (b ∷ (c ∷ (d ∷ rest)))) g in
    let t : all (is_of Digit) rest ≡ true = rw (take_all 40 rest (omega arith)) at h in
    rw (three.0, three.1, three.2, check, t)

-- the general check from the sum of the forty digits behind it
pub right_as : (code : List ℕ) → length code ≡ 44 → (m : Modulus) {x y r k w : ℕ} → m ≡ modulus_of (digit_at 3 code) → y ≡ weighted_sum m 0 (take 40 (drop 4 code))
    → x ≡ weighted_sum m 40 (take 3 code) % size_of m → r ≡ (x + y) % size_of m → k ≡ digit_of_remainder m r → w ≡ get_or code 3 0 → eqb w (48 + k) ≡ general_right code
unfolding general_right
right_as code n m {x} {y} {r} em ey ex er ek ew =
    let e : r ≡ (x + y % size_of m) % size_of m = rw (add-mod-mod) er in
    let f : y % size_of m ≡ weighted_sum m 0 (take 40 (drop 4 code)) % size_of m = ap (λ (t : ℕ). t % size_of m) ey in
    rw (ew, general_as code n refl em ex f e ek)

-- what the fast path may answer
pub not_accepted : (code : List ℕ) → (barcode_answer code ≡ Accepted → ⊥) → (false ≡ true) ↔ (barcode_answer code ≡ Accepted)
not_accepted code h = (λ e. let z : ◌≡◌ {A = ℕ} 0 1 = cc in absurd (omega arith), λ e. absurd (h e))

module _ (code : List ℕ) (n : length code ≡ 44) where
  pub has_sums : barcode_answer code ≡ Accepted → None ≡ both_sums (take 40 (drop 4 code)) → ⊥
  has_sums e f =
      no_sum_tells (take 40 (drop 4 code)) (length-take-le 40 (drop 4 code) (omega (arith, length-drop 4 code))) (all_of_part (is_of Digit) 4 40 code (good code e).digits) f

  pub as_right : {r : Bool} → first_three_answer code ≡ Accepted → all (is_of Digit) (take 40 (drop 4 code)) ≡ true → r ≡ general_right code → (r ≡ true) ↔ (barcode_answer code ≡ Accepted)
  as_right l h e = (
    λ t. let g = sym e ∙ t in accepted code (record { long = n; digits = right_digits code n l g h; first_three = l; general = g }),
    λ a. e ∙ (good code a).general,
  )
