-- Laws of the sums, over the modulus and over any list. Assumes nothing.
use Prim.Native.Nat.{ℕ, suc, ◌+◌, ◌-◌, ◌*◌, ◌%◌, ◌≤◌, ◌<◌, min}
use mathlib.Core.List.{List, [], ◌∷◌, ◌++◌, append_assoc}
use mathlib.Core.Path.{◌≡◌, refl, sym, ap, ◌∙◌}
use native.Mathlib.Nat.{mod-add-mod, mul-le-mul, le_trans}
use native.Mathlib.Numerals.{add-one}
use native.Mathlib.Omega.{arith}
use borrow.Author.Tests.{leb-false, eqb-false}
use lib.Dec.{leb, eqb}
use lib.ListN.{length, get_or, drop, length-drop, length-append}
use lib.Seq.{drop-cons}
use Rattle.decimal.specs.Numbers.{value_of}
use Rattle.decimal.proofs.Finite.{split}
use Rattle.decimal.proofs.Numbers.{value_small, digit_back}
use Rattle.modulus.specs.declared.Modulus.{Modulus}
use Rattle.modulus.specs.declared.Modulus.TheVariants.{Ten, Eleven}
use Rattle.modulus.specs.Checks.{size_of, weight_of, product_part, added_by, term_of, weighted_sum, remainder_of, digit_of_remainder, check_of, RuleIsOneDigit, CheckIsOneDigit, CheckIsADigit, PartsCompose}
use Rattle.modulus.proofs.Terms.{period}

pub weight_small : (m : Modulus) (k : ℕ) → weight_of m k ≤ 9
weight_small Ten k = omega arith
weight_small Eleven k = omega arith

pub part_small : (m : Modulus) (p : ℕ) → product_part m p ≤ p
part_small Ten p = omega arith
part_small Eleven p = omega arith

pub remainder_small : (m : Modulus) (n : ℕ) → n % size_of m ≤ 10
remainder_small Ten n = omega arith
remainder_small Eleven n = omega arith

-- each rule gives 0 where 10 or 11 less the remainder would be more than 9
pub rule_is_one_digit : RuleIsOneDigit
unfolding digit_of_remainder
rule_is_one_digit Ten r = split (λ (d : ℕ). d ≤ 9) (eqb r 0) (λ e. omega arith) (λ e. omega (arith, eqb-false r 0 e))
rule_is_one_digit Eleven r = split (λ (d : ℕ). d ≤ 9) (leb r 1) (λ e. omega arith) (λ e. omega (arith, leb-false r 1 e))

pub check_is_one_digit : CheckIsOneDigit
check_is_one_digit m bs = rule_is_one_digit m (remainder_of m bs)

pub check_is_a_digit : CheckIsADigit
check_is_a_digit m bs = (digit_back (check_of m bs) (check_is_one_digit m bs)).0

pub parts_compose : PartsCompose
parts_compose m k [] right = omega arith
parts_compose m k (b ∷ left) right =
    let e : k + length (left ++ right) ≡ k + length right + length left = omega (arith, length-append left right) in
    rw e (omega (arith, parts_compose m k left right))

-- what a byte adds is small
pub product_small : (m : Modulus) (k b : ℕ) → weight_of m k * value_of b ≤ 81
product_small m k b = mul-le-mul (weight_small m k) (value_small b)

pub term_small : (m : Modulus) (k b : ℕ) → term_of m k b ≤ 81
unfolding term_of added_by
term_small m k b = le_trans (part_small m (weight_of m k * value_of b)) (product_small m k b)

pub sum_small : (m : Modulus) (k : ℕ) (bs : List ℕ) → weighted_sum m k bs ≤ 81 * length bs
sum_small m k [] = omega arith
sum_small m k (b ∷ bs) = omega (arith, term_small m (k + length bs) b, sum_small m k bs)

-- A turn of a loop from the left, at byte i: what it has, and the sum from i on, is the whole sum.
pub sum_step : (m : Modulus) (k : ℕ) (bs : List ℕ) (i sum : ℕ) {t : ℕ} → i < length bs
    → t ≡ term_of m (k + (length bs - 1 - i)) (get_or bs i 0)
    → (sum ≤ 81 * i) × (sum + weighted_sum m k (drop i bs) ≡ weighted_sum m k bs)
    → (sum + t ≤ 81 * (i + 1)) × (sum + t + weighted_sum m k (drop (i + 1) bs) ≡ weighted_sum m k bs)
sum_step m k bs i sum h e inv =
    let l : length (drop (suc i) bs) ≡ length bs - 1 - i = omega (arith, length-drop (suc i) bs) in
    let step : weighted_sum m k (drop i bs) ≡ term_of m (k + (length bs - 1 - i)) (get_or bs i 0) + weighted_sum m k (drop (i + 1) bs) = rw (add-one, drop-cons bs i 0, l) in
    let small = term_small m (k + (length bs - 1 - i)) (get_or bs i 0) in
    (omega arith, omega arith)

-- the weights come again after eight digits
pub sum_period : (m : Modulus) (k j : ℕ) (bs : List ℕ) → k % 8 ≡ j % 8 → weighted_sum m k bs ≡ weighted_sum m j bs
sum_period m k j [] e = refl
sum_period m k j (b ∷ bs) e =
    let n : (k + length bs) % 8 ≡ (j + length bs) % 8 = omega arith in
    let t : term_of m (k + length bs) b ≡ term_of m (j + length bs) b = cc (period m (k + length bs) b, period m (j + length bs) b) in
    rw (t, sum_period m k j bs e)

-- Blocks taken off the end of a list: what is behind the rest is summed. Only the first block of the list, the last that
-- comes off, has another length than 512.
pub record BlocksSummed (m : Modulus) (k : ℕ) (bs rest : List ℕ) (sum : ℕ) : Type 0 where
  pub behind : List ℕ
  pub whole : rest ++ behind ≡ bs
  pub eights : 0 < length rest → length behind % 8 ≡ 0
  pub remainder : sum ≡ weighted_sum m k behind % size_of m

module _ {m : Modulus} {k sum : ℕ} {bs rest : List ℕ} (h : BlocksSummed m k bs rest sum) where
  pub one_more_summed : (block next : List ℕ) {t : ℕ} → rest ≡ next ++ block → length block ≡ min 512 (length rest)
      → 0 < length rest → t ≡ weighted_sum m (k % 8) block → BlocksSummed m k bs next ((sum + t) % size_of m)
  one_more_summed block next {t} e l some q =
      let eight : length h.behind % 8 ≡ 0 = h.eights some in
      let same = sum_period m (k % 8) (k + length h.behind) block (omega arith) in
      let parts = parts_compose m k block h.behind in
      let f : weighted_sum m k h.behind + t ≡ weighted_sum m k (block ++ h.behind) = omega arith in
      record {
        behind = block ++ h.behind;
        whole = sym (append_assoc next block h.behind) ∙ (rw e at h.whole);
        eights = λ p. omega (arith, ap length e ∙ length-append next block, length-append block h.behind);
        remainder = rw h.remainder (mod-add-mod (weighted_sum m k h.behind) (size_of m) t ∙ ap (λ (x : ℕ). x % size_of m) f);
      }

  pub summed_small : sum ≤ 10
  summed_small = rw h.remainder (remainder_small m (weighted_sum m k h.behind))
