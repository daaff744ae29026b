-- Laws of three rows of sixteen digits, which tie `sums_of_forty` to the sums of specs/Checks.antt. Assumes nothing.
use Rattle.std.specs.Prelude.{Some, None}
use Rattle.modulus.specs.declared.BothSums.{BothSums}
use Prim.Native.Nat.{ℕ, suc, ◌+◌, ◌-◌, ◌*◌, ◌%◌, ◌≤◌, ◌<◌}
use mathlib.Core.Bool.{Bool, true, false, cond, ◌&&◌, and-eq-true_iff}
use mathlib.Core.List.{List}
use mathlib.Core.Path.{◌≡◌, refl, sym, ap, ◌∙◌}
use native.Mathlib.Nat.{mul-zero, mul-add}
use native.Mathlib.Numerals.{add-one}
use native.Mathlib.Omega.{arith}
use borrow.Author.Tests.{leb-true, leb-false, ltb-true, ltb-false, eq-eqb, ne_eqb}
use lib.Bits.{bit_or}
use lib.Dec.{eqb, leb, ltb}
use lib.ListN.{length, get_or, take, drop, length-drop, take-append-drop}
use lib.Seq.{drop-cons, drop-drop, take_all}
use Rattle.decimal.specs.declared.Class.TheVariants.{Digit}
use Rattle.decimal.specs.Bytes.{is_of, all}
use Rattle.decimal.specs.Numbers.{value_of}
use Rattle.decimal.proofs.Bytes.{flag_on, all_at, row_fails, row_passes, last_row}
use Rattle.decimal.proofs.Numbers.{low_value, value_small}
use Rattle.modulus.specs.declared.Modulus.{Modulus}
use Rattle.modulus.specs.declared.Modulus.TheVariants.{Ten, Eleven}
use Rattle.modulus.specs.Checks.{added_by, weight_of, product_part, term_of, weighted_sum, both_sums}
use Rattle.modulus.specs.Columns.{are_digits, counted, column_adds}
use Rattle.modulus.proofs.Sums.{parts_compose, sum_period}

-- Under modulo 10 a digit counts once, or twice less nine where the double has two digits.

once : (k d : ℕ) → k % 2 ≡ 1 → d ≤ 9 → added_by Ten k d ≡ d
unfolding added_by
once k d e h = rw e (omega arith)

twice : (k d : ℕ) → k % 2 ≡ 0 → d ≤ 9 → added_by Ten k d + 9 * cond (leb 5 d) 1 0 ≡ 2 * d
unfolding added_by
twice k d e h = rw e (go (leb 5 d) refl)
  where
    go : (t : Bool) → leb 5 d ≡ t → product_part Ten (2 * d) + 9 * cond t 1 0 ≡ 2 * d
    go true f = omega (arith, leb-true 5 d f)
    go false f = omega (arith, leb-false 5 d f)

-- Column i with the values a, b and c.
module _ (i a b c : ℕ) (h : i < 16) where
  pub column_once : i % 2 ≡ 0 → a ≤ 9 → b ≤ 9 → c ≤ 9
      → a + (b + c) ≡ column_adds Ten i a b c
  column_once e p q r =
      let k : (15 - i) % 2 ≡ 1 = omega arith in
      omega (arith, once (15 - i) a k p, once (15 - i) b k q, once (15 - i) c k r)

  module _ {x y z : ℕ} (ex : x ≡ cond (leb 5 a) 1 0) (ey : y ≡ cond (leb 5 b) 1 0) (ez : z ≡ cond (leb 5 c) 1 0) where
    pub column_twice : (i % 2 ≡ 0 → ⊥) → a ≤ 9 → b ≤ 9 → c ≤ 9
        → 2 * (a + (b + c)) - 9 * (x + (y + z)) ≡ column_adds Ten i a b c
    column_twice e p q r =
        let k : (15 - i) % 2 ≡ 0 = omega arith in
        omega (arith, twice (15 - i) a k p, twice (15 - i) b k q, twice (15 - i) c k r, ex, ey, ez)

  pub column_weighed : (2 + (15 - i) % 8) * (a + (b + c)) ≡ column_adds Eleven i a b c
  unfolding added_by
  column_weighed = rw (mul-add (2 + (15 - i) % 8) a (b + c), mul-add (2 + (15 - i) % 8) b c)

nothing : (m : Modulus) (k : ℕ) → added_by m k 0 ≡ 0
unfolding added_by
nothing m k = rw (mul-zero (weight_of m k)) (go m)
  where
    go : (m : Modulus) → product_part m 0 ≡ 0
    go Ten = refl
    go Eleven = refl

late_small : (t : Bool) (b : ℕ) → cond t 0 (value_of b) ≤ 9
late_small true b = omega arith
late_small false b = value_small b

-- Column i of three rows, and what is left after it.
abbrev pub left_digits : List ℕ → List ℕ → List ℕ → ℕ → Bool
left_digits x y z i = all (is_of Digit) (drop i x) && (all (is_of Digit) (drop i y) && all (is_of Digit) (drop i z))

abbrev pub left_sum : Modulus → List ℕ → List ℕ → List ℕ → ℕ → ℕ
left_sum m x y z i = weighted_sum m 0 (drop i x) + (weighted_sum m 0 (drop i y) + weighted_sum m 0 (drop (8 - i) (drop i z)))

weave : (t u v r s q : Bool) → ((t && r) && ((u && s) && (v && q))) ≡ ((t && (u && v)) && (r && (s && q)))
weave false u v r s q = refl
weave true false v false s q = refl
weave true false v true s q = refl
weave true true false false s q = refl
weave true true false true false q = refl
weave true true false true true q = refl
weave true true true r s q = refl

sum_at : (m : Modulus) (bs : List ℕ) (i : ℕ) → length bs ≡ 16 → i < 16
    → weighted_sum m 0 (drop i bs) ≡ term_of m (15 - i) (get_or bs i 0) + weighted_sum m 0 (drop (i + 1) bs)
sum_at m bs i n h =
    let l : 0 + length (drop (suc i) bs) ≡ 15 - i = omega (arith, length-drop (suc i) bs) in
    rw (add-one, drop-cons bs i 0 (omega arith), l)

module _ (x y z : List ℕ) (lx : length x ≡ 16) (ly : length y ≡ 16) (lz : length z ≡ 16) (i : ℕ) (h : i < 16) where
  pub digits_step : (n : ℕ) {f : ℕ} {r : Bool}
      → f ≡ cond (is_of Digit (get_or x i 0) && (is_of Digit (get_or y i 0) && is_of Digit (get_or z i 0))) 0 1
      → (eqb n 0 && left_digits x y z i) ≡ r → (eqb (bit_or n f) 0 && left_digits x y z (i + 1)) ≡ r
  digits_step n e q =
      let a = is_of Digit (get_or x i 0) in
      let b = is_of Digit (get_or y i 0) in
      let c = is_of Digit (get_or z i 0) in
      let rx = all (is_of Digit) (drop (suc i) x) in
      let ry = all (is_of Digit) (drop (suc i) y) in
      let rz = all (is_of Digit) (drop (suc i) z) in
      let p = rw (drop-cons x i 0 (omega arith), drop-cons y i 0 (omega arith), drop-cons z i 0 (omega arith), weave a b c rx ry rz) at q in
      rw (e, add-one, flag_on (a && (b && c)) n (rx && (ry && rz))) p

  late_sum : (m : Modulus)
      → weighted_sum m 0 (drop (8 - i) (drop i z)) ≡ added_by m (15 - i) (cond (ltb i 8) 0 (value_of (get_or z i 0))) + weighted_sum m 0 (drop (8 - (i + 1)) (drop (i + 1) z))
  unfolding term_of added_by
  late_sum m = go (ltb i 8) refl
    where
      go : (t : Bool) → ltb i 8 ≡ t
          → weighted_sum m 0 (drop (8 - i) (drop i z)) ≡ added_by m (15 - i) (cond t 0 (value_of (get_or z i 0))) + weighted_sum m 0 (drop (8 - (i + 1)) (drop (i + 1) z))
      go true e =
          let l = ltb-true i 8 e in
          let k : i + (8 - i) ≡ 8 = omega arith in
          let j : i + 1 + (8 - (i + 1)) ≡ 8 = omega arith in
          rw (drop-drop (8 - i) i z, drop-drop (8 - (i + 1)) (i + 1) z, k, j, nothing m (15 - i)) (omega arith)
      go false e =
          let l = ltb-false i 8 e in
          let k : 8 - i ≡ 0 = omega arith in
          let j : 8 - (i + 1) ≡ 0 = omega arith in
          rw (k, j) (sum_at m z i lz h)

  sum_step : (m : Modulus) → left_sum m x y z i
      ≡ column_adds m i (value_of (get_or x i 0)) (value_of (get_or y i 0)) (cond (ltb i 8) 0 (value_of (get_or z i 0))) + left_sum m x y z (i + 1)
  unfolding term_of added_by
  sum_step m = omega (arith, sum_at m x i lx h, sum_at m y i ly h, late_sum m)

  pub sum_goes : (m : Modulus) (s : ℕ) {a b c t : ℕ} → are_digits x y z ≡ true → a ≡ get_or x i 0 % 16
      → b ≡ get_or y i 0 % 16 → c ≡ cond (ltb i 8) 0 (get_or z i 0 % 16)
      → (a ≤ 9 → b ≤ 9 → c ≤ 9 → t ≡ column_adds m i a b c)
      → s + left_sum m x y z i ≡ counted m x y z → s + t + left_sum m x y z (i + 1) ≡ counted m x y z
  sum_goes m s {a} {b} {c} {t} d ea eb ec et q =
      let first = (and-eq-true_iff (all (is_of Digit) x) (all (is_of Digit) y && all (is_of Digit) z)).0 d in
      let later = (and-eq-true_iff (all (is_of Digit) y) (all (is_of Digit) z)).0 first.1 in
      let va = value_of (get_or x i 0) in
      let vb = value_of (get_or y i 0) in
      let vc = cond (ltb i 8) 0 (value_of (get_or z i 0)) in
      let fa : a ≡ va = ea ∙ low_value (get_or x i 0) (all_at (is_of Digit) x i first.0 (omega arith)) in
      let fb : b ≡ vb = eb ∙ low_value (get_or y i 0) (all_at (is_of Digit) y i later.0 (omega arith)) in
      let fc : c ≡ vc = ec ∙ ap (cond (ltb i 8) 0) (low_value (get_or z i 0) (all_at (is_of Digit) z i later.1 (omega arith))) in
      let small : vc ≤ 9 = late_small (ltb i 8) (get_or z i 0) in
      let added : t ≡ column_adds m i va vb vc
      = rw (fa, fb, fc) at (et (rw fa (value_small (get_or x i 0))) (rw fb (value_small (get_or y i 0))) (rw fc small)) in
      omega (arith, sum_step m)

-- Forty bytes as such rows.
abbrev rows_are_digits : List ℕ → Bool
rows_are_digits bs = are_digits (take 16 bs) (take 16 (drop 16 bs)) (take 16 (drop 24 bs))

abbrev rows_counted : Modulus → List ℕ → ℕ
rows_counted m bs = counted m (take 16 bs) (take 16 (drop 16 bs)) (take 16 (drop 24 bs))

module _ (bs : List ℕ) (n : length bs ≡ 40) where
  pub forty_digits : rows_are_digits bs ≡ all (is_of Digit) bs
  forty_digits = go (all (is_of Digit) (take 16 bs)) refl (all (is_of Digit) (take 16 (drop 16 bs))) refl
    where
      go : (t : Bool) → all (is_of Digit) (take 16 bs) ≡ t → (u : Bool) → all (is_of Digit) (take 16 (drop 16 bs)) ≡ u
          → (t && (u && all (is_of Digit) (take 16 (drop 24 bs)))) ≡ all (is_of Digit) bs
      go false e u f = row_fails (is_of Digit) bs 0 16 (sym e) refl
      go true e false f = row_fails (is_of Digit) bs 16 16 (sym f) refl
      go true e true f =
          let p : all (is_of Digit) (take 32 bs) ≡ true = row_passes (is_of Digit) bs 16 16 (sym f) refl e in
          last_row (is_of Digit) bs 32 16 (omega arith) (omega arith) p (rw n refl)

  pub forty_sum : (m : Modulus)
      → rows_counted m bs ≡ weighted_sum m 0 bs
  forty_sum m =
      let last : drop 8 (take 16 (drop 24 bs)) ≡ drop 16 (drop 16 bs) =
      ap (drop 8) (take_all 16 (drop 24 bs) (omega (arith, length-drop 24 bs))) ∙ drop-drop 8 24 bs ∙ sym (drop-drop 16 16 bs) in
      let a = parts_compose m 0 (take 16 bs) (drop 16 bs) in
      let b = parts_compose m 0 (take 16 (drop 16 bs)) (drop 16 (drop 16 bs)) in
      let p = sum_period m (0 + length (drop 16 bs)) 0 (take 16 bs) (omega (arith, length-drop 16 bs)) in
      let q = sum_period m (0 + length (drop 16 (drop 16 bs))) 0 (take 16 (drop 16 bs)) (omega (arith, length-drop 16 bs, length-drop 16 (drop 16 bs))) in
      let c = rw (take-append-drop 16 bs) at a in
      let d = rw (take-append-drop 16 (drop 16 bs)) at b in
      rw last (omega (arith, c, d, p, q))

  -- from what the rows gave
  module _ (flag : ℕ) (e : eqb flag 0 ≡ rows_are_digits bs) where
    pub no_sum : (flag ≡ 0 → ⊥) → None ≡ both_sums bs
    no_sum h = let t : all (is_of Digit) bs ≡ false = sym forty_digits ∙ sym e ∙ ne_eqb flag 0 h in rw (eq-eqb (length bs) 40 n, t)

    pub both_sums_holds : {a b : ℕ} → flag ≡ 0
        → (rows_are_digits bs ≡ true → a ≡ rows_counted Ten bs)
        → (rows_are_digits bs ≡ true → b ≡ rows_counted Eleven bs)
        → Some (record { ten = a; eleven = b }) ≡ both_sums bs
    both_sums_holds h ea eb =
        let d = sym e ∙ eq-eqb flag 0 h in
        let t : all (is_of Digit) bs ≡ true = sym forty_digits ∙ d in
        rw (eq-eqb (length bs) 40 n, t, ea d, eb d, forty_sum Ten, forty_sum Eleven)

-- what a sum, or none, tells of the bytes
pub sums_tell : (bs : List ℕ) {s : BothSums} → Some s ≡ both_sums bs
    → (all (is_of Digit) bs ≡ true) × (s.ten ≡ weighted_sum Ten 0 bs) × (s.eleven ≡ weighted_sum Eleven 0 bs)
sums_tell bs {s} e = go (eqb (length bs) 40) (all (is_of Digit) bs) e
  where
    sums : BothSums
    sums = record { ten = weighted_sum Ten 0 bs; eleven = weighted_sum Eleven 0 bs }

    go : (t u : Bool) → Some s ≡ cond (t && u) (Some sums) None
        → (u ≡ true) × (s.ten ≡ weighted_sum Ten 0 bs) × (s.eleven ≡ weighted_sum Eleven 0 bs)
    go true true f = let g : s ≡ sums = cc in (refl, ap (λ (x : BothSums). x.ten) g, ap (λ (x : BothSums). x.eleven) g)
    go true false f = let z : ◌≡◌ {A = ℕ} 0 1 = cc in absurd (omega arith)
    go false u f = let z : ◌≡◌ {A = ℕ} 0 1 = cc in absurd (omega arith)

pub no_sum_tells : (bs : List ℕ) → length bs ≡ 40 → all (is_of Digit) bs ≡ true → None ≡ both_sums bs → ⊥
no_sum_tells bs n t e = let f = rw (eq-eqb (length bs) 40 n, t) at e in let z : ◌≡◌ {A = ℕ} 0 1 = cc in omega arith
