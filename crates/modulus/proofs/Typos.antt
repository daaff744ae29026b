-- What a typing error does to the sum over any list. Assumes nothing.
use Prim.Native.Nat.{ℕ, zero, suc, ◌+◌, ◌-◌, ◌*◌, ◌%◌}
use mathlib.Core.Bool.{Bool, true, cond, not, ◌||◌, or-true}
use mathlib.Core.List.{List, [], ◌∷◌}
use mathlib.Core.Logic.{inl, inr, ⊎_elim}
use mathlib.Core.Path.{◌≡◌, refl, sym, ◌∙◌}
use native.Mathlib.Omega.{arith}
use borrow.Author.Tests.{eqb-true, eq-eqb, ne_eqb}
use lib.Dec.{eqb}
use lib.ListN.{length, get_or, set, length-set}
use lib.Seq.{get_or-set_other}
use Rattle.decimal.proofs.Finite.{below, at2, follows, agrees, or_cases}
use Rattle.modulus.specs.declared.Modulus.{Modulus}
use Rattle.modulus.specs.declared.Modulus.TheVariants.{Ten, Eleven}
use Rattle.modulus.specs.Checks.{size_of, added_by, term_of, weighted_sum, digit_of_remainder, exchanged, OneDigitMoves, ExchangeKeeps, EvenShiftKeeps, CheckShowsTen, CheckShowsEleven}
use Rattle.modulus.proofs.Terms.{term_tells, are, are_tells, are_test, neighbours_tell}

-- the byte at i, which has w bytes to its right in the list, set to d
pub sum_set : (m : Modulus) (k : ℕ) (bs : List ℕ) (i d w : ℕ) → w + i + 1 ≡ length bs
    → weighted_sum m k (set bs i d) + term_of m (k + w) (get_or bs i 0) ≡ weighted_sum m k bs + term_of m (k + w) d
sum_set m k [] i d w e = omega arith
sum_set m k (b ∷ bs) zero d w e = let q : w ≡ length bs = omega arith in rw q (omega arith)
sum_set m k (b ∷ bs) (suc i) d w e = rw (length-set bs i d) (omega (arith, sum_set m k bs i d w (omega arith)))

-- what is added on both sides cancels in a remainder
pub cancel : (m : Modulus) (S R x y : ℕ) → S + x ≡ R + y → S % size_of m ≡ R % size_of m → x % size_of m ≡ y % size_of m
cancel Ten S R x y e h = omega arith
cancel Eleven S R x y e h = omega arith

pub one_digit_moves : OneDigitMoves
one_digit_moves m k bs i d h hb hd e =
    let w = length bs - 1 - i in
    let moved = sum_set m k bs i d w (omega arith) in
    sym (term_tells m (k + w) (get_or bs i 0) d hb hd (cancel m _ _ _ _ moved e))

even_term : (n k b : ℕ) → term_of Ten (2 * n + k) b ≡ term_of Ten k b
unfolding term_of added_by
even_term n k b = let e : (2 * n + k) % 2 ≡ k % 2 = omega arith in rw e

pub even_shift_keeps : EvenShiftKeeps
even_shift_keeps n k [] = refl
even_shift_keeps n k (b ∷ bs) =
    let e : 2 * n + k + length bs ≡ 2 * n + (k + length bs) = omega arith in
    rw e (omega (arith, even_term n (k + length bs) b, even_shift_keeps n k bs))

-- both neighbours at once
pub sum_exchanged : (m : Modulus) (k : ℕ) (bs : List ℕ) (i w : ℕ) → w + i + 2 ≡ length bs
    → weighted_sum m k (exchanged bs i) + (term_of m (k + w + 1) (get_or bs i 0) + term_of m (k + w) (get_or bs (i + 1) 0))
    ≡ weighted_sum m k bs + (term_of m (k + w + 1) (get_or bs (i + 1) 0) + term_of m (k + w) (get_or bs i 0))
sum_exchanged m k bs i w e =
    let b = get_or bs i 0 in
    let x = get_or bs (i + 1) 0 in
    let one = sum_set m k bs i x (w + 1) (omega arith) in
    let same : get_or (set bs i x) (i + 1) 0 ≡ x = get_or-set_other bs i (i + 1) x 0 (λ (q : i + 1 ≡ i). omega arith) in
    let two = sum_set m k (set bs i x) (i + 1) b w (omega (arith, length-set bs i x)) in
    let n : k + (w + 1) ≡ k + w + 1 = omega arith in
    omega (arith, rw n at one, rw same at two)

pub exchange_keeps : ExchangeKeeps
exchange_keeps k bs i h hb hx ne =
    let b = get_or bs i 0 in
    let x = get_or bs (i + 1) 0 in
    let w = length bs - 2 - i in
    let both = sum_exchanged Ten k bs i w (omega arith) in
    let tell = neighbours_tell (k + w) b x hb hx in
    let apart : (eqb b x || are 48 57 b x) ≡ are 48 57 b x = rw (ne_eqb b x ne) in (
      λ e. are_tells 48 57 b x (sym (tell ∙ apart) ∙ eq-eqb _ _ (cancel Ten _ _ _ _ both e)),
      λ z.
          let p : (term_of Ten (k + w + 1) b + term_of Ten (k + w) x) % 10 ≡ (term_of Ten (k + w + 1) x + term_of Ten (k + w) b) % 10
          = eqb-true _ _ (tell ∙ apart ∙ are_test 48 57 b x z) in
          omega arith,
    )

-- a test over all remainders of each modulus
tens : ℕ → ℕ → Bool
tens r q = cond (eqb (digit_of_remainder Ten r) (digit_of_remainder Ten q)) (eqb r q) true

tens_all : below 10 (λ r. below 10 (tens r)) ≡ true
unfolding tens digit_of_remainder
tens_all = refl

pub check_shows_ten : CheckShowsTen
unfolding tens
check_shows_ten r q hr hq e = eqb-true r q (follows _ _ (at2 10 10 tens tens_all r q hr hq) (eq-eqb _ _ e))

elevens : ℕ → ℕ → Bool
elevens r q = cond (eqb (digit_of_remainder Eleven r) (digit_of_remainder Eleven q)) (eqb r q || are 0 1 r q) (not (eqb r q || are 0 1 r q))

elevens_all : below 11 (λ r. below 11 (elevens r)) ≡ true
unfolding elevens digit_of_remainder are
elevens_all = refl

pub check_shows_eleven : CheckShowsEleven
unfolding elevens
check_shows_eleven r q hr hq =
    let tell = agrees _ _ (at2 11 11 elevens elevens_all r q hr hq) in (
      λ e. ⊎_elim (λ t. inl (eqb-true r q t)) (λ t. inr (are_tells 0 1 r q t)) (or_cases _ _ (sym tell ∙ eq-eqb _ _ e)),
      λ s. eqb-true _ _ (tell ∙ ⊎_elim (λ e. rw (eq-eqb r q e)) (λ z. rw (are_test 0 1 r q z, or-true)) s),
    )
