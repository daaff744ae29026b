-- The digits 0 and 9 under modulo 10, and why they are never among the first three. Assumes nothing.
use Prim.Native.Nat.{ℕ, zero, suc, ◌+◌, ◌%◌, ◌≤◌}
use mathlib.Core.Bool.{Bool, true, false, cond, and-eq-true_iff}
use mathlib.Core.List.{List}
use mathlib.Core.Logic.{inl, inr}
use mathlib.Core.Path.{◌≡◌, refl, ◌∙◌}
use native.Mathlib.Nat.{mul-zero}
use native.Mathlib.Omega.{arith}
use borrow.Author.Tests.{eqb-true, leb-true}
use lib.Dec.{leb, eqb}
use lib.ListN.{get_or}
use Rattle.answer.specs.Answers.{Accepted}
use Rattle.decimal.specs.Bytes.{is_of}
use Rattle.decimal.specs.Numbers.{value_of}
use Rattle.decimal.proofs.Finite.{below, at}
use Rattle.modulus.specs.declared.Modulus.TheVariants.{Ten, Eleven}
use Rattle.modulus.specs.Checks.{added_by, term_of, digit_of_remainder, ZeroAndNine}
use Rattle.modulus.proofs.Typos.{check_shows_ten}
use Rattle.modulus.proofs.Terms.{period}
use Rattle.barcode.specs.Codes.{digit_at, modulus_of, first_three_answer}
use Rattle.barcode.proofs.Codes.{first_three_accepts}
use Rattle.typos.specs.Typos.{Names}

-- they add 0 and 9, whatever the weight
zero_adds : (k : ℕ) → term_of Ten k 48 ≡ 0
unfolding term_of added_by value_of is_of
zero_adds k = simp mul-zero

nines : below 8 (λ p. eqb (term_of Ten p 57) 9) ≡ true
unfolding term_of added_by value_of is_of
nines = refl

nine_adds : (k : ℕ) → term_of Ten k 57 ≡ 9
nine_adds k = period Ten k 57 ∙ eqb-true _ _ (at 8 (λ p. eqb (term_of Ten p 57) 9) nines (k % 8) (omega arith))

-- a check that changes places with a digit of its sum is right again
pub turned : (b x S R k : ℕ) → ZeroAndNine b x → R + term_of Ten k x ≡ S + term_of Ten k b → b ≡ 48 + digit_of_remainder Ten (S % 10) → x ≡ 48 + digit_of_remainder Ten (R % 10)
unfolding digit_of_remainder
turned b x S R k (inl z) e r =
    let s = check_shows_ten (S % 10) 0 (omega arith) (omega arith) (omega (arith, r, z.0)) in
    let q : R % 10 ≡ 1 = omega (arith, rw (z.0, z.1, zero_adds, nine_adds) at e) in
    rw (z.1, q)
turned b x S R k (inr z) e r =
    let s = check_shows_ten (S % 10) 1 (omega arith) (omega arith) (omega (arith, r, z.0)) in
    let q : R % 10 ≡ 0 = omega (arith, rw (z.0, z.1, zero_adds, nine_adds) at e) in
    rw (z.1, q)

-- neither is the product, nor a value kind that names modulo 10
neither : (b x : ℕ) → ZeroAndNine b x → ((1 ≤ value_of b) × (value_of b ≤ 8) → ⊥) × ((1 ≤ value_of x) × (value_of x ≤ 8) → ⊥)
unfolding value_of is_of
neither b x (inl z) = rw (z.0, z.1) (omega arith)
neither b x (inr z) = rw (z.0, z.1) (omega arith)

names_ten : (k : ℕ) → modulus_of k ≡ Ten → k ≤ 7
names_ten k e = go (leb k 7) refl e
  where
    go : (t : Bool) → leb k 7 ≡ t → cond t Ten Eleven ≡ Ten → k ≤ 7
    go true q f = leb-true k 7 q
    go false q f = let z : ◌≡◌ {A = ℕ} 0 1 = cc in absurd (omega arith)

pub past_the_first_three : (line : List ℕ) (i : ℕ) → first_three_answer line ≡ Accepted → Names Ten line → ZeroAndNine (get_or line i 0) (get_or line (i + 1) 0) → 3 ≤ i
past_the_first_three line i accepted t z = go i z
  where
    first : digit_at 1 line ≡ 8
    first = ((first_three_accepts line).0 accepted).0

    third : (6 ≤ digit_at 3 line) × (digit_at 3 line ≤ 7)
    third = (leb-true 6 (digit_at 3 line) ((and-eq-true_iff _ _).0 ((first_three_accepts line).0 accepted).2).0, names_ten (digit_at 3 line) t)

    go : (i : ℕ) → ZeroAndNine (get_or line i 0) (get_or line (i + 1) 0) → 3 ≤ i
    go zero z = absurd ((neither _ _ z).0 (omega (arith, first), omega (arith, first)))
    go (suc zero) z = absurd ((neither _ _ z).1 (omega (arith, third), omega (arith, third)))
    go (suc (suc zero)) z = absurd ((neither _ _ z).0 (omega (arith, third), omega (arith, third)))
    go (suc (suc (suc i))) z = omega arith
