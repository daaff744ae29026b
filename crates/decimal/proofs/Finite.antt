-- A fact about every number below a numeral, from a test that antt computes over them all. Assumes nothing.
use Prim.Native.Nat.{ℕ, zero, suc, ◌<◌}
use mathlib.Core.Bool.{Bool, true, false, cond, not, ◌&&◌, and-eq-true_iff}
use mathlib.Core.Logic.{⊎_elim}
use mathlib.Core.Path.{◌≡◌, refl, sym}
use native.Mathlib.Nat.{not-suc-le-zero, le_of_suc-le-suc, eq-or-lt_of_le}
pub use Rattle.answer.proofs.Tests.{never, or_cases, lt_or_le, split}

abbrev pub below : ℕ → (ℕ → Bool) → Bool
below zero test = true
below (suc n) test = test n && below n test

pub at : (n : ℕ) (test : ℕ → Bool) → below n test ≡ true → (k : ℕ) → k < n → test k ≡ true
at zero test t k h = absurd (not-suc-le-zero h)
at (suc n) test t k h =
    let both = (and-eq-true_iff (test n) (below n test)).0 t in
    ⊎_elim (λ (e : k ≡ n). rw e both.0) (λ (l : k < n). at n test both.1 k l) (eq-or-lt_of_le (le_of_suc-le-suc h))

pub at2 : (n m : ℕ) (test : ℕ → ℕ → Bool) → below n (λ p. below m (test p)) ≡ true → (p q : ℕ) → p < n → q < m
    → test p q ≡ true
at2 n m test t p q hp hq = at m (test p) (at n (λ p. below m (test p)) t p hp) q hq

pub at3 : (n m l : ℕ) (test : ℕ → ℕ → ℕ → Bool) → below n (λ p. below m (λ q. below l (test p q))) ≡ true
    → (p q r : ℕ) → p < n → q < m → r < l → test p q r ≡ true
at3 n m l test t p q r hp hq hr = at l (test p q) (at2 n m (λ p q. below l (test p q)) t p q hp hq) r hr

-- tests that compute an implication, and an equivalence
pub follows : (premise conclusion : Bool) → cond premise conclusion true ≡ true → premise ≡ true → conclusion ≡ true
follows true conclusion h e = h
follows false conclusion h e = cc

pub agrees : (t u : Bool) → cond t u (not u) ≡ true → t ≡ u
agrees true u h = sym h
agrees false true h = h
agrees false false h = refl
