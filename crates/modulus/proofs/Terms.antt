-- What one digit, or two neighbours, add. Each law rests on a test that antt computes over all digits. Assumes nothing.
use Prim.Native.Nat.{ℕ, ◌+◌, ◌-◌, ◌%◌}
use mathlib.Core.Bool.{Bool, true, cond, not, ◌&&◌, ◌||◌, and-eq-true_iff, or-true}
use mathlib.Core.Logic.{inl, inr, ⊎_elim}
use mathlib.Core.Path.{◌≡◌, refl}
use native.Mathlib.Nat.{mod-mod}
use native.Mathlib.Omega.{arith}
use borrow.Author.Tests.{eqb-true, eq-eqb}
use lib.Dec.{eqb}
use Rattle.decimal.specs.declared.Class.TheVariants.{Digit}
use Rattle.decimal.specs.Bytes.{is_of}
use Rattle.decimal.specs.Numbers.{value_of}
use Rattle.decimal.proofs.Finite.{below, at3, follows, agrees, or_cases}
use Rattle.decimal.proofs.Numbers.{digit_range}
use Rattle.modulus.specs.declared.Modulus.{Modulus}
use Rattle.modulus.specs.declared.Modulus.TheVariants.{Ten, Eleven}
use Rattle.modulus.specs.Checks.{size_of, added_by, term_of, Are}

-- the weights of both moduli come again after eight digits
pub period : (m : Modulus) (k b : ℕ) → term_of m k b ≡ term_of m (k % 8) b
unfolding term_of added_by
period Ten k b = let e : k % 8 % 2 ≡ k % 2 = omega arith in rw e
period Eleven k b = simp mod-mod

-- a test over the eight weights and all pairs of digits, read at any two digits
module _ (test : ℕ → ℕ → ℕ → Bool) (all : below 8 (λ p. below 10 (λ v. below 10 (λ u. test p (48 + v) (48 + u)))) ≡ true) where
  pub at_digits : (k b d : ℕ) → is_of Digit b ≡ true → is_of Digit d ≡ true → test (k % 8) b d ≡ true
  at_digits k b d hb hd =
      let rb = digit_range b hb in
      let rd = digit_range d hd in
      let eb : 48 + (b - 48) ≡ b = omega arith in
      let ed : 48 + (d - 48) ≡ d = omega arith in
      let t = at3 8 10 10 (λ p v u. test p (48 + v) (48 + u)) all (k % 8) (b - 48) (d - 48) (omega arith) (omega arith) (omega arith) in
      rw (eb, ed) at t

-- under one weight two digits add the same, but for whole moduli, only where they are equal
alike : Modulus → ℕ → ℕ → ℕ → Bool
alike m p b d = cond (eqb (term_of m p b % size_of m) (term_of m p d % size_of m)) (eqb b d) true

alike_all : (m : Modulus) → below 8 (λ p. below 10 (λ v. below 10 (λ u. alike m p (48 + v) (48 + u)))) ≡ true
unfolding alike term_of added_by value_of is_of
alike_all Ten = refl
alike_all Eleven = refl

pub term_tells : (m : Modulus) (k b d : ℕ) → is_of Digit b ≡ true → is_of Digit d ≡ true
    → term_of m k b % size_of m ≡ term_of m k d % size_of m → b ≡ d
unfolding alike
term_tells m k b d hb hd e =
    let t = at_digits (alike m) (alike_all m) k b d hb hd in
    let q : term_of m (k % 8) b % size_of m ≡ term_of m (k % 8) d % size_of m = cc (period m k b, period m k d) in
    eqb-true b d (follows _ _ t (eq-eqb _ _ q))

-- two numbers that are x and y in either order, as a test
unfoldable pub are : ℕ → ℕ → ℕ → ℕ → Bool
are x y a b = eqb a x && eqb b y || eqb a y && eqb b x

pub are_tells : (x y a b : ℕ) → are x y a b ≡ true → Are x y a b
unfolding are
are_tells x y a b h = ⊎_elim (λ t. inl (pair a x b y t)) (λ t. inr (pair a y b x t)) (or_cases (eqb a x && eqb b y) (eqb a y && eqb b x) h)
  where
    pair : (a x b y : ℕ) → (eqb a x && eqb b y) ≡ true → (a ≡ x) × (b ≡ y)
    pair a x b y t = let both = (and-eq-true_iff (eqb a x) (eqb b y)).0 t in (eqb-true a x both.0, eqb-true b y both.1)

pub are_test : (x y a b : ℕ) → Are x y a b → are x y a b ≡ true
unfolding are
are_test x y a b (inl h) = rw (eq-eqb a x h.0, eq-eqb b y h.1)
are_test x y a b (inr h) = rw (eq-eqb a y h.0, eq-eqb b x h.1, or-true)

-- two neighbours that change places keep the remainder by 10 exactly where they are equal, or 0 and 9
keeps : ℕ → ℕ → ℕ → Bool
keeps p b d = eqb ((term_of Ten (p + 1) b + term_of Ten p d) % 10) ((term_of Ten (p + 1) d + term_of Ten p b) % 10)

exact : ℕ → ℕ → ℕ → Bool
exact p b d = cond (keeps p b d) (eqb b d || are 48 57 b d) (not (eqb b d || are 48 57 b d))

exact_all : below 8 (λ p. below 10 (λ v. below 10 (λ u. exact p (48 + v) (48 + u)))) ≡ true
unfolding exact keeps are term_of added_by value_of is_of
exact_all = refl

pub neighbours_tell : (k b d : ℕ) → is_of Digit b ≡ true → is_of Digit d ≡ true
    → eqb ((term_of Ten (k + 1) b + term_of Ten k d) % 10) ((term_of Ten (k + 1) d + term_of Ten k b) % 10) ≡ (eqb b d || are 48 57 b d)
unfolding exact keeps
neighbours_tell k b d hb hd =
    let e : (k % 8 + 1) % 8 ≡ (k + 1) % 8 = omega arith in
    let next : (c : ℕ) → term_of Ten (k % 8 + 1) c ≡ term_of Ten (k + 1) c = λ c. cc (period Ten (k % 8 + 1) c, period Ten (k + 1) c) in
    let t = at_digits exact exact_all k b d hb hd in
    agrees _ _ (rw (next b, next d, ← period Ten k b, ← period Ten k d) at t)
