-- Laws of an enum whose variants hold nothing, from a test that antt computes over all of them. They go by the variants
-- that the enum declares, so that a new variant changes no proof. Assumes nothing.
use Prim.Native.Nat.{ℕ}
use mathlib.Core.Bool.{Bool, true, false, cond, ◌&&◌, and-eq-true_iff}
use mathlib.Core.List.{List, [], ◌∷◌}
use mathlib.Core.Logic.{inl, inr}
use mathlib.Core.Path.{◌≡◌, refl, ap}
use native.Mathlib.Omega.{arith}
use borrow.Author.Tests.{eq-eqb}
use denote.Enum.Declared.{Choice, Record, values_one}
use denote.Struct.Field.{Field}
use lib.Dec.{eqb}

-- every variant passes the test; false for an enum with a variant that holds something
abbrev every : (variants : List (List Field)) → (Choice variants → Bool) → Bool
every [] ok = true
every ([] ∷ variants) ok = ok (inl tt) && every variants (λ c. ok (inr c))
every ((field ∷ fields) ∷ variants) ok = false

each : (variants : List (List Field)) (ok : Choice variants → Bool) → every variants ok ≡ true → (c : Choice variants)
    → ok c ≡ true
each [] ok t c = absurd c
each ([] ∷ variants) ok t (inl x) = ((and-eq-true_iff (ok (inl tt)) (every variants (λ c. ok (inr c)))).0 t).0
each ([] ∷ variants) ok t (inr c) =
    each variants (λ c. ok (inr c)) ((and-eq-true_iff (ok (inl tt)) (every variants (λ c. ok (inr c)))).0 t).1 c
each ((field ∷ fields) ∷ variants) ok t c = let z : ◌≡◌ {A = ℕ} 0 1 = cc in absurd (omega arith)

-- two variants are the same
abbrev same : (variants : List (List Field)) → Choice variants → Choice variants → Bool
same [] c d = true
same ([] ∷ variants) (inl x) (inl y) = true
same ([] ∷ variants) (inl x) (inr d) = false
same ([] ∷ variants) (inr c) (inl y) = false
same ([] ∷ variants) (inr c) (inr d) = same variants c d
same ((field ∷ fields) ∷ variants) c d = false

same_equal : (variants : List (List Field)) (c d : Choice variants) → same variants c d ≡ true → c ≡ d
same_equal [] c d t = absurd c
same_equal ([] ∷ variants) (inl x) (inl y) t = refl
same_equal ([] ∷ variants) (inl x) (inr d) t = cc
same_equal ([] ∷ variants) (inr c) (inl y) t = cc
same_equal ([] ∷ variants) (inr c) (inr d) t = ap inr (same_equal variants c d t)
same_equal ((field ∷ fields) ∷ variants) c d t = let z : ◌≡◌ {A = ℕ} 0 1 = cc in absurd (omega arith)

module _ (enum : Record) where
  -- every value passes the test
  abbrev pub all : (enum.D → Bool) → Bool
  all ok = every enum.parts (λ c. ok (enum.make c))

  pub at : (ok : enum.D → Bool) → all ok ≡ true → (x : enum.D) → ok x ≡ true
  at ok t x = rw (enum.eta x) at (each enum.parts (λ c. ok (enum.make c)) t (enum.as_values x))

  -- no two variants have one number
  abbrev apart : (enum.D → ℕ) → Choice enum.parts → Choice enum.parts → Bool
  apart number c d = cond (eqb (number (enum.make c)) (number (enum.make d))) (same enum.parts c d) true

  abbrev pub differ : (enum.D → ℕ) → Bool
  differ number = every enum.parts (λ c. every enum.parts (apart number c))

  pub one_value : (number : enum.D → ℕ) → differ number ≡ true → (x y : enum.D) → number x ≡ number y → x ≡ y
  one_value number t x y e =
      let c = enum.as_values x in
      let d = enum.as_values y in
      let equal : number (enum.make c) ≡ number (enum.make d) = rw (enum.eta x, enum.eta y) e in
      let pair = each enum.parts (apart number c) (each enum.parts (λ c. every enum.parts (apart number c)) t c) d in
      values_one enum x y (same_equal enum.parts c d (rw (eq-eqb _ _ equal) at pair))
