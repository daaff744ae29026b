-- What follows from the clauses of a contract, if each is a plain fact. Assumes nothing.
use base.Logic.{ent, sep, via, id⊢, fst∗, snd∗}
use contract.Monad.{fact, fact_i, fact_use, fact_mono}
use borrow.Fn.World.{World, Pr}

module _ (w : World) where
  -- a clause, two assertions at once, and a fact that follows from an assertion
  abbrev pub says : Type 0 → Pr w
  says φ = fact w.𝓤 φ

  abbrev pub both : Pr w → Pr w → Pr w
  both P Q = sep w.𝓤 P Q

  abbrev pub Gives : Pr w → Type 0 → Type 1
  Gives P φ = ent w.𝓤 P (says φ)

  itself : (φ : Type 0) → Gives (says φ) φ
  itself φ = id⊢ w.𝓤 (says φ)

  from_both : (P Q : Pr w) (φ χ ψ : Type 0) → Gives P φ → Gives Q χ → (φ → χ → ψ) → Gives (both P Q) ψ
  from_both P Q φ χ ψ p q f =
      fact_use w.𝓤 φ (via w.𝓤 P (fst∗ w.𝓤 P Q) p) (λ x.
      fact_use w.𝓤 χ (via w.𝓤 Q (snd∗ w.𝓤 P Q) q) (λ y. fact_i w.𝓤 ψ (both P Q) (f x y)))

  -- two clauses; the same with more behind them
  abbrev pub clauses : Type 0 → Type 0 → Pr w
  clauses φ χ = both (says φ) (says χ)

  abbrev pub bounded_clauses : Type 0 → Type 0 → Pr w → Pr w
  bounded_clauses φ χ β = both (says φ) (both (says χ) β)

  without_bound : (χ : Type 0) (β : Pr w) → Gives (both (says χ) β) χ
  without_bound χ β = fst∗ w.𝓤 (says χ) β

  -- of one outcome
  pub by_one : (φ ψ : Type 0) → (φ → ψ) → Gives (says φ) ψ
  by_one φ ψ f = fact_mono w.𝓤 φ ψ f

  pub by_two : (φ χ ψ : Type 0) → (φ → χ → ψ) → Gives (clauses φ χ) ψ
  by_two φ χ ψ f = from_both (says φ) (says χ) φ χ ψ (itself φ) (itself χ) f

  pub by_bounded : (φ χ : Type 0) (β : Pr w) (ψ : Type 0) → (φ → χ → ψ) → Gives (bounded_clauses φ χ β) ψ
  by_bounded φ χ β ψ f = from_both (says φ) (both (says χ) β) φ χ ψ (itself φ) (without_bound χ β) f

  -- of two outcomes
  pub one : (φ φ' ψ : Type 0) → (φ → φ' → ψ) → Gives (both (says φ) (says φ')) ψ
  one = by_two

  pub two : (φ χ φ' χ' ψ : Type 0) → (φ × χ → φ' × χ' → ψ) → Gives (both (clauses φ χ) (clauses φ' χ')) ψ
  two φ χ φ' χ' ψ f =
      from_both (clauses φ χ) (clauses φ' χ') (φ × χ) (φ' × χ') ψ
      (by_two φ χ (φ × χ) (λ x y. (x, y))) (by_two φ' χ' (φ' × χ') (λ x y. (x, y))) f

  pub bounded :
      (φ χ : Type 0) (β : Pr w) (φ' χ' : Type 0) (β' : Pr w) (ψ : Type 0) → (φ × χ → φ' × χ' → ψ)
      → Gives (both (bounded_clauses φ χ β) (bounded_clauses φ' χ' β')) ψ
  bounded φ χ β φ' χ' β' ψ f =
      from_both (bounded_clauses φ χ β) (bounded_clauses φ' χ' β') (φ × χ) (φ' × χ') ψ
      (by_bounded φ χ β (φ × χ) (λ x y. (x, y))) (by_bounded φ' χ' β' (φ' × χ') (λ x y. (x, y))) f
