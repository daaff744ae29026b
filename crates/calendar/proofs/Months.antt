-- The days of the months by their rule. Assumes nothing.
use Prim.Native.Nat.{ℕ, ◌+◌, ◌/◌, ◌%◌, ◌≤◌, ◌<◌}
use mathlib.Core.Bool.{Bool, true, cond}
use mathlib.Core.Path.{◌≡◌, refl, sym}
use native.Mathlib.Omega.{arith}
use borrow.Author.Tests.{eqb-true, ne_eqb, le-leb}
use lib.Dec.{eqb, leb}
use lib.ListN.{get_or, get_or-eq_default}
use Rattle.decimal.proofs.Finite.{below, at}
use Rattle.calendar.specs.Dates.{months, days_in}

-- of each month but the second
rule : ℕ → Bool
rule m = cond (leb 1 m) (cond (eqb m 2) true (eqb (30 + (m + m / 8) % 2) (get_or months m 0))) true

rules : below 13 rule ≡ true
unfolding rule
rules = refl

pub month_days : (y m : ℕ) → (m ≡ 2 → ⊥) → (m ≡ 0 → ⊥) → m ≤ 12 → 30 + (m + m / 8) % 2 ≡ days_in y m
unfolding rule days_in
month_days y m two none last =
    let t = at 13 rule rules m (omega arith) in
    rw (ne_eqb m 2 two) (eqb-true _ _ (rw (le-leb 1 m (omega arith), ne_eqb m 2 two) at t))

pub no_month : (y m : ℕ) → 12 < m → 0 ≡ days_in y m
unfolding days_in
no_month y m h = rw (ne_eqb m 2 (λ (e : m ≡ 2). omega arith)) (sym (get_or-eq_default months 0 h))
