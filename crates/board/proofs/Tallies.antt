-- Laws of tallies: sums and the limit. Assumes nothing.
use Prim.Native.Nat.{ℕ, ◌+◌, ◌-◌, ◌≤◌}
use mathlib.Core.Bool.{Bool, true, false, and-eq-true_iff}
use mathlib.Core.Logic.{◌↔◌}
use mathlib.Core.Path.{◌≡◌, sym, ap, ap₂, refl, ◌∙◌}
use native.Mathlib.Omega.{arith}
use borrow.Author.Tests.{le-leb, lt-leb, leb-true, leb-false}
use lib.Dec.{leb}
use Rattle.board.specs.declared.Tally.{Tally}
use Rattle.board.specs.Lanes.{limit, empty_tally, plus, payments_fit, tariff_fits, fits}

-- a number is at most what is left of the limit exactly if the sum is within it
pub room : (sum more : ℕ) → more ≤ limit → leb sum (limit - more) ≡ leb (sum + more) limit
room sum more h = go (leb sum (limit - more)) refl
  where
    go : (t : Bool) → leb sum (limit - more) ≡ t → t ≡ leb (sum + more) limit
    go true e = let k = leb-true sum (limit - more) e in sym (le-leb (sum + more) limit (omega arith))
    go false e = let k = leb-false sum (limit - more) e in sym (lt-leb (sum + more) limit (omega arith))

-- a tally that fits, number by number
pub record Low (t : Tally) : Type 0 where
  pub payments : t.payments ≤ limit
  pub centavos : t.centavos ≤ limit
  pub tariff : t.tariff ≤ limit

-- a tally that fits, place by place
pub fits_both : (t : Tally) → (fits t ≡ true) ↔ ((payments_fit t ≡ true) × (tariff_fits t ≡ true))
unfolding fits
fits_both t = and-eq-true_iff (payments_fit t) (tariff_fits t)

pub low : (t : Tally) → fits t ≡ true → Low t
unfolding fits payments_fit tariff_fits
low t e =
    let both = (fits_both t).0 e in
    let h = (and-eq-true_iff (leb t.payments limit) (leb t.centavos limit)).0 both.0 in
    record { payments = leb-true _ _ h.0; centavos = leb-true _ _ h.1; tariff = leb-true _ _ both.1 }

pub low_fits : (t : Tally) → Low t → fits t ≡ true
unfolding fits payments_fit tariff_fits
low_fits t h = rw (le-leb _ _ h.payments, le-leb _ _ h.centavos, le-leb _ _ h.tariff)

-- each number of one is at most the other's; what fits with larger numbers fits
pub record AtMost (a b : Tally) : Type 0 where
  pub payments : a.payments ≤ b.payments
  pub centavos : a.centavos ≤ b.centavos
  pub tariff : a.tariff ≤ b.tariff

module _ {a b : Tally} (h : AtMost a b) where
  pub payments_fit_less : payments_fit b ≡ true → payments_fit a ≡ true
  unfolding payments_fit
  payments_fit_less e =
      let k = (and-eq-true_iff (leb b.payments limit) (leb b.centavos limit)).0 e in
      let n = leb-true b.payments limit k.0 in
      let m = leb-true b.centavos limit k.1 in
      rw (le-leb a.payments limit (omega (arith, h.payments)), le-leb a.centavos limit (omega (arith, h.centavos)))

  pub tariff_fits_less : tariff_fits b ≡ true → tariff_fits a ≡ true
  unfolding tariff_fits
  tariff_fits_less e =
      let n = leb-true b.tariff limit e in
      le-leb a.tariff limit (omega (arith, h.tariff))

  pub fits_less : fits b ≡ true → fits a ≡ true
  fits_less e =
      let both = (fits_both b).0 e in
      (fits_both a).1 (payments_fit_less both.0, tariff_fits_less both.1)

pub at_most_sum : (a b : Tally) → AtMost a (plus a b)
at_most_sum a b = record { payments = omega arith; centavos = omega arith; tariff = omega arith }

-- two tallies with equal numbers are equal
pub alike : {a b : Tally} → a.payments ≡ b.payments → a.centavos ≡ b.centavos → a.tariff ≡ b.tariff → a ≡ b
alike {a} {b} e d f =
    ap {B = Tally} (λ (n : ℕ). record { payments = n; centavos = a.centavos; tariff = a.tariff }) e
    ∙ ap₂ {C = Tally} (λ (m k : ℕ). record { payments = b.payments; centavos = m; tariff = k }) d f

pub plus_swap : (a b : Tally) → plus a b ≡ plus b a
plus_swap a b = alike (omega arith) (omega arith) (omega arith)

pub plus_groups : (a b c : Tally) → plus (plus a b) c ≡ plus a (plus b c)
plus_groups a b c = alike (omega arith) (omega arith) (omega arith)

pub plus_none : (a : Tally) → plus a empty_tally ≡ a
plus_none a = alike (omega arith) (omega arith) (omega arith)
