-- Days that are a date in every year of their century: what ties the fast path of `is_date_text` to the dates.
-- Assumes nothing.
use Prim.Native.Nat.{ℕ, ◌+◌, ◌*◌, ◌/◌, ◌%◌, ◌^◌, ◌≤◌, ◌<◌}
use mathlib.Core.Bool.{Bool, true, false}
use mathlib.Core.List.{List}
use mathlib.Core.Path.{◌≡◌, refl, sym, ap, ◌∙◌}
use native.Mathlib.Omega.{arith}
use borrow.Author.Tests.{eqb-true, eqb-false, le-leb}
use lib.Dec.{eqb}
use lib.ListN.{length, take}
use Rattle.decimal.specs.declared.Class.TheVariants.{Digit}
use Rattle.decimal.specs.Bytes.{is_of, all}
use Rattle.decimal.specs.Places.{places}
use Rattle.decimal.specs.Numbers.{number_of}
use Rattle.decimal.proofs.Numbers.{number_fits}
use Rattle.decimal.proofs.Places.{length_piece}
use Rattle.calendar.specs.declared.Date.{Date}
use Rattle.calendar.specs.AnyYear.{DateInAnyYear}
use Rattle.calendar.specs.Dates.{is_leap, days_in, date_of, is_found}
use Rattle.calendar.proofs.Dates.{by_days, as_spelled, judged}
use Rattle.calendar.proofs.Months.{month_days}

-- every month has 28 days
month_full : (y m : ℕ) → 1 ≤ m → m ≤ 12 → 28 ≤ days_in y m
unfolding days_in
month_full y m one last = go (eqb m 2) refl (is_leap y) refl
  where
    go : (t : Bool) → eqb m 2 ≡ t → (u : Bool) → is_leap y ≡ u → 28 ≤ days_in y m
    go true e true f = rw (eqb-true m 2 e, f) (omega arith)
    go true e false f = rw (eqb-true m 2 e, f) (omega arith)
    go false e u f = omega (arith, month_days y m (eqb-false m 2 e) (λ (z : m ≡ 0). omega arith) last)

-- Day d of month m in century c: up to the 28th, and later but in no February.
module _ (c m d : ℕ) (first-year : 19 ≤ c) (last-year : c ≤ 21) (first : 1 ≤ m) (last : m ≤ 12) (one : 1 ≤ d) where
  dated : ((y : ℕ) → d ≤ days_in y m) → DateInAnyYear c m d
  dated h y small =
      let date : Date = record { year = 100 * c + y; month = m; day = d } in
      sym (by_days date (omega arith) (omega arith) one refl) ∙ le-leb d (days_in (100 * c + y) m) (h (100 * c + y))

  pub early_day : d ≤ 28 → DateInAnyYear c m d
  early_day h = dated (λ (y : ℕ). omega (arith, month_full y m first last))

  pub late_day : {n : ℕ} → (m ≡ 2 → ⊥) → n ≡ 30 + (m + m / 8) % 2 → d ≤ n → DateInAnyYear c m d
  late_day two e h = dated (λ (y : ℕ). omega (arith, month_days y m two (λ (z : m ≡ 0). omega arith) last))

-- eight digits that spell such a day
pub any_year_date : (bs : List ℕ) {c m d : ℕ} → length bs ≡ 8 → all (is_of Digit) bs ≡ true → c ≡ number_of (take 2 bs)
    → m ≡ number_of (places 5 6 bs)
    → d ≡ number_of (places 7 8 bs) → DateInAnyYear c m d → true ≡ is_found (date_of bs)
any_year_date bs n a ec em ed h =
    let y = number_of (places 3 4 bs) in
    let l : length (places 3 4 bs) ≡ 2 = length_piece 2 2 bs (omega arith) in
    let small : y < 10 ^ 2 = rw l at (number_fits (places 3 4 bs)) in
    ap is_found (judged bs n a (as_spelled bs n ec refl em ed) (sym (h y (omega arith))))
