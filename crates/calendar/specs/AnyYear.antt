-- Only for the fast path of `is_date_text`: days that are a date in every year of a century. Assumes nothing.
use Rattle.std.specs.Prelude.{ℕ, ◌+◌, ◌*◌, ◌≤◌, true, ◌≡◌}
use Rattle.calendar.specs.Dates.{is_date}

abbrev pub DateInAnyYear : ℕ → ℕ → ℕ → Type 0
DateInAnyYear century month day =
    (y : ℕ) → y ≤ 99 → is_date (record { year = 100 * century + y; month = month; day = day }) ≡ true
