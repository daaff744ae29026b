-- The edges of the calendar: eight digits, written as a number, and whether they are a date. Assumes nothing.
use Rattle.std.specs.Prelude.{ℕ, Bool, true, false, List, [], ◌∷◌, map, ◌≡◌}
use Rattle.decimal.specs.Numbers.{digits_of}
use Rattle.calendar.specs.Dates.{date_of, is_found}

pub record Sample : Type 0 where
  pub digits : ℕ
  pub date : Bool

abbrev pub edges : List Sample
edges =
    record { digits = 19000101; date = true }
    ∷ record { digits = 18991231; date = false }
    ∷ record { digits = 21991231; date = true }
    ∷ record { digits = 22000101; date = false }
    ∷ record { digits = 20240229; date = true }
    ∷ record { digits = 20230229; date = false }
    ∷ record { digits = 20230431; date = false }
    ∷ record { digits = 20230731; date = true }
    ∷ record { digits = 20230831; date = true }
    ∷ record { digits = 20231301; date = false }
    ∷ record { digits = 20230001; date = false }
    ∷ record { digits = 20230100; date = false }
    ∷ record { digits = 00000000; date = false }
    ∷ []

-- Promise: each sample is what it is said to be.
abbrev pub Hold : List Sample → Type 0
Hold samples =
    map (λ (s : Sample). is_found (date_of (digits_of 8 s.digits))) samples ≡ map (λ (s : Sample). s.date) samples
