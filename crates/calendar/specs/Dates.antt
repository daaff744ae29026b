-- Dates (SPEC.md, "Dates"): YYYYMMDD, Gregorian, years 1900 to 2199. Assumes nothing.
use Rattle.std.specs.Prelude.{None, Option, Some, ℕ, ◌%◌, Bool, true, false, cond, not, ◌&&◌, ◌||◌, List, [], ◌∷◌, ◌++◌, ◌≡◌, eqb, length, get_or}
use Rattle.decimal.specs.declared.Class.TheVariants.{Digit}
use Rattle.decimal.specs.Bytes.{within, is_of, all}
use Rattle.decimal.specs.Places.{places}
use Rattle.decimal.specs.Numbers.{number_of, digits_of}
use Rattle.calendar.specs.declared.Date.{Date}

-- every fourth year, but of the years that end a century only every fourth
unfoldable pub is_leap : ℕ → Bool
is_leap year = eqb (year % 4) 0 && (not (eqb (year % 100) 0) || eqb (year % 400) 0)

-- the days of the months 1 to 12 outside leap years; there is no month 0
abbrev pub months : List ℕ
months = 0 ∷ 31 ∷ 28 ∷ 31 ∷ 30 ∷ 31 ∷ 30 ∷ 31 ∷ 31 ∷ 30 ∷ 31 ∷ 30 ∷ 31 ∷ []

-- 0 where there is no such month
unfoldable pub days_in : ℕ → ℕ → ℕ
days_in year month = cond (eqb month 2 && is_leap year) 29 (get_or months month 0)

unfoldable pub is_date : Date → Bool
is_date d = within 1900 2199 d.year && within 1 (days_in d.year d.month) d.day

-- the year, month and day that the places spell
abbrev pub spelled : List ℕ → Date
spelled bs =
    record { year = number_of (places 1 4 bs); month = number_of (places 5 6 bs); day = number_of (places 7 8 bs) }

-- the date that eight digits spell; none of other bytes, and of digits that are no date
unfoldable pub date_of : List ℕ → Option Date
date_of bs = cond (eqb (length bs) 8 && (all (is_of Digit) bs && is_date (spelled bs))) (Some (spelled bs)) None

abbrev pub is_found : Option Date → Bool
is_found (Some d) = true
is_found None = false

-- a date's eight digits
abbrev pub spelling : Date → List ℕ
spelling d = digits_of 4 d.year ++ (digits_of 2 d.month ++ digits_of 2 d.day)

-- Promises: bytes that are a date are its spelling, and the spelling of a date is that date.

abbrev pub DateIsItsSpelling : Type 0
DateIsItsSpelling = (bs : List ℕ) (d : Date) → date_of bs ≡ Some d → (is_date d ≡ true) × (spelling d ≡ bs)

abbrev pub SpellingIsItsDate : Type 0
SpellingIsItsDate = (d : Date) → is_date d ≡ true → date_of (spelling d) ≡ Some d
