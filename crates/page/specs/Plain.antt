-- Numbers as the page shows them (SPEC.md, "Page"): without leading zeros, or with zeros to a width. Assumes nothing.
use Rattle.std.specs.Prelude.{ℕ, zero, suc, ◌/◌, ◌^◌, ◌<◌, max, List, [], ◌∷◌, ◌≡◌, get_or}
use Rattle.decimal.specs.Numbers.{number_of, digits_of}

-- how many digits a number has, none for 0, counted by dividing by 10 at most so many times
unfoldable pub needed_in : ℕ → ℕ → ℕ
needed_in zero n = 0
needed_in (suc turns) zero = 0
needed_in (suc turns) (suc n) = suc (needed_in turns (suc n / 10))

-- n divisions are enough for n
abbrev pub needed : ℕ → ℕ
needed n = needed_in n n

-- a number with zeros to w digits; in full if it has more
abbrev pub shown : ℕ → ℕ → List ℕ
shown w n = digits_of (max w (needed n)) n

-- a number without leading zeros; 0 is one digit
abbrev pub plain : ℕ → List ℕ
plain n = shown 1 n

-- Promises.

-- what is shown, read as a number, is the number
abbrev pub ShownReadsBack : Type 0
ShownReadsBack = (w n : ℕ) → number_of (shown w n) ≡ n

-- only 0 starts with the digit 0, and it is one digit
abbrev pub NoLeadingZero : Type 0
NoLeadingZero = ((n : ℕ) → get_or (plain n) 0 0 ≡ 48 → n ≡ 0) × (plain 0 ≡ 48 ∷ [])

-- a number of at most w digits is shown with exactly w
abbrev pub ShownKeepsZeros : Type 0
ShownKeepsZeros = (w n : ℕ) → n < 10 ^ w → shown w n ≡ digits_of w n
