-- Only for `low_number`, which fast paths call on digits that they have checked: a number by the low halves of its
-- bytes, and the promise that of digits it is their number. Assumes nothing.
use Rattle.std.specs.Prelude.{ℕ, ◌+◌, ◌*◌, ◌%◌, ◌≤◌, true, cond, List, [], ◌∷◌, ◌≡◌, leb, length}
use Rattle.decimal.specs.declared.Class.TheVariants.{Digit}
use Rattle.decimal.specs.Bytes.{is_of, all}
use Rattle.decimal.specs.Numbers.{number_of}

-- the number that the low halves stand for, highest first, after those that stand for n
abbrev pub low_from : ℕ → List ℕ → ℕ
low_from n [] = n
low_from n (b ∷ bs) = low_from (n * 10 + b % 16) bs

-- of at most nineteen bytes, which 64 bits hold; of more bytes 0
unfoldable pub low_number_of : List ℕ → ℕ
low_number_of bs = cond (leb (length bs) 19) (low_from 0 bs) 0

-- Promise: the low halves of digits are their values.
abbrev pub LowOfDigits : Type 0
LowOfDigits = (bs : List ℕ) → all (is_of Digit) bs ≡ true → length bs ≤ 19 → low_number_of bs ≡ number_of bs
