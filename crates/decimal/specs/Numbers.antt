-- Numbers as decimal digits, read and written. Assumes nothing.
use Rattle.std.specs.Prelude.{ℕ, zero, suc, ◌+◌, ◌-◌, ◌*◌, ◌/◌, ◌%◌, ◌^◌, ◌<◌, ◌≤◌, true, cond, List, [], ◌∷◌, ◌++◌, ◌≡◌, leb, ltb, length, take, drop}
use Rattle.answer.specs.declared.Reason.TheVariants.{WrongLength, TooWide}
use Rattle.answer.specs.Answers.{Answer, Accepted}
use Rattle.answer.specs.Orders.{require, ◌then◌}
use Rattle.decimal.specs.declared.Class.TheVariants.{Digit}
use Rattle.decimal.specs.Bytes.{is_of, all}
use Rattle.decimal.specs.Places.{put_at}
pub use Rattle.answer.specs.Limits.{largest_number, capped}

-- the value of a digit; any other byte counts as 0
unfoldable pub value_of : ℕ → ℕ
value_of b = cond (is_of Digit b) (b - 48) 0

-- the number that the bytes stand for, highest digit first, after digits that stand for n
abbrev pub number_from : ℕ → List ℕ → ℕ
number_from n [] = n
number_from n (b ∷ bs) = number_from (n * 10 + value_of b) bs

abbrev pub number_of : List ℕ → ℕ
number_of bs = number_from 0 bs

-- the last w digits of n, as bytes, highest first
unfoldable pub digits_of : ℕ → ℕ → List ℕ
digits_of zero n = []
digits_of (suc w) n = digits_of w (n / 10) ++ ((48 + n % 10) ∷ [])

-- a number that has w places: refused as too wide, at the first of them, where it needs more
abbrev pub width_answer : ℕ → ℕ → Answer
width_answer w n = require (ltb n (10 ^ w)) TooWide 1

-- a number put into a buffer of `size` bytes as w digits from index `at` on: refused, with no place, where the buffer
-- does not have these bytes, then as too wide
abbrev pub put_number_answer : ℕ → ℕ → ℕ → ℕ → Answer
put_number_answer size at w n = require (leb (at + w) size) WrongLength 0 then width_answer w n

-- Promises.

-- the number of some digits, and the digits of a number, are inverse
abbrev pub NumberOfDigits : Type 0
NumberOfDigits = (w n : ℕ) → n < 10 ^ w → number_of (digits_of w n) ≡ n

abbrev pub DigitsOfNumber : Type 0
DigitsOfNumber = (bs : List ℕ) → all (is_of Digit) bs ≡ true → digits_of (length bs) (number_of bs) ≡ bs

-- w digits are written, and only digits
abbrev pub DigitsFill : Type 0
DigitsFill = (w n : ℕ) → (length (digits_of w n) ≡ w) × (all (is_of Digit) (digits_of w n) ≡ true)

-- a number that is accepted is written: its bytes are its digits, which spell it, and all other bytes stay
abbrev pub AcceptedIsWritten : Type 0
AcceptedIsWritten =
    (at w n : ℕ) (l : List ℕ) → put_number_answer (length l) at w n ≡ Accepted
    → (put_at at (digits_of w n) l ≡ take at l ++ (digits_of w n ++ drop (at + w) l))
    × (number_of (digits_of w n) ≡ n)

-- a number has no more digits than it has bytes
abbrev pub NumberFits : Type 0
NumberFits = (bs : List ℕ) → number_of bs < 10 ^ length bs

-- no number of 19 digits is cut at 64 bits; a field of SPEC.md, "Records", has 17 at the most
abbrev pub NineteenFit : Type 0
NineteenFit = (bs : List ℕ) → length bs ≤ 19 → capped (number_of bs) ≡ number_of bs
