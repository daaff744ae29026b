-- The two check digits of SPEC.md, "Check digits", over any list of bytes. Assumes nothing.
use Rattle.std.specs.Prelude.{Option, Some, None, ℕ, ◌+◌, ◌-◌, ◌*◌, ◌/◌, ◌%◌, ◌≤◌, ◌<◌, true, cond, ◌&&◌, List, [], ◌∷◌, ◌++◌, ◌↔◌, ◌⊎◌, ◌≡◌, leb, eqb, length, get_or, set}
use Rattle.decimal.specs.declared.Class.TheVariants.{Digit}
use Rattle.decimal.specs.Bytes.{is_of, all}
use Rattle.decimal.specs.Numbers.{value_of}
use Rattle.modulus.specs.declared.Modulus.{Modulus}
use Rattle.modulus.specs.declared.Modulus.TheVariants.{Ten, Eleven}
use Rattle.modulus.specs.declared.BothSums.{BothSums}

abbrev pub size_of : Modulus → ℕ
size_of Ten = 10
size_of Eleven = 11

-- weights from the right: 2, 1, 2, 1 .., and 2 to 9, then 2 again. That of a digit with k digits to its right.
abbrev pub weight_of : Modulus → ℕ → ℕ
weight_of Ten k = 2 - k % 2
weight_of Eleven k = 2 + k % 8

-- what a product adds: under modulo 10 its decimal digits, two at the most; under modulo 11 the whole product
abbrev pub product_part : Modulus → ℕ → ℕ
product_part Ten product = product / 10 + product % 10
product_part Eleven product = product

-- what a digit with k digits to its right adds, by its value, and what a byte adds
unfoldable pub added_by : Modulus → ℕ → ℕ → ℕ
added_by m k d = product_part m (weight_of m k * d)

unfoldable pub term_of : Modulus → ℕ → ℕ → ℕ
term_of m k b = added_by m k (value_of b)

-- the sum over a list that has k more digits to its right
abbrev pub weighted_sum : Modulus → ℕ → List ℕ → ℕ
weighted_sum m k [] = 0
weighted_sum m k (b ∷ bs) = term_of m (k + length bs) b + weighted_sum m k bs

abbrev pub remainder_of : Modulus → List ℕ → ℕ
remainder_of m bs = weighted_sum m 0 bs % size_of m

-- the check is 10 less the remainder by 10, and 0 for remainder 0; it is 11 less the remainder by 11, and 0 for
-- remainders 0 and 1
unfoldable pub digit_of_remainder : Modulus → ℕ → ℕ
digit_of_remainder Ten rest = cond (eqb rest 0) 0 (10 - rest)
digit_of_remainder Eleven rest = cond (leb rest 1) 0 (11 - rest)

abbrev pub check_of : Modulus → List ℕ → ℕ
check_of m bs = digit_of_remainder m (remainder_of m bs)

-- both sums of forty digits at once; of other bytes none
abbrev pub both_sums : List ℕ → Option BothSums
both_sums bs =
    cond (eqb (length bs) 40 && all (is_of Digit) bs)
    (Some (record { ten = weighted_sum Ten 0 bs; eleven = weighted_sum Eleven 0 bs })) None

-- Promises, over the modulus and over any list.

-- either rule gives one digit, for any number as the remainder
abbrev pub RuleIsOneDigit : Type 0
RuleIsOneDigit = (m : Modulus) (rest : ℕ) → digit_of_remainder m rest ≤ 9

-- so a check is one digit
abbrev pub CheckIsOneDigit : Type 0
CheckIsOneDigit = (m : Modulus) (bs : List ℕ) → check_of m bs ≤ 9

-- and the byte that is written for it is a digit
abbrev pub CheckIsADigit : Type 0
CheckIsADigit = (m : Modulus) (bs : List ℕ) → is_of Digit (48 + check_of m bs) ≡ true

-- the sum of two parts: the left one has the right one's digits to its right too
abbrev pub PartsCompose : Type 0
PartsCompose =
    (m : Modulus) (k : ℕ) (left right : List ℕ)
    → weighted_sum m k (left ++ right) ≡ weighted_sum m (k + length right) left + weighted_sum m k right

-- one digit changed into another moves the remainder
abbrev pub OneDigitMoves : Type 0
OneDigitMoves =
    (m : Modulus) (k : ℕ) (bs : List ℕ) (i d : ℕ)
    → i < length bs → is_of Digit (get_or bs i 0) ≡ true → is_of Digit d ≡ true
    → weighted_sum m k (set bs i d) % size_of m ≡ weighted_sum m k bs % size_of m → d ≡ get_or bs i 0

-- two neighbours exchanged
abbrev pub exchanged : List ℕ → ℕ → List ℕ
exchanged bs i = set (set bs i (get_or bs (i + 1) 0)) (i + 1) (get_or bs i 0)

-- the two are x and y, in either order
abbrev pub Are : ℕ → ℕ → ℕ → ℕ → Type 0
Are x y a b = ((a ≡ x) × (b ≡ y)) ⊎ ((a ≡ y) × (b ≡ x))

-- the digits 0 and 9
abbrev pub ZeroAndNine : ℕ → ℕ → Type 0
ZeroAndNine = Are 48 57

-- unequal digits exchanged under modulo 10 keep the remainder exactly when they are 0 and 9
abbrev pub ExchangeKeeps : Type 0
ExchangeKeeps =
    (k : ℕ) (bs : List ℕ) (i : ℕ) → i + 1 < length bs → is_of Digit (get_or bs i 0) ≡ true
    → is_of Digit (get_or bs (i + 1) 0) ≡ true → (get_or bs i 0 ≡ get_or bs (i + 1) 0 → ⊥)
    → (weighted_sum Ten k (exchanged bs i) % 10 ≡ weighted_sum Ten k bs % 10)
    ↔ ZeroAndNine (get_or bs i 0) (get_or bs (i + 1) 0)

-- an even number of digits more to the right changes no sum under modulo 10
abbrev pub EvenShiftKeeps : Type 0
EvenShiftKeeps = (n k : ℕ) (bs : List ℕ) → weighted_sum Ten (2 * n + k) bs ≡ weighted_sum Ten k bs

-- a remainder that moves from 0 to 1, or from 1 to 0
abbrev pub BetweenZeroAndOne : ℕ → ℕ → Type 0
BetweenZeroAndOne = Are 0 1

-- a check shows its remainder; under modulo 11 it does not tell 0 from 1
abbrev pub CheckShowsTen : Type 0
CheckShowsTen = (r q : ℕ) → r < 10 → q < 10 → digit_of_remainder Ten r ≡ digit_of_remainder Ten q → r ≡ q

abbrev pub CheckShowsEleven : Type 0
CheckShowsEleven =
    (r q : ℕ) → r < 11 → q < 11
    → (digit_of_remainder Eleven r ≡ digit_of_remainder Eleven q) ↔ ((r ≡ q) ⊎ BetweenZeroAndOne r q)
