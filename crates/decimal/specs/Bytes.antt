-- The classes of bytes, and a part whose bytes must be of a class. Assumes nothing.
use Rattle.std.specs.Prelude.{ℕ, suc, ◌+◌, ◌<◌, Bool, true, false, ◌&&◌, ◌||◌, List, [], ◌∷◌, ◌++◌, ◌↔◌, ◌≡◌, leb, eqb, length, get_or, take, drop}
use Rattle.answer.specs.declared.Reason.{Reason}
use Rattle.answer.specs.Answers.{Answer, Accepted, Refused}
use Rattle.answer.specs.Orders.{require, ◌then◌, moved_by}
use Rattle.decimal.specs.declared.Class.{Class}
use Rattle.decimal.specs.declared.Class.TheVariants.{Digit, Blank, Text}

-- lo to hi, both included
abbrev pub within : ℕ → ℕ → ℕ → Bool
within lo hi b = leb lo b && leb b hi

-- a digit is a byte 48 to 57, a blank byte 32, a text byte 32 to 126 or 160 to 255, ISO 8859-1 (SPEC.md, "Words")
unfoldable pub is_of : Class → ℕ → Bool
is_of Digit b = within 48 57 b
is_of Blank b = eqb b 32
is_of Text b = within 32 126 b || within 160 255 b

-- every byte passes the test
abbrev pub all : (ℕ → Bool) → List ℕ → Bool
all ok [] = true
all ok (b ∷ bs) = ok b && all ok bs

-- refused at the first byte that fails the test; the first byte of all is at place p
abbrev pub each_is : (ℕ → Bool) → Reason → ℕ → List ℕ → Answer
each_is ok why p [] = Accepted
each_is ok why p (b ∷ bs) = require (ok b) why p then each_is ok why (suc p) bs

-- Promises, over every test.

abbrev pub AllJoins : Type 0
AllJoins = (ok : ℕ → Bool) (xs ys : List ℕ) → all ok (xs ++ ys) ≡ (all ok xs && all ok ys)

abbrev pub AllOfPart : Type 0
AllOfPart =
    (ok : ℕ → Bool) (from count : ℕ) (bs : List ℕ) → all ok bs ≡ true → all ok (take count (drop from bs)) ≡ true

abbrev pub EachAccepts : Type 0
EachAccepts =
    (ok : ℕ → Bool) (why : Reason) (p : ℕ) (bs : List ℕ) → (each_is ok why p bs ≡ Accepted) ↔ (all ok bs ≡ true)

-- refused at a byte that fails, when all before it pass
abbrev pub EachRefuses : Type 0
EachRefuses =
    (ok : ℕ → Bool) (why : Reason) (p i : ℕ) (bs : List ℕ) → i < length bs → all ok (take i bs) ≡ true
    → ok (get_or bs i 0) ≡ false → each_is ok why p bs ≡ Refused why (p + i)

-- with the first byte at another place, every place is moved by as much
abbrev pub EachMoves : Type 0
EachMoves =
    (ok : ℕ → Bool) (why : Reason) (p by : ℕ) (bs : List ℕ)
    → each_is ok why (p + by) bs ≡ moved_by (λ q. q + by) (each_is ok why p bs)
