-- Typing errors in an accepted line (SPEC.md, "Typing errors"). A typo is at an index of the line, which counts from 0.
-- Assumes nothing.
use Rattle.std.specs.Prelude.{ℕ, ◌+◌, ◌*◌, ◌/◌, ◌≤◌, ◌<◌, true, List, [], ◌∷◌, ◌↔◌, ◌≢◌, ◌≡◌, length, get_or, set}
use Rattle.answer.specs.Answers.{Accepted}
use Rattle.answer.specs.Orders.{Each}
use Rattle.decimal.specs.declared.Class.TheVariants.{Digit}
use Rattle.decimal.specs.Bytes.{is_of}
use Rattle.decimal.specs.Places.{Stretch, part_at, gather}
use Rattle.modulus.specs.declared.Modulus.{Modulus}
use Rattle.modulus.specs.declared.Modulus.TheVariants.{Ten, Eleven}
use Rattle.modulus.specs.Checks.{remainder_of, exchanged, ZeroAndNine, BetweenZeroAndOne}
use Rattle.barcode.specs.Codes.{digit_at, product, is_segment, modulus_of, checked, prefix_answer, general_right}
use Rattle.line.specs.Lines.{line_length, box_digits, boxes, code_of, box_right, line_answer}

-- the line passes its checks: it is accepted under the empty list (UnderLists.antt has every list)
abbrev pub Passes : List ℕ → Type 0
Passes line = line_answer line ≡ Accepted

-- the line's third digit names this modulus
abbrev pub Names : Modulus → List ℕ → Type 0
Names m line = modulus_of (digit_at 3 line) ≡ m

-- the line passes the five checks: its boxes are right, and its general check is
abbrev pub PassesChecks : List ℕ → Type 0
PassesChecks line =
    Each (λ box. box_right (modulus_of (digit_at 3 line)) line box ≡ true) boxes × (general_right (code_of line) ≡ true)

-- a box and its check are twelve places: box n, from 0, and the one that holds an index
abbrev pub box_places : ℕ
box_places = box_digits + 1

abbrev pub box_at : ℕ → Stretch
box_at n = record { first = box_places * n + 1; last = box_places * n + box_digits }

abbrev pub box_of : ℕ → Stretch
box_of i = box_at (i / box_places)

-- the index is among a box's eleven digits
abbrev pub Among : Stretch → ℕ → Type 0
Among box i = (box.first ≤ i + 1) × (i < box.last)

-- two neighbours are among the eleven digits of one box
abbrev pub InOneBox : ℕ → Type 0
InOneBox i = Among (box_of i) i × Among (box_of i) (i + 1)

-- the remainder of the box that holds an index, and that of the whole code, its 43 digits without the general check
abbrev pub box_remainder : Modulus → ℕ → List ℕ → ℕ
box_remainder m i line = remainder_of m (part_at (box_of i) line)

abbrev pub whole_of : List ℕ → List ℕ
whole_of line = gather checked (code_of line)

abbrev pub code_remainder : Modulus → List ℕ → ℕ
code_remainder m line = remainder_of m (whole_of line)

-- both move between 0 and 1, each by itself, from a line to one with a typo at an index
abbrev pub BothMove : ℕ → List ℕ → List ℕ → Type 0
BothMove i line typo =
    BetweenZeroAndOne (box_remainder Eleven i line) (box_remainder Eleven i typo)
    × BetweenZeroAndOne (code_remainder Eleven line) (code_remainder Eleven typo)

-- the index is that of none of the five check digits: not place 4, and not the place behind a box
abbrev pub NoCheck : ℕ → Type 0
NoCheck i = (i ≢ 3) × Each (λ box. i ≢ box.last) boxes

-- Promises.

-- the boxes are these four; each index of a line is in its own, among the eleven digits or as the check behind them
abbrev pub BoxesAreNumbered : Type 0
BoxesAreNumbered =
    (boxes ≡ box_at 0 ∷ box_at 1 ∷ box_at 2 ∷ box_at 3 ∷ [])
    × ((i : ℕ) → i < line_length → (i / box_places < 4) × ((box_of i).first ≤ i + 1) × (i ≤ (box_of i).last))

-- a line passes exactly when it has 48 bytes, its prefix is accepted and it passes the five checks
abbrev pub PassesByChecks : Type 0
PassesByChecks =
    (line : List ℕ) → Passes line ↔ ((length line ≡ line_length) × (prefix_answer line ≡ Accepted) × PassesChecks line)

-- Under modulo 10, change one digit, so that the third digit still names modulo 10: it is always refused. It is so for
-- every byte put in.
abbrev pub OneChangedDigitIsRefused : Type 0
OneChangedDigitIsRefused =
    (line : List ℕ) (i d : ℕ) → Passes line → Names Ten line → i < line_length → d ≢ get_or line i 0
    → Names Ten (set line i d) → ¬ Passes (set line i d)

-- Under modulo 10, exchange two unequal neighbours, so that the third digit still names modulo 10:
-- it passes exactly when the two are 0 and 9 among the eleven digits of one box.
abbrev pub ExchangeOfNeighbours : Type 0
ExchangeOfNeighbours =
    (line : List ℕ) (i : ℕ) → Passes line → Names Ten line → i + 1 < line_length → get_or line i 0 ≢ get_or line (i + 1) 0
    → Names Ten (exchanged line i)
    → Passes (exchanged line i) ↔ (ZeroAndNine (get_or line i 0) (get_or line (i + 1) 0) × InOneBox i)

-- Under modulo 11, change one digit so that the first is still 8, the second a segment and the third names modulo 11:
-- it passes exactly when it is none of the five check digits and the remainders of its box and of the whole code both
-- move between 0 and 1.
abbrev pub OneChangedDigitUnderEleven : Type 0
OneChangedDigitUnderEleven =
    (line : List ℕ) (i d : ℕ) → Passes line → Names Eleven line → i < line_length → d ≢ get_or line i 0
    → is_of Digit d ≡ true → digit_at 1 (set line i d) ≡ product → is_segment (digit_at 2 (set line i d)) ≡ true
    → Names Eleven (set line i d)
    → Passes (set line i d) ↔ (NoCheck i × BothMove i line (set line i d))
