-- Typing errors in a line that is accepted under a list of agreed issuers (SPEC.md, "Typing errors"): what the caller
-- of `line::check` gets, whatever the list says of the line's issuer and of the changed line's. Assumes nothing.
use Rattle.std.specs.Prelude.{ℕ, ◌+◌, ◌<◌, true, false, List, ◌↔◌, ◌⊎◌, ◌≢◌, ◌≡◌, length, get_or, set}
use Rattle.answer.specs.Answers.{Accepted}
use Rattle.answer.specs.Refusals.{answer_number}
use Rattle.decimal.specs.declared.Class.TheVariants.{Digit}
use Rattle.decimal.specs.Bytes.{is_of}
use Rattle.modulus.specs.declared.Modulus.TheVariants.{Ten, Eleven}
use Rattle.modulus.specs.Checks.{exchanged, ZeroAndNine}
use Rattle.barcode.specs.Codes.{digit_at, product, is_segment, issuer_of, free_of, prefix_answer}
use Rattle.barcode.specs.Agreed.{is_agreed, RightList, DueIsRight}
use Rattle.line.specs.Lines.{line_length, code_of, line_check}
use Rattle.typos.specs.Typos.{Names, PassesChecks, InOneBox, BothMove, NoCheck}

-- the line is accepted under the list
abbrev pub AcceptedUnder : List ℕ → List ℕ → Type 0
AcceptedUnder agreed line = line_check agreed line ≡ Accepted

-- it is accepted, or refused 11 for its due date
abbrev pub AcceptedOrNoDate : List ℕ → List ℕ → Type 0
AcceptedOrNoDate agreed line = AcceptedUnder agreed line ⊎ (answer_number (line_check agreed line) ≡ 11)

-- its issuer did not agree on due dates
abbrev pub NotAgreed : List ℕ → List ℕ → Type 0
NotAgreed agreed line = is_agreed agreed (issuer_of (code_of line)) ≡ false

-- it is accepted or refused 11 exactly when this holds; and if its issuer did not agree on due dates, accepted exactly
-- then
abbrev pub AcceptedExactly : List ℕ → List ℕ → Type 0 → Type 0
AcceptedExactly agreed line C =
    (AcceptedOrNoDate agreed line ↔ C) × (NotAgreed agreed line → AcceptedUnder agreed line ↔ C)

-- Promises, of any list. The line before the error is accepted under it, so it is a right one.

-- under a right list a line is accepted exactly when it has 48 bytes, its prefix is accepted, it passes the five checks,
-- and its issuer did not agree on due dates or its free field starts with a date
abbrev pub AcceptedByChecks : Type 0
AcceptedByChecks =
    (agreed line : List ℕ) → RightList agreed
    → AcceptedUnder agreed line
    ↔ ((length line ≡ line_length) × (prefix_answer line ≡ Accepted) × PassesChecks line
    × DueIsRight agreed (issuer_of (code_of line)) (free_of (code_of line)))

-- Under modulo 10, change one digit, so that the third digit still names modulo 10: it is always refused, and never 11.
-- It is so for every byte put in.
abbrev pub OneChangedDigitUnderAList : Type 0
OneChangedDigitUnderAList =
    (agreed line : List ℕ) (i d : ℕ) → AcceptedUnder agreed line → Names Ten line → i < line_length
    → d ≢ get_or line i 0 → Names Ten (set line i d)
    → ¬ AcceptedOrNoDate agreed (set line i d)

-- Under modulo 10, exchange two unequal neighbours, so that the third digit still names modulo 10: it is accepted or
-- refused 11 exactly when the two are 0 and 9 among the eleven digits of one box.
abbrev pub ExchangeUnderAList : Type 0
ExchangeUnderAList =
    (agreed line : List ℕ) (i : ℕ) → AcceptedUnder agreed line → Names Ten line
    → i + 1 < line_length → get_or line i 0 ≢ get_or line (i + 1) 0 → Names Ten (exchanged line i)
    → AcceptedExactly agreed (exchanged line i) (ZeroAndNine (get_or line i 0) (get_or line (i + 1) 0) × InOneBox i)

-- Under modulo 11, change one digit so that the first is still 8, the second a segment and the third names modulo 11: it
-- is accepted or refused 11 exactly when it is none of the five check digits and the remainders of its box and of the
-- whole code both move between 0 and 1.
abbrev pub OneChangedDigitUnderElevenAndAList : Type 0
OneChangedDigitUnderElevenAndAList =
    (agreed line : List ℕ) (i d : ℕ) → AcceptedUnder agreed line → Names Eleven line
    → i < line_length → d ≢ get_or line i 0 → is_of Digit d ≡ true → digit_at 1 (set line i d) ≡ product
    → is_segment (digit_at 2 (set line i d)) ≡ true → Names Eleven (set line i d)
    → AcceptedExactly agreed (set line i d) (NoCheck i × BothMove i line (set line i d))
