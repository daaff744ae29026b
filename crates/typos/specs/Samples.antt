-- Typos that show where the cases of SPEC.md, "Typing errors", begin and end. Assumes nothing.
use Rattle.std.specs.Prelude.{ℕ, List, [], ◌∷◌, ◌≡◌, set}
use Rattle.answer.specs.declared.Reason.TheVariants.{WrongBoxCheck, WrongGeneralCheck, NoDate}
use Rattle.answer.specs.Answers.{Answer, Accepted, Refused}
use Rattle.answer.specs.Orders.{Each}
use Rattle.decimal.specs.Numbers.{digits_of}
use Rattle.modulus.specs.declared.Modulus.TheVariants.{Eleven}
use Rattle.modulus.specs.Checks.{exchanged}
use Rattle.barcode.specs.Agreed.{key_of}
use Rattle.line.specs.Lines.{line_length, line_answer, line_check}
use Rattle.typos.specs.Typos.{Passes, box_remainder, code_remainder}

-- Promises.

-- the two remainders may move in opposite directions: place 25 of a line changed from 0 to 8
abbrev pub opposite : List ℕ
opposite = digits_of line_length 818000000004_014361582218_011100202310_001303003101

abbrev pub DirectionsMayDiffer : Type 0
DirectionsMayDiffer =
    (box_remainder Eleven 24 opposite ≡ 1)
    × (box_remainder Eleven 24 (set opposite 24 56) ≡ 0)
    × (code_remainder Eleven opposite ≡ 0)
    × (code_remainder Eleven (set opposite 24 56) ≡ 1)
    × Passes opposite
    × Passes (set opposite 24 56)

-- a typo in the segment may pass, and then names another issuer: place 2 of a line changed from 2 to 9
abbrev pub segmented : List ℕ
segmented = digits_of line_length 829000000000_011351990220_303000212303_030330100000

abbrev pub SegmentTypoPasses : Type 0
SegmentTypoPasses = Passes segmented × Passes (set segmented 1 57)

-- a typo in the value kind, to one that names modulo 11, may pass, and none of the cases covers it: place 3 of a line
-- changed from 7 to 9
abbrev pub kinded : List ℕ
kinded = digits_of line_length 827600000000_000196040000_000000000000_000000000000

abbrev pub KindTypoPasses : Type 0
KindTypoPasses = Passes kinded × Passes (set kinded 2 57)

-- 0 and 9 exchanged at a border: the general check and the digit behind it, a box's last two digits, its last digit and
-- its check, its check and the next box
pub record Border : Type 0 where
  pub line : List ℕ
  pub index : ℕ
  pub exchange : Answer

abbrev pub borders : List Border
borders =
    record {
      line = digits_of line_length 827090100039_130000000005_000003000163_000000000026;
      index = 3;
      exchange = Accepted;
    }
    ∷ record {
      line = digits_of line_length 817800000090_000000000000_000000000000_000000000000;
      index = 9;
      exchange = Accepted;
    }
    ∷ record {
      line = digits_of line_length 876800000609_000000700005_000086000007_003000000004;
      index = 10;
      exchange = Refused WrongGeneralCheck 4;
    }
    ∷ record {
      line = digits_of line_length 876800000609_000000700005_000086000007_003000000004;
      index = 11;
      exchange = Refused WrongBoxCheck 12;
    }
    ∷ []

abbrev pub BordersHold : Type 0
BordersHold =
    Each (λ (b : Border). Passes b.line × (line_answer (exchanged b.line b.index) ≡ b.exchange)) borders

-- Under a list: a line whose free field starts with a date, and its issuer on the list.
abbrev pub dated : List ℕ
dated = digits_of line_length 817000000007_010936592012_909010000000_000000000000

abbrev pub dated_agreed : List ℕ
dated_agreed = key_of (record { segment = 1; number = 3659 }) ∷ []

-- 9 and 0 exchanged in the date of a line, at places 25 and 26: it passes its checks and the date is none. With its
-- issuer agreed it is refused 11 at 21, under the empty list accepted.
abbrev pub DatedExchangeIsRefused : Type 0
DatedExchangeIsRefused =
    (line_check dated_agreed dated ≡ Accepted)
    × (line_check dated_agreed (exchanged dated 24) ≡ Refused NoDate 21)
    × (line_check [] (exchanged dated 24) ≡ Accepted)

-- under modulo 11, a digit of the date changed from 4 to 0, at place 29: the same
abbrev pub dated_eleven : List ℕ
dated_eleven = digits_of line_length 878000000008_009221932023_110040211200_210121020029

abbrev pub eleven_agreed : List ℕ
eleven_agreed = key_of (record { segment = 7; number = 2193 }) ∷ []

abbrev pub DatedChangeIsRefused : Type 0
DatedChangeIsRefused =
    (line_check eleven_agreed dated_eleven ≡ Accepted)
    × (line_check eleven_agreed (set dated_eleven 28 48) ≡ Refused NoDate 21)
    × (line_check [] (set dated_eleven 28 48) ≡ Accepted)

-- the typo in the segment, 2 to 9, makes it the line of an issuer that agreed: refused 11; of one that did not:
-- accepted
abbrev pub SegmentTypoMeetsAnAgreement : Type 0
SegmentTypoMeetsAnAgreement =
    let agreed = key_of (record { segment = 9; number = 5199 }) ∷ [] in
    (line_check agreed segmented ≡ Accepted)
    × (line_check agreed (set segmented 1 57) ≡ Refused NoDate 21)
    × (line_check [] (set segmented 1 57) ≡ Accepted)
