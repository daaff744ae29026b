-- P1 to P12 (SPEC.md, "Samples"), under the empty list of agreed issuers: each row has an input, what is computed of
-- it, and the outcome. Assumes nothing.
use Rattle.std.specs.Prelude.{None, Option, Some, ℕ, ◌+◌, ◌<◌, Bool, true, false, List, [], ◌∷◌, ◌++◌, ◌≢◌, ◌≡◌, get_or, set}
use Rattle.calendar.specs.declared.Date.{Date}
use Rattle.answer.specs.declared.Reason.TheVariants.{WrongGeneralCheck}
use Rattle.answer.specs.Answers.{Refused}
use Rattle.answer.specs.Refusals.{answer_number, answer_place}
use Rattle.answer.specs.Orders.{Each}
use Rattle.decimal.specs.declared.Class.TheVariants.{Digit}
use Rattle.decimal.specs.Bytes.{is_of}
use Rattle.decimal.specs.Numbers.{digits_of}
use Rattle.decimal.specs.Places.{gather, places}
use Rattle.calendar.specs.Dates.{date_of}
use Rattle.modulus.specs.declared.Modulus.{Modulus}
use Rattle.modulus.specs.declared.Modulus.TheVariants.{Ten, Eleven}
use Rattle.modulus.specs.Checks.{check_of, exchanged, ZeroAndNine}
use Rattle.barcode.specs.Shown.{Decoded, no_fields, decoded_barcode, shown_free}
use Rattle.barcode.specs.declared.Fields.{Fields}
use Rattle.barcode.specs.Codes.{checked, digit_at, product, is_segment}
use Rattle.barcode.specs.RoundTrips.{answer_of_barcode, shown_fields}
use Rattle.line.specs.Lines as lines
use Rattle.board.specs.declared.Lane.{Lane}
use Rattle.board.specs.Boards.{lanes_of}
use Rattle.session.specs.declared.RunResult.{RunResult}
use Rattle.session.specs.Sessions.{fresh_session}
use Rattle.session.specs.Runs.{run_of}
use Rattle.typos.specs.Typos.{Passes, Names, InOneBox, box_remainder, code_remainder, BothMove, NoCheck}
use Rattle.ledger.specs.Samples as ledger

-- What is computed of an input.

pub data Question : Type 0 where
  check : Modulus → List ℕ → Question  -- the check digit of these digits under this modulus
  barcode : List ℕ → Question  -- these bytes, decoded as a barcode
  line : List ℕ → Question  -- these bytes, decoded as a typed line
  date : List ℕ → Question  -- whether these bytes are a date
  files : List ℕ → Question  -- these bytes, run by a fresh session

-- The outcomes. A refusal has its number and place (SPEC.md, "Refusals"); number 0 at place 0 is acceptance.

-- a run over files: its answer, the records and files accepted, and the lanes shown
pub record Shown : Type 0 where
  pub number : ℕ
  pub place : ℕ
  pub records : ℕ
  pub files : ℕ
  pub lanes : List Lane

pub data Outcome : Type 0 where
  digit : ℕ → Outcome
  decodes : ℕ → ℕ → Fields → Outcome
  is_date : Bool → Outcome
  shows : Shown → Outcome

-- a barcode or line decoded: the number and place of its answer and the fields shown, which are zeros if it is refused
abbrev pub accepted : Fields → Outcome
accepted fields = decodes 0 0 fields

abbrev pub refused : ℕ → ℕ → Outcome
refused number place = decodes number place no_fields

abbrev pub decoded_to : Decoded → Outcome
decoded_to d = decodes (answer_number (answer_of_barcode d)) (answer_place (answer_of_barcode d)) (shown_fields d)

abbrev pub dated : Option Date → Outcome
dated (Some d) = is_date true
dated None = is_date false

abbrev pub ran_to : RunResult → Outcome
ran_to r =
    shows (record {
      number = answer_number r.answer;
      place = answer_place r.answer;
      records = r.records;
      files = r.files;
      lanes = lanes_of r.session.shown;
    })

-- the outcome, by the definitions that the contracts of the operations cite
abbrev pub outcome_of : Question → Outcome
outcome_of (check m digits) = digit (check_of m digits)
outcome_of (barcode code) = decoded_to (decoded_barcode [] code)
outcome_of (line bytes) = decoded_to (lines.decoded_line [] bytes)
outcome_of (date bytes) = dated (date_of bytes)
outcome_of (files bytes) = ran_to (run_of [] fresh_session false bytes)

-- The inputs.

abbrev pub p1 : List ℕ
p1 = digits_of 11 01230067896

abbrev pub p3 : List ℕ
p3 = digits_of 44 8221_0000_2150_4820_0974_1232_2015_4098_2901_0860_5940

abbrev pub p4 : List ℕ
p4 = digits_of 48 817700000000_010936599702_411310797039_001433708318

abbrev pub p5 : List ℕ
p5 = digits_of 48 817700000000_019036599702_411310797039_001433708318

abbrev pub p6 : List ℕ
p6 = digits_of 48 817700000000_010936599702_411310797039_001433708319

abbrev pub p7 : List ℕ
p7 = digits_of 48 817800000009_010936599702_411310797039_001433708318

abbrev pub p8 : List ℕ
p8 = digits_of 48 818000000004_000000100005_000000000000_000000000000

abbrev pub p9 : List ℕ
p9 = digits_of 48 818000000004_000000100005_000000000000_000000000060

abbrev pub p11 : List ℕ
p11 = ledger.header ++ ledger.trailer 000002 0

abbrev pub p12 : ℕ → List ℕ
p12 total = ledger.header ++ (ledger.payment 2147483648 ++ (ledger.payment 2147483649 ++ ledger.trailer 000004 total))

-- Their values.

-- the fields of a line whose issuer did not agree on due dates
abbrev pub fields : ℕ → ℕ → ℕ → ℕ → Fields
fields segment kind value number =
    record { kind = kind; value = value; issuer = record { segment = segment; number = number }; due = None }

-- the one lane of the payments of P12, whose issuer is that of P4
abbrev pub lane : ℕ → ℕ → List Lane
lane payments centavos = record { issuer = ledger.sample_issuer; tally = ledger.tally payments centavos } ∷ []

-- The table.

pub record Row : Type 0 where
  pub question : Question
  pub outcome : Outcome

infix 70 ◌gives◌
abbrev pub ◌gives◌ : Question → Outcome → Row
question gives outcome = record { question = question; outcome = outcome }

abbrev pub samples : List Row
samples =
    check Ten p1 gives digit 3  -- P1
    ∷ check Eleven p1 gives digit 0  -- P2
    ∷ check Ten (gather checked p3) gives digit 1  -- P3: the general check, over the 43 digits without place 4
    ∷ barcode p3 gives refused 5 3  -- P3, as a barcode
    ∷ line p4 gives accepted (fields 1 7 109 3659)  -- P4
    ∷ line p5 gives accepted (fields 1 7 190 3659)  -- P5
    ∷ line p6 gives refused 6 48  -- P6
    ∷ line p7 gives refused 7 4  -- P7
    ∷ line p8 gives accepted (fields 1 8 0 10)  -- P8
    ∷ line p9 gives accepted (fields 1 8 0 10)  -- P9
    ∷ date (digits_of 8 20000229) gives is_date true  -- P10
    ∷ date (digits_of 8 19000229) gives is_date false
    ∷ date (digits_of 8 21000229) gives is_date false
    ∷ files p11 gives shows (record { number = 0; place = 0; records = 2; files = 1; lanes = [] })  -- P11
    -- P12
    ∷ files (p12 4294967297)
    gives shows (record { number = 0; place = 0; records = 4; files = 1; lanes = lane 2 4294967297 })
    ∷ files (p12 1) gives shows (record { number = 14; place = 8; records = 3; files = 0; lanes = [] })
    ∷ []

-- Promise: each row has the outcome that the table says.
abbrev pub Hold : List Row → Type 0
Hold rows = Each (λ (row : Row). outcome_of row.question ≡ row.outcome) rows

-- Promise: the payments of P12 have P4's barcode.
abbrev pub P4IsPaid : Type 0
P4IsPaid = lines.code_of p4 ≡ ledger.code

-- Promises: each statement of demand 3 has an instance among the samples. Of each instance: the typo, the premises of
-- the statement, and what the statement says.

-- the premises of `OneChangedDigitIsRefused`
pub record ChangeUnderTen (line : List ℕ) (i d : ℕ) : Type 0 where
  pub passes : Passes line
  pub names : Names Ten line
  pub inside : i < lines.line_length
  pub changes : d ≢ get_or line i 0
  pub still : Names Ten (set line i d)

-- P6 is P4 with place 48, the last box's check, changed from 8 to 9: it is refused
abbrev pub P6IsAChange : Type 0
P6IsAChange = (p6 ≡ set p4 47 57) × ChangeUnderTen p4 47 57 × ¬ Passes p6

-- the premises of `ExchangeOfNeighbours`
pub record ExchangeUnderTen (line : List ℕ) (i : ℕ) : Type 0 where
  pub passes : Passes line
  pub names : Names Ten line
  pub inside : i + 1 < lines.line_length
  pub differ : get_or line i 0 ≢ get_or line (i + 1) 0
  pub still : Names Ten (exchanged line i)

-- P5 is P4 with 0 and 9 exchanged at places 15 and 16, in its second box: it passes
abbrev pub P5IsAnExchange : Type 0
P5IsAnExchange =
    (p5 ≡ exchanged p4 14)
    × ExchangeUnderTen p4 14
    × ZeroAndNine (get_or p4 14 0) (get_or p4 15 0)
    × InOneBox 14
    × Passes p5

-- the premises of `OneChangedDigitUnderEleven`
pub record ChangeUnderEleven (line : List ℕ) (i d : ℕ) : Type 0 where
  pub passes : Passes line
  pub names : Names Eleven line
  pub inside : i < lines.line_length
  pub changes : d ≢ get_or line i 0
  pub digit : is_of Digit d ≡ true
  pub first : digit_at 1 (set line i d) ≡ product
  pub second : is_segment (digit_at 2 (set line i d)) ≡ true
  pub still : Names Eleven (set line i d)

-- P9 is P8 with place 47 changed from 0 to 6, which is no check digit, and both remainders move between 0 and 1: it
-- passes
abbrev pub P9IsAChange : Type 0
P9IsAChange =
    (p9 ≡ set p8 46 54) × ChangeUnderEleven p8 46 54 × NoCheck 46 × BothMove 46 p8 p9 × Passes p9

-- P8 with place 35 changed from 0 to 6, which is no check digit: the remainder of its box moves from 0 to 1, that of
-- the whole code from 0 to 8, and it is refused 7 at 4
abbrev pub BoxAloneIsRefused : Type 0
BoxAloneIsRefused =
    ChangeUnderEleven p8 34 54
    × NoCheck 34
    × (box_remainder Eleven 34 p8 ≡ 0)
    × (box_remainder Eleven 34 (set p8 34 54) ≡ 1)
    × (code_remainder Eleven p8 ≡ 0)
    × (code_remainder Eleven (set p8 34 54) ≡ 8)
    × (lines.line_answer (set p8 34 54) ≡ Refused WrongGeneralCheck 4)
    × ¬ Passes (set p8 34 54)

-- Promise: two parts of P8's barcode have the bytes of its free field, so they do not tell where it is.
abbrev pub P8HasTwoFreeParts : Type 0
P8HasTwoFreeParts =
    (places 20 44 (lines.code_of p8) ≡ shown_free [] (lines.code_of p8))
    × (places 19 43 (lines.code_of p8) ≡ shown_free [] (lines.code_of p8))
