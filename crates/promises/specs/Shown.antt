-- What a decoded record shows, by its places (SPEC.md, "Records") and not by rows of the table. Assumes nothing.
use Rattle.std.specs.Prelude.{ℕ, ◌+◌, ◌-◌, false, List, [], ◌≡◌}
use Rattle.answer.specs.declared.Reason.TheVariants.{FixedDiffers}
use Rattle.answer.specs.Answers.{Refused}
use Rattle.answer.specs.Refusals.{received_place, tariff_place, issuer_place, sequence_place, agreement_place}
use Rattle.decimal.specs.Numbers.{number_of}
use Rattle.decimal.specs.Places.{places}
use Rattle.calendar.specs.declared.Date.{Date}
use Rattle.calendar.specs.Dates.{date_of}
use Rattle.barcode.specs.Codes.{free}
use Rattle.barcode.specs.Shown.{fields_of}
use Rattle.line.specs.Lines.{in_line}
use Rattle.file.specs.Files.{count_place, total_place}
use Rattle.file.specs.Forms.{end_place}
use Rattle.layout.specs.declared.Record.TheVariants.{Payment}
use Rattle.layout.specs.Layouts.{row_at, agreement_row, sequence_row, received_row, tariff_row, barcode_row, count_row, total_row}
use Rattle.kinds.specs.Terms.{is_version, version_answer}
use Rattle.record.specs.Values.{day_of, header_shown, payment_shown, trailer_shown}
use Rattle.session.specs.Sessions.{pair_in}
use Rattle.ledger.specs.Samples as ledger

abbrev pub number_at : ℕ → ℕ → List ℕ → ℕ
number_at first last rec = number_of (places first last rec)

abbrev pub date_at : ℕ → ℕ → List ℕ → Date
date_at first last rec = day_of (date_of (places first last rec))

-- a segment's free field begins at these places of a barcode, a line and a G
abbrev pub FreeFieldAt : ℕ → ℕ → ℕ → ℕ → Type 0
FreeFieldAt segment code line rec =
    ((free segment).first ≡ code) × (in_line code ≡ line) × ((row_at barcode_row).first - 1 + code ≡ rec)

-- Promise: refusals 13 and 14 point at the count and the total of a Z, 16 and 18 at the received centavos of a G, 18
-- for tariffs at its tariff, and 17 at the issuer, place 16 of its barcode; 10 of a G that is told a number other than
-- 4 and 6 points at place 80, an A's version; 22 at place 151, right behind the record; 26 and 27 at the sequence
-- number and the agreement of an A; 11 of an agreed issuer at the first place of its free field, 20 in a barcode, 21 in
-- a line and 57 in a G, in segment 6 24, 26 and 61.
abbrev pub RefusalsPointAtPlaces : Type 0
RefusalsPointAtPlaces =
    (count_place ≡ (row_at count_row).first)
    × (total_place ≡ (row_at total_row).first)
    × (received_place ≡ (row_at received_row).first)
    × (tariff_place ≡ (row_at tariff_row).first)
    × (issuer_place ≡ (row_at barcode_row).first - 1 + 16)
    × ((version : ℕ) → is_version version ≡ false → version_answer version Payment ≡ Refused FixedDiffers 80)
    × (end_place ≡ 151)
    × (sequence_place ≡ (row_at sequence_row).first)
    × (agreement_place ≡ (row_at agreement_row).first)
    × FreeFieldAt 1 20 21 57
    × FreeFieldAt 6 24 26 61

-- Promise: bank, date, sequence number and version of an A; dates, barcode, amounts and number of a G, under any list;
-- count and total of a Z.
abbrev pub RecordsShowTheirPlaces : Type 0
RecordsShowTheirPlaces =
    (agreed rec : List ℕ)
    → (header_shown rec
    ≡ record {
      bank = number_at 43 45 rec;
      date = date_at 66 73 rec;
      sequence = number_at 74 79 rec;
      version = number_at 80 81 rec;
    })
    × (payment_shown agreed rec
    ≡ record {
      paid = date_at 22 29 rec;
      credited = date_at 30 37 rec;
      barcode = fields_of agreed (places 38 81 rec);
      received = number_at 82 93 rec;
      tariff = number_at 94 100 rec;
      number = number_at 101 108 rec;
    })
    × (trailer_shown rec ≡ record { count = number_at 2 7 rec; total = number_at 8 24 rec })

-- Promise: the pair of a file, and its number, are these places of its A, byte for byte.
abbrev pub PairsAreTheirPlaces : Type 0
PairsAreTheirPlaces =
    (rec : List ℕ)
    → pair_in rec ≡ record { bank = places 43 45 rec; agreement = places 3 22 rec; sequence = number_at 74 79 rec }

-- Promise: the last digit received, at place 93, is no part of the tariff: a payment of 109 centavos without tariff.
abbrev pub TariffIsBehindReceived : Type 0
TariffIsBehindReceived =
    ((payment_shown [] (ledger.payment 109)).tariff ≡ 0) × (number_at 93 100 (ledger.payment 109) ≡ 90_000_000)
