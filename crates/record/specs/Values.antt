-- What an accepted record shows (SPEC.md, "Records"). Assumes nothing.
use Rattle.answer.specs.declared.Refusal.{Refusal}
use Rattle.record.specs.declared.Contents.{Contents}
use Rattle.std.specs.Prelude.{Result, Err, None, Ok, Option, Some, ℕ, Bool, false, cond, ◌&&◌, List, [], leb, ltb, get_or}
use Rattle.answer.specs.Answers.{Refused, Answer}
use Rattle.layout.specs.declared.Record.{Record}
use Rattle.answer.specs.declared.Reason.TheVariants.{NotExpected}
use Rattle.answer.specs.Answers as answer
use Rattle.answer.specs.Orders.{if_accepted}
use Rattle.decimal.specs.Numbers.{number_of}
use Rattle.calendar.specs.declared.Date.{Date}
use Rattle.calendar.specs.Dates.{date_of}
use Rattle.barcode.specs.Shown.{fields_of}
use Rattle.layout.specs.declared.Record.TheVariants as layout
use Rattle.layout.specs.Layouts.{row_at, rows_of, named_by, bank_row, file_date_row, sequence_row, version_row, count_row, paid_row, credited_row, barcode_row, received_row, tariff_row, number_row, total_row}
use Rattle.kinds.specs.Terms.{Terms}
use Rattle.record.specs.declared.Header.{Header}
use Rattle.record.specs.declared.Payment.{Payment}
use Rattle.record.specs.declared.Trailer.{Trailer}
use Rattle.record.specs.declared.PaymentDue.{PaymentDue}
use Rattle.record.specs.declared.Contents.TheVariants as contents
use Rattle.record.specs.Records.{field_bytes, record_answer, record_check}

-- the number, and the date, at a row
abbrev pub number_in : ℕ → List ℕ → ℕ
number_in row rec = number_of (field_bytes (row_at row) rec)

-- an accepted record's dates are dates, so 0/0/0 is never shown
abbrev pub day_of : Option Date → Date
day_of (Some d) = d
day_of None = record { year = 0; month = 0; day = 0 }

abbrev pub date_in : ℕ → List ℕ → Date
date_in row rec = day_of (date_of (field_bytes (row_at row) rec))

-- the version that a header names
abbrev pub version_in : List ℕ → ℕ
version_in rec = number_in version_row rec

abbrev pub header_shown : List ℕ → Header
header_shown rec =
    record {
      bank = number_in bank_row rec;
      date = date_in file_date_row rec;
      sequence = number_in sequence_row rec;
      version = version_in rec;
    }

-- the barcode of a G shows its due date by the list of agreed issuers
abbrev pub payment_shown : List ℕ → List ℕ → Payment
payment_shown agreed rec =
    record {
      paid = date_in paid_row rec;
      credited = date_in credited_row rec;
      barcode = fields_of agreed (field_bytes (row_at barcode_row) rec);
      received = number_in received_row rec;
      tariff = number_in tariff_row rec;
      number = number_in number_row rec;
    }

abbrev pub trailer_shown : List ℕ → Trailer
trailer_shown rec = record { count = number_in count_row rec; total = number_in total_row rec }

-- what the record named by a first byte shows
-- what an accepted record shows, or its refusal
abbrev pub Decoded : Type 0
Decoded = Result Contents Refusal

abbrev pub record_shown : List ℕ → Option Record → List ℕ → Decoded
record_shown agreed (Some layout.Header) rec = Ok (contents.Header (header_shown rec))
record_shown agreed (Some layout.Payment) rec = Ok (contents.Payment (payment_shown agreed rec))
record_shown agreed (Some layout.Trailer) rec = Ok (contents.Trailer (trailer_shown rec))
record_shown agreed None rec = Refused NotExpected 1

-- a refused record shows its refusal, and no field
abbrev pub shown_unless_refused : Answer → Decoded → Decoded
shown_unless_refused answer.Accepted shown = shown
shown_unless_refused (Err refusal) shown = Err refusal

-- under a list of agreed issuers that was judged, and as a caller asks it
abbrev pub decoded_record_under : Terms → List ℕ → Decoded
decoded_record_under t rec =
    shown_unless_refused (record_answer t rec) (record_shown t.agreed (named_by (get_or rec 0 0)) rec)

abbrev pub decoded_record : Terms → List ℕ → Decoded
decoded_record t rec = shown_unless_refused (record_check t rec) (record_shown t.agreed (named_by (get_or rec 0 0)) rec)

-- the answer of a decoded record, which gives it its refusal number and place (SPEC.md, "Refusals")
abbrev pub answer_of_record : Decoded → Answer
answer_of_record (Ok (contents.Header h)) = answer.Accepted
answer_of_record (Ok (contents.Payment p)) = answer.Accepted
answer_of_record (Ok (contents.Trailer t)) = answer.Accepted
answer_of_record (Err refusal) = Err refusal

-- what a record pays: an accepted G its received centavos to its issuer, with its tariff; every other record nothing
abbrev pub payment_due_of : Decoded → Option PaymentDue
payment_due_of (Ok (contents.Header h)) = None
payment_due_of (Ok (contents.Payment p)) =
    Some (record { issuer = p.barcode.issuer; received = p.received; tariff = p.tariff })
payment_due_of (Ok (contents.Trailer t)) = None
payment_due_of (Err refusal) = None

-- A field by its row: the empty part for a wrong list, for a refused record, for another record's row and for a row
-- past the table.

abbrev pub has_row : Option Record → ℕ → Bool
has_row (Some r) row = leb (rows_of r).from row && ltb row (rows_of r).to
has_row None row = false

abbrev pub field_in : Option Record → ℕ → List ℕ → List ℕ
field_in named row rec = cond (has_row named row) (field_bytes (row_at row) rec) []

abbrev pub shown_field : Terms → ℕ → List ℕ → List ℕ
shown_field t row rec = if_accepted (record_check t rec) (field_in (named_by (get_or rec 0 0)) row rec) []
