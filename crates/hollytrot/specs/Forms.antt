-- The forms in which values cross to other languages: numbers and structs of them. Assumes nothing.
use Rattle.std.specs.Prelude.{Result, Err, Ok, ℕ, ◌-◌, cond, List, eqb, length, take, drop}
use Rattle.answer.specs.declared.Refusal.{Refusal}
use Rattle.answer.specs.Answers.{Answer}
use Rattle.answer.specs.Answers as answer
use Rattle.answer.specs.Refusals.{answer_number, answer_place}
use Rattle.answer.specs.Orders.{if_accepted}
use Rattle.barcode.specs.declared.Fields.{Fields}
use Rattle.barcode.specs.Shown.{Decoded, no_fields, shown_free}
use Rattle.barcode.specs.Codes.{code_length}
use Rattle.layout.specs.declared.Record.TheVariants as layout
use Rattle.layout.specs.Layouts.{mark_of, row_at}
use Rattle.kinds.specs.Terms.{Terms}
use Rattle.record.specs.declared.Header.{Header}
use Rattle.record.specs.declared.Payment.{Payment}
use Rattle.record.specs.declared.Trailer.{Trailer}
use Rattle.record.specs.declared.Contents.TheVariants as contents
use Rattle.record.specs.Values as values
use Rattle.record.specs.Values.{day_of, shown_field}
use Rattle.writer.specs.declared.Stage.{Stage}
use Rattle.writer.specs.declared.Stage.TheVariants as stage
use Rattle.writer.specs.declared.Writer.{Writer}
use Rattle.writer.specs.Writers.{WriteResult}
use Rattle.session.specs.Sessions.{TakeResult}
use Rattle.session.specs.declared.RunResult.{RunResult}
use Rattle.page.specs.Pages.{PrintResult}
use Rattle.hollytrot.specs.declared.CAnswer.{CAnswer}
use Rattle.hollytrot.specs.declared.CPart.{CPart}
use Rattle.hollytrot.specs.declared.CFields.{CFields}
use Rattle.hollytrot.specs.declared.CDecoded.{CDecoded}
use Rattle.hollytrot.specs.declared.CPayment.{CPayment}
use Rattle.hollytrot.specs.declared.CRecord.{CRecord}
use Rattle.hollytrot.specs.declared.CWriter.{CWriter}
use Rattle.hollytrot.specs.declared.CWriteResult.{CWriteResult}
use Rattle.hollytrot.specs.declared.CTakeResult.{CTakeResult}
use Rattle.hollytrot.specs.declared.CRunResult.{CRunResult}
use Rattle.hollytrot.specs.declared.CPageResult.{CPageResult}

-- an answer: its number and its place, 0 and 0 if it is accepted
abbrev pub c_answer_of : Answer → CAnswer
c_answer_of a = record { number = answer_number a; place = answer_place a }

-- a part of the caller's bytes: its offset, counted from 0, and its length; the empty part has offset 0
abbrev pub c_part_of : ℕ → ℕ → CPart
c_part_of from n = record { from = cond (eqb n 0) 0 from; length = n }

-- the bytes that a part is
abbrev pub bytes_in : CPart → List ℕ → List ℕ
bytes_in p bytes = take p.length (drop p.from bytes)

-- the free field ends with the barcode
unfoldable pub free_part : List ℕ → List ℕ → CPart
free_part agreed code = c_part_of (code_length - length (shown_free agreed code)) (length (shown_free agreed code))

-- a field starts at the first place of its row
unfoldable pub field_part : Terms → ℕ → List ℕ → CPart
field_part t row rec = c_part_of ((row_at row).first - 1) (length (shown_field t row rec))

-- the fields of a barcode; without a due date its year, month and day are 0
abbrev pub c_fields_of : Fields → CFields
c_fields_of f = record { kind = f.kind; value = f.value; issuer = f.issuer; due = day_of f.due }

abbrev pub no_cFields : CFields
no_cFields = c_fields_of no_fields

abbrev pub c_decoded_of : Decoded → CDecoded
c_decoded_of (Ok f) = record { answer = c_answer_of answer.Accepted; fields = c_fields_of f }
c_decoded_of (Err refusal) = record { answer = c_answer_of (Err refusal); fields = no_cFields }

abbrev pub c_payment_of : Payment → CPayment
c_payment_of p =
    record {
      paid = p.paid;
      credited = p.credited;
      barcode = c_fields_of p.barcode;
      received = p.received;
      tariff = p.tariff;
      number = p.number;
    }

-- a record: its first byte and its values; the values of the other two records, and all of a refused one, are 0

abbrev pub no_header : Header
no_header = record { bank = 0; date = record { year = 0; month = 0; day = 0 }; sequence = 0; version = 0 }

abbrev pub no_cPayment : CPayment
no_cPayment =
    record {
      paid = record { year = 0; month = 0; day = 0 };
      credited = record { year = 0; month = 0; day = 0 };
      barcode = no_cFields;
      received = 0;
      tariff = 0;
      number = 0;
    }

abbrev pub no_trailer : Trailer
no_trailer = record { count = 0; total = 0 }

abbrev pub c_record_of : values.Decoded → CRecord
c_record_of (Ok (contents.Header h)) =
    record {
      answer = c_answer_of answer.Accepted;
      letter = mark_of layout.Header;
      header = h;
      payment = no_cPayment;
      trailer = no_trailer;
    }
c_record_of (Ok (contents.Payment p)) =
    record {
      answer = c_answer_of answer.Accepted;
      letter = mark_of layout.Payment;
      header = no_header;
      payment = c_payment_of p;
      trailer = no_trailer;
    }
c_record_of (Ok (contents.Trailer t)) =
    record {
      answer = c_answer_of answer.Accepted;
      letter = mark_of layout.Trailer;
      header = no_header;
      payment = no_cPayment;
      trailer = t;
    }
c_record_of (Err refusal) =
    record {
      answer = c_answer_of (Err refusal);
      letter = 0;
      header = no_header;
      payment = no_cPayment;
      trailer = no_trailer;
    }

-- a writer: its stage is 0 before the header and 1 in an open file; every other number is a closed file
unfoldable pub stage_of : ℕ → Stage
stage_of n = cond (eqb n 0) stage.Fresh (cond (eqb n 1) stage.Open stage.Closed)

abbrev pub stage_number : Stage → ℕ
stage_number stage.Fresh = 0
stage_number stage.Open = 1
stage_number stage.Closed = 2

abbrev pub writer_of : CWriter → Writer
writer_of p = record { stage = stage_of p.stage; file = p.file }

abbrev pub c_writer_of : Writer → CWriter
c_writer_of w = record { stage = stage_number w.stage; file = w.file }

-- the writer behind a call: after a refusal the given one itself
abbrev pub writer_behind : CWriter → Result Writer Refusal → CWriter
writer_behind p (Ok w) = c_writer_of w
writer_behind p (Err refusal) = p

-- the result of a call: after a refusal the given writer itself
abbrev pub c_write_result_of : CWriter → WriteResult → CWriteResult
c_write_result_of p w =
    record { answer = c_answer_of w.answer; writer = if_accepted w.answer (c_writer_of w.writer) p }

-- a session crosses unchanged
abbrev pub c_take_result_of : TakeResult → CTakeResult
c_take_result_of t = record { answer = c_answer_of t.answer; session = t.session }

abbrev pub c_run_result_of : RunResult → CRunResult
c_run_result_of r =
    record {
      answer = c_answer_of r.answer;
      session = r.session;
      records = r.records;
      files = r.files;
      bytes = r.bytes;
    }

abbrev pub c_page_result_of : PrintResult → CPageResult
c_page_result_of p = record { answer = c_answer_of p.answer; length = p.length }
