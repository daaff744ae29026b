-- A file that the writer closed, as a fresh session takes it. Assumes nothing.
use Rattle.std.specs.Prelude.{ℕ, ◌+◌, ◌≤◌, Bool, false, List, [], ◌∷◌, map, ◌≡◌, length}
use Rattle.answer.specs.Answers.{Accepted}
use Rattle.barcode.specs.Agreed.{RightList}
use Rattle.layout.specs.declared.Record.TheVariants.{Header, Payment}
use Rattle.layout.specs.Layouts.{joined_of, received_row, tariff_row}
use Rattle.record.specs.Values as values
use Rattle.file.specs.Forms.{length_of}
use Rattle.board.specs.Lanes.{most_lanes, lanes_from}
use Rattle.board.specs.Boards.{lanes_of}
use Rattle.session.specs.declared.Session.{Session}
use Rattle.session.specs.Sessions.{fresh_session}
use Rattle.session.specs.Runs.{run_of, bytes_of}
use Rattle.writer.specs.declared.Writer.{Writer}
use Rattle.writer.specs.Writers.{fresh_writer, header_answer, header_written, header_bytes, payment_check, payment_written, is_lined_buffer, payment_bytes, trailer_answer, trailer_bytes}
use Rattle.ledger.specs.Ledgers.{Step, lanes_of_records}
use Rattle.ledger.specs.Promises.{answers_of, shown_lanes}
use Rattle.ledger.specs.WholeFiles.{Whole, records_of, all_in_form, file_of, TrueFigures, AllAccepted}

-- a payment as the writer is given it, and the record that it writes
pub record GivenPayment : Type 0 where
  pub fields : List ℕ
  pub received : ℕ
  pub tariff : ℕ

abbrev pub record_of : GivenPayment → List ℕ
record_of g = payment_bytes g.fields g.received g.tariff

abbrev pub written_records : List GivenPayment → List (List ℕ)
written_records gs = map record_of gs

-- payments written one after the other under one list, into buffers of the file's form: the writer that follows, and
-- that each is accepted
abbrev pub writer_after_payments : List ℕ → Writer → List GivenPayment → Writer
writer_after_payments agreed w [] = w
writer_after_payments agreed w (g ∷ gs) =
    writer_after_payments agreed
    (payment_written agreed w g.fields g.received g.tariff (length_of w.file.lined)).writer gs

abbrev pub PaymentsWritten : List ℕ → Writer → List GivenPayment → Type 0
PaymentsWritten agreed w [] = Unit {0}
PaymentsWritten agreed w (g ∷ gs) =
    let size = length_of w.file.lined in
    (payment_check agreed w g.fields g.received g.tariff size ≡ Accepted)
    × PaymentsWritten agreed (payment_written agreed w g.fields g.received g.tariff size).writer gs

abbrev pub opened_by : Bool → List ℕ → Writer
opened_by lined header = (header_written fresh_writer header (length_of lined)).writer

-- a fresh writer accepted a header, payments under a right list, and its trailer, all of this form
pub record Closed (agreed : List ℕ) (lined : Bool) (header : List ℕ) (gs : List GivenPayment) : Type 0 where
  pub list : RightList agreed
  pub opens : header_answer fresh_writer header (length_of lined) ≡ Accepted
  pub pays : PaymentsWritten agreed (opened_by lined header) gs
  pub closes : trailer_answer (writer_after_payments agreed (opened_by lined header) gs) (length_of lined) ≡ Accepted

abbrev pub trailer_after : List ℕ → Bool → List ℕ → List GivenPayment → List ℕ
trailer_after agreed lined header gs = trailer_bytes (writer_after_payments agreed (opened_by lined header) gs)

-- the file as it was written: each record with what the writer puts behind it in a buffer of this length
abbrev pub written_file : List ℕ → Bool → List ℕ → List GivenPayment → List Step
written_file agreed lined header gs =
    file_of agreed (is_lined_buffer (length_of lined)) (header_bytes header) (written_records gs)
    (trailer_after agreed lined header gs)

abbrev pub written_bytes : List ℕ → Bool → List ℕ → List GivenPayment → List ℕ
written_bytes agreed lined header gs =
    bytes_of
    (all_in_form (is_lined_buffer (length_of lined))
    (records_of (header_bytes header) (written_records gs) (trailer_after agreed lined header gs)))

-- what the writer is given for a payment record: its fields, joined, and its two amounts
abbrev pub given_by : List ℕ → GivenPayment
given_by rec =
    record {
      fields = joined_of Payment rec;
      received = values.number_in received_row rec;
      tariff = values.number_in tariff_row rec;
    }

-- its payments name at most 64 issuers
abbrev pub FewIssuers : List GivenPayment → Type 0
FewIssuers gs = length (lanes_from (lanes_of_records (written_records gs))) ≤ most_lanes

-- Promises, of both forms and under any right list.

-- it is one A, its Gs and one Z, each accepted by itself under the list, with the true count and total
abbrev pub ClosedFileIsWhole : Type 0
ClosedFileIsWhole =
    (agreed : List ℕ) (lined : Bool) (header : List ℕ) (gs : List GivenPayment) → Closed agreed lined header gs
    → Whole agreed (header_bytes header) (written_records gs) (trailer_after agreed lined header gs)
    × TrueFigures (written_records gs) (trailer_after agreed lined header gs)

-- a fresh session lent the same list accepts it, unless it names over 64 issuers, and then shows its payments
abbrev pub ClosedFileIsAccepted : Type 0
ClosedFileIsAccepted =
    (agreed : List ℕ) (lined : Bool) (header : List ℕ) (gs : List GivenPayment)
    → Closed agreed lined header gs → FewIssuers gs
    → let file = written_file agreed lined header gs in
    AllAccepted (answers_of fresh_session file)
    × (shown_lanes file ≡ lanes_from (lanes_of_records (written_records gs)))

-- and so is a run over its bytes: it takes all its records, and one file
abbrev pub ClosedFileBytesRun : Type 0
ClosedFileBytesRun =
    (agreed : List ℕ) (lined : Bool) (header : List ℕ) (gs : List GivenPayment)
    → Closed agreed lined header gs → FewIssuers gs
    → let r = run_of agreed fresh_session false (written_bytes agreed lined header gs) in
    (r.answer ≡ Accepted) × (r.records ≡ length gs + 2) × (r.files ≡ 1)
    × (lanes_of r.session.shown ≡ lanes_from (lanes_of_records (written_records gs)))

-- the fields of a file, lined or bare, that a session with no file open accepted under a list, given under that list to
-- a fresh writer with buffers of that form, are that file again, its version, its trailer and its line ends too
abbrev pub FieldsWriteTheFile : Type 0
FieldsWriteTheFile =
    (agreed : List ℕ) (s : Session) (lined : Bool) (a : List ℕ) (recs : List (List ℕ)) (z : List ℕ)
    → s.opened ≡ false → Whole agreed a recs z
    → AllAccepted (answers_of s (file_of agreed lined a recs z))
    → Closed agreed lined (joined_of Header a) (map given_by recs)
    × (written_file agreed lined (joined_of Header a) (map given_by recs) ≡ file_of agreed lined a recs z)
