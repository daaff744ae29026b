-- A file that the writer closed (SPEC.md, "Writer"): over every list of calls to a new writer, refused ones in between.
-- Assumes nothing.
use Rattle.std.specs.Prelude.{ℕ, ◌≤◌, Bool, true, List, [], ◌∷◌, ◌++◌, map, ◌≡◌, length}
use Rattle.answer.specs.Answers.{Answer}
use Rattle.answer.specs.Orders.{if_accepted, Each}
use Rattle.barcode.specs.Agreed.{RightList}
use Rattle.layout.specs.declared.Record.TheVariants.{Header}
use Rattle.layout.specs.Layouts.{record_length, joined_of}
use Rattle.kinds.specs.Terms.{is_version}
use Rattle.file.specs.Forms.{in_form}
use Rattle.board.specs.Lanes.{most_lanes, lanes_from}
use Rattle.session.specs.Sessions.{fresh_session}
use Rattle.writer.specs.declared.Stage.TheVariants as stage
use Rattle.writer.specs.declared.Writer.{Writer}
use Rattle.writer.specs.Writers.{fresh_writer, header_answer, header_written, header_bytes, payment_check, payment_written, is_lined_buffer, trailer_answer, trailer_written, trailer_bytes}
use Rattle.ledger.specs.Ledgers.{taking, lanes_of_records}
use Rattle.ledger.specs.Promises.{answers_of}
use Rattle.ledger.specs.Samples as ledger
use Rattle.ledger.specs.WholeFiles.{Whole, records_of, all_in_form, AllAccepted}
use Rattle.ledger.specs.WrittenFiles.{GivenPayment, record_of, written_records, Closed, trailer_after}

-- a call, with its arguments and the length of the caller's buffer for its record; a payment has the list that is lent
-- with it
pub data WriterCall : Type 0 where
  header : List ℕ → ℕ → WriterCall
  payment : List ℕ → GivenPayment → ℕ → WriterCall
  trailer : ℕ → WriterCall

-- its answer, the writer after it, and the record that it writes if it is accepted, with what follows it
abbrev pub answer_to : Writer → WriterCall → Answer
answer_to w (header given size) = header_answer w given size
answer_to w (payment agreed g size) = payment_check agreed w g.fields g.received g.tariff size
answer_to w (trailer size) = trailer_answer w size

abbrev pub next_writer : Writer → WriterCall → Writer
next_writer w (header given size) = (header_written w given size).writer
next_writer w (payment agreed g size) = (payment_written agreed w g.fields g.received g.tariff size).writer
next_writer w (trailer size) = (trailer_written w size).writer

abbrev pub writes : Writer → WriterCall → List ℕ
writes w (header given size) = in_form (is_lined_buffer size) (header_bytes given)
writes w (payment agreed g size) = in_form (is_lined_buffer size) (record_of g)
writes w (trailer size) = in_form (is_lined_buffer size) (trailer_bytes w)

-- calls one after the other: the writer after them, and the records that they wrote
abbrev pub writer_after_calls : Writer → List WriterCall → Writer
writer_after_calls w [] = w
writer_after_calls w (call ∷ calls) = writer_after_calls (next_writer w call) calls

abbrev pub records_written : Writer → List WriterCall → List (List ℕ)
records_written w [] = []
records_written w (call ∷ calls) =
    if_accepted (answer_to w call) (writes w call ∷ []) [] ++ records_written (next_writer w call) calls

-- the call is lent this list, or none
abbrev pub LentOnly : List ℕ → WriterCall → Type 0
LentOnly agreed (header given size) = Unit {0}
LentOnly agreed (payment list g size) = list ≡ agreed
LentOnly agreed (trailer size) = Unit {0}

-- the calls wrote one file, all of one form, with a header, payments that are right under the version it names and
-- under the list, and the right trailer; a fresh session lent the same list accepts it, unless it has more than 64
-- issuers
pub record OneFile (agreed : List ℕ) (calls : List WriterCall) : Type 0 where
  pub lined : Bool
  pub heading : List ℕ
  pub payments : List GivenPayment
  pub closed : Closed agreed lined heading payments
  pub records :
      records_written fresh_writer calls
      ≡ all_in_form lined
      (records_of (header_bytes heading) (written_records payments) (trailer_after agreed lined heading payments))
  pub whole :
      Whole agreed (header_bytes heading) (written_records payments) (trailer_after agreed lined heading payments)
  pub accepted :
      length (lanes_from (lanes_of_records (written_records payments))) ≤ most_lanes
      → AllAccepted (answers_of fresh_session (map (taking agreed) (records_written fresh_writer calls)))

-- Promise: calls whose payments were all lent one right list, and after which the writer is closed, wrote one file.
-- (Lent a wrong one, an A and a Z can still be written, since the two make no barcode, and the session answers 25 to
-- both.)
abbrev pub CallsMakeOneFile : Type 0
CallsMakeOneFile =
    (agreed : List ℕ) (calls : List WriterCall) → RightList agreed → Each (LentOnly agreed) calls
    → (writer_after_calls fresh_writer calls).stage ≡ stage.Closed → OneFile agreed calls

-- Promise: any calls after which the writer is open leave it with a version, 4 or 6.
abbrev pub OpenWritersHaveAVersion : Type 0
OpenWritersHaveAVersion =
    (calls : List WriterCall)
    → let w = writer_after_calls fresh_writer calls in
    w.stage ≡ stage.Open → is_version w.file.version ≡ true

-- one call: the header of the samples
abbrev pub header_alone : List WriterCall
header_alone = header (joined_of Header ledger.header) record_length ∷ []

-- Promise: a header alone leaves the writer open, and is no file.
abbrev pub HeaderAloneIsNoFile : Type 0
HeaderAloneIsNoFile =
    ((writer_after_calls fresh_writer header_alone).stage ≡ stage.Open) × ¬ OneFile [] header_alone
