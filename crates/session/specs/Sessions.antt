-- Sessions: the answer to a record, and the session that follows (SPEC.md, "Sessions"). Assumes nothing.
use Rattle.std.specs.Prelude.{Err, None, Ok, Option, Some, ℕ, Bool, true, false, cond, not, List, get_or}
use Rattle.answer.specs.Answers.{Answer}
use Rattle.layout.specs.declared.Record.{Record}
use Rattle.answer.specs.declared.Reason.TheVariants.{WrongLength, NotExpected, FileOpen}
use Rattle.answer.specs.Orders.{require, ◌then◌, if_accepted}
use Rattle.layout.specs.declared.Record.TheVariants as layout
use Rattle.layout.specs.Layouts.{record_length, named_by, row_at, agreement_row, bank_row, sequence_row}
use Rattle.barcode.specs.Agreed.{list_answer}
use Rattle.record.specs.declared.Payment.{Payment}
use Rattle.record.specs.declared.Trailer.{Trailer}
use Rattle.record.specs.Values.{Decoded, number_in, decoded_record_under}
use Rattle.record.specs.declared.Contents.TheVariants as contents
use Rattle.kinds.specs.Terms.{Terms, told}
use Rattle.record.specs.Records.{field_bytes}
use Rattle.file.specs.declared.File.{File}
use Rattle.file.specs.declared.Figures.{Figures}
use Rattle.file.specs.Forms.{body_of, has_line_end, fits_length, end_answer}
use Rattle.file.specs.Files.{most_payments, most_centavos, fresh_file, no_file, file_answer, file_with, figures_answer}
use Rattle.board.specs.declared.Lane.{Lane}
use Rattle.board.specs.declared.Board.{Board}
use Rattle.board.specs.Lanes.{most_lanes, limit, lane_of_one}
use Rattle.board.specs.Boards.{fresh_board, post_answer, board_with}
use Rattle.pairs.specs.declared.Pair.{Pair}
use Rattle.pairs.specs.declared.Memory.{Memory}
use Rattle.pairs.specs.Pairs.{most_pairs, no_pair, fresh_memory, memory_answer, memory_with}
use Rattle.session.specs.declared.Session.{Session}
use Rattle.session.specs.declared.Limits.{Limits}

-- the lanes of a board, the bytes of a record, the most payments and centavos of a file, the most a board's sums reach,
-- the pairs of a memory
abbrev pub session_limits : Limits
session_limits =
    record {
      lanes = most_lanes;
      record_length = record_length;
      payments = most_payments;
      file_total = most_centavos;
      board_total = limit;
      pairs = most_pairs;
    }

-- no file open, this board shown and these numbers remembered; the working board is the board shown
abbrev pub closed_at : Board → Memory → Session
closed_at b m = record { shown = b; work = b; opened = false; file = no_file; opening = no_pair; memory = m }

-- a fresh session: no file open, an empty board and no numbers
abbrev pub fresh_session : Session
fresh_session = closed_at fresh_board fresh_memory

-- a file just opened by a header of this version, form, pair and number, with this board shown and these numbers
-- remembered: the working board starts from the board shown
abbrev pub opened_at : Board → Memory → ℕ → Bool → Pair → Session
opened_at b m version lined p =
    record { shown = b; work = b; opened = true; file = fresh_file version lined; opening = p; memory = m }

-- the session with this working board and this file; all else is as it was
abbrev pub session_working : Session → Board → File → Session
session_working s work file =
    record {
      shown = s.shown;
      work = work;
      opened = s.opened;
      file = file;
      opening = s.opening;
      memory = s.memory;
    }

-- the bank and the agreement of a header, byte for byte, with its sequence number
abbrev pub pair_numbered : List ℕ → ℕ → Pair
pair_numbered rec sequence =
    record {
      bank = field_bytes (row_at bank_row) rec;
      agreement = field_bytes (row_at agreement_row) rec;
      sequence = sequence;
    }

abbrev pub pair_in : List ℕ → Pair
pair_in rec = pair_numbered rec (number_in sequence_row rec)

-- what is known of the records to come: the version of the open file, and the list lent with each of them
abbrev pub session_terms : List ℕ → Session → Terms
session_terms agreed s = told s.file.version agreed

-- with no file open A is expected; in an open file G or Z
abbrev pub session_expects : Bool → Option Record → Bool
session_expects opened (Some layout.Header) = not opened
session_expects opened (Some layout.Payment) = opened
session_expects opened (Some layout.Trailer) = opened
session_expects opened None = false

-- a G as a lane of one, and the figures that a Z shows
abbrev pub lane_of_payment : Payment → Lane
lane_of_payment p = lane_of_one p.barcode.issuer p.received p.tariff

abbrev pub figures_in : Trailer → Figures
figures_in t = record { count = t.count; total = t.total }

-- a payment in the open file: 15, 16, 17, 18; lanes and totals include the open file's
abbrev pub pay_answer : Session → Lane → Answer
pay_answer s p = file_answer s.file p.tally.centavos then post_answer s.work p

-- the session with a payment on its working board and in its file
abbrev pub session_with_payment : Session → Lane → Session
session_with_payment s p = session_working s (board_with s.work p) (file_with s.file p.tally.centavos)

-- the session whose file is closed: its payments are shown together, and its number is remembered, if there is room
abbrev pub session_closed : Session → Session
session_closed s = closed_at s.work (memory_with s.memory s.opening)

-- the answer to a record by what it was decoded as: its own refusal first; A: 26, 27; G: 15 to 18; Z: 13, 14
abbrev pub session_answer : Session → List ℕ → Decoded → Answer
session_answer s rec (Ok (contents.Header h)) = memory_answer s.memory (pair_numbered rec h.sequence)
session_answer s rec (Ok (contents.Payment p)) = pay_answer s (lane_of_payment p)
session_answer s rec (Ok (contents.Trailer t)) = figures_answer s.file (figures_in t)
session_answer s rec (Err refusal) = Err refusal

-- the session with an accepted record; `ended` is whether CR and LF follow it, which decides the form of a header's
-- file
abbrev pub session_with : Session → Bool → List ℕ → Decoded → Session
session_with s ended rec (Ok (contents.Header h)) =
    opened_at s.shown s.memory h.version ended (pair_numbered rec h.sequence)
session_with s ended rec (Ok (contents.Payment p)) = session_with_payment s (lane_of_payment p)
session_with s ended rec (Ok (contents.Trailer t)) = session_closed s
session_with s ended rec (Err refusal) = s

-- the answer to a record, and the session behind it
pub record TakeResult : Type 0 where
  pub answer : Answer
  pub session : Session

-- an answer, and the new session if it is accepted, else the old one
abbrev pub take_result : Answer → Session → Session → TakeResult
take_result a new old = record { answer = a; session = if_accepted a new old }

-- taking a record, under a list of agreed issuers that was judged: 1; then, of its first 150 bytes, 9, its own
-- refusals, under the version of the open file, and the session's; last 22
abbrev pub take_answer : List ℕ → Session → List ℕ → Answer
take_answer agreed s rec =
    require (fits_length s.opened s.file.lined rec) WrongLength 0
    then require (session_expects s.opened (named_by (get_or rec 0 0))) NotExpected 1
    then session_answer s (body_of rec) (decoded_record_under (session_terms agreed s) (body_of rec))
    then end_answer s.opened s.file.lined rec

-- the session with a record, if it is accepted
abbrev pub next_session : List ℕ → Session → List ℕ → Session
next_session agreed s rec =
    session_with s (has_line_end rec) (body_of rec) (decoded_record_under (session_terms agreed s) (body_of rec))

abbrev pub take_under : List ℕ → Session → List ℕ → TakeResult
take_under agreed s rec = take_result (take_answer agreed s rec) (next_session agreed s rec) s

-- as a caller asks it: 25 before everything, whatever the record. A session keeps no list: each record has its own.
abbrev pub take_of : List ℕ → Session → List ℕ → TakeResult
take_of agreed s rec = take_result (list_answer agreed then take_answer agreed s rec) (next_session agreed s rec) s

-- abandoning drops an open file, whose number is not remembered, and does nothing otherwise
abbrev pub abandon_of : Session → Session
abandon_of s = cond s.opened (closed_at s.shown s.memory) s

-- finishing answers 19 while a file is open, else 0, and changes nothing
abbrev pub finish_of : Session → TakeResult
finish_of s = record { answer = require (not s.opened) FileOpen 0; session = s }
