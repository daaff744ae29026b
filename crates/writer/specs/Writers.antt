-- The file writer (SPEC.md, "Writer"): A, then each G, then Z with its own count and total. Assumes nothing.
use Rattle.std.specs.Prelude.{ℕ, Bool, true, false, ◌&&◌, ◌||◌, List, [], ◌∷◌, eqb, length}
use Rattle.answer.specs.declared.Reason.TheVariants.{WrongLength, NotExpected}
use Rattle.answer.specs.Answers.{Answer}
use Rattle.answer.specs.Orders.{require, ◌then◌, if_accepted}
use Rattle.decimal.specs.Numbers.{digits_of}
use Rattle.barcode.specs.Agreed.{list_answer}
use Rattle.layout.specs.declared.Record.{Record}
use Rattle.layout.specs.declared.Record.TheVariants.{Header, Payment, Trailer}
use Rattle.layout.specs.Layouts.{record_length, layout_of, given_length}
use Rattle.kinds.specs.Terms.{Terms, told}
use Rattle.record.specs.Values.{version_in}
use Rattle.fields.specs.Making.{made_of, make_answer}
use Rattle.file.specs.Forms.{lined_length, length_of}
use Rattle.file.specs.Files.{fresh_file, no_file, file_answer, file_with, figures_of, closing_answer}
use Rattle.writer.specs.declared.Stage.{Stage}
use Rattle.writer.specs.declared.Stage.TheVariants.{Fresh, Open, Closed}
use Rattle.writer.specs.declared.Writer.{Writer}

abbrev pub fresh_writer : Writer
fresh_writer = record { stage = Fresh; file = no_file }

-- a fresh writer expects A, an open file G or Z; once it is closed, nothing
abbrev pub writer_expects : Stage → Record → Bool
writer_expects Fresh Header = true
writer_expects Fresh Payment = false
writer_expects Fresh Trailer = false
writer_expects Open Header = false
writer_expects Open Payment = true
writer_expects Open Trailer = true
writer_expects Closed r = false

-- the length of the caller's buffer: 150 or 152 for a fresh writer, whose header it makes bare or lined; then that of
-- the file's form, once it is closed too
abbrev pub fits_buffer : Stage → Bool → ℕ → Bool
fits_buffer Fresh lined size = eqb size record_length || eqb size lined_length
fits_buffer Open lined size = eqb size (length_of lined)
fits_buffer Closed lined size = eqb size (length_of lined)

-- a buffer of 152 bytes is for a lined file
abbrev pub is_lined_buffer : ℕ → Bool
is_lined_buffer size = eqb size lined_length

-- 1 for the length of the caller's buffer or of the field bytes, then 9
abbrev pub call_answer : Writer → Record → ℕ → ℕ → Answer
call_answer w r given size =
    require (fits_buffer w.stage w.file.lined size && eqb given (given_length r)) WrongLength 0
    then require (writer_expects w.stage r) NotExpected 1

-- the answer to a call, and the writer behind it
pub record WriteResult : Type 0 where
  pub answer : Answer
  pub writer : Writer

-- the next writer where it is accepted, else the old one
abbrev pub write_result : Answer → Writer → Writer → WriteResult
write_result a new old = record { answer = a; writer = if_accepted a new old }

-- the version of its file, which its header named, and the list that is lent; header and trailer are lent none
abbrev pub writer_terms : List ℕ → Writer → Terms
writer_terms agreed w = told w.file.version agreed

-- A: the fields; the file is then open under the version that they name, in the form of its buffer. The
-- bytes defined here and below are those of the record: a lined file has CR and LF behind them (`in_form`).
abbrev pub header_answer : Writer → List ℕ → ℕ → Answer
header_answer w given size =
    call_answer w Header (length given) size then make_answer (writer_terms [] w) Header given (0 ∷ 0 ∷ []) record_length

abbrev pub header_bytes : List ℕ → List ℕ
header_bytes given = made_of (layout_of Header) given (0 ∷ 0 ∷ [])

abbrev pub header_next : List ℕ → ℕ → Writer
header_next given size =
    record { stage = Open; file = fresh_file (version_in (header_bytes given)) (is_lined_buffer size) }

abbrev pub header_written : Writer → List ℕ → ℕ → WriteResult
header_written w given size = write_result (header_answer w given size) (header_next given size) w

-- G, under a list of agreed issuers that was judged: 10 for a writer in an arbitrary state whose version is another
-- number than 4 and 6, the fields, 21 in the money fields' turn, then 15 and 16
abbrev pub payment_answer : List ℕ → Writer → List ℕ → ℕ → ℕ → ℕ → Answer
payment_answer agreed w given received tariff size =
    call_answer w Payment (length given) size
    then make_answer (writer_terms agreed w) Payment given (received ∷ tariff ∷ []) record_length
    then file_answer w.file received

abbrev pub payment_next : Writer → ℕ → Writer
payment_next w received = record { stage = w.stage; file = file_with w.file received }

abbrev pub payment_under : List ℕ → Writer → List ℕ → ℕ → ℕ → ℕ → WriteResult
payment_under agreed w given received tariff size =
    write_result (payment_answer agreed w given received tariff size) (payment_next w received) w

-- as a caller asks it: 25 before everything, of a closed writer too
abbrev pub payment_check : List ℕ → Writer → List ℕ → ℕ → ℕ → ℕ → Answer
payment_check agreed w given received tariff size =
    list_answer agreed then payment_answer agreed w given received tariff size

abbrev pub payment_written : List ℕ → Writer → List ℕ → ℕ → ℕ → ℕ → WriteResult
payment_written agreed w given received tariff size =
    write_result (payment_check agreed w given received tariff size) (payment_next w received) w

abbrev pub payment_bytes : List ℕ → ℕ → ℕ → List ℕ
payment_bytes given received tariff = made_of (layout_of Payment) given (received ∷ tariff ∷ [])

-- the field bytes of Z: the digits of its own count
abbrev pub count_bytes : Writer → List ℕ
count_bytes w = digits_of (given_length Trailer) (figures_of w.file).count

-- Z: 15 and 16 for a writer in an arbitrary state whose figures do not fit, then its own count and total
abbrev pub trailer_answer : Writer → ℕ → Answer
trailer_answer w size =
    call_answer w Trailer (given_length Trailer) size
    then closing_answer w.file
    then make_answer (writer_terms [] w) Trailer (count_bytes w) ((figures_of w.file).total ∷ 0 ∷ []) record_length

abbrev pub trailer_next : Writer → Writer
trailer_next w = record { stage = Closed; file = w.file }

abbrev pub trailer_written : Writer → ℕ → WriteResult
trailer_written w size = write_result (trailer_answer w size) (trailer_next w) w

abbrev pub trailer_bytes : Writer → List ℕ
trailer_bytes w = made_of (layout_of Trailer) (count_bytes w) ((figures_of w.file).total ∷ 0 ∷ [])
