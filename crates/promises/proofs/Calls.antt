-- A closed writer has written one file, whatever was called. Assumes nothing.
use Rattle.std.specs.Prelude.{Err}
use Prim.Native.Nat.{ℕ}
use mathlib.Core.Bool.{Bool, true, false, ◌&&◌}
use mathlib.Core.List.{List, [], ◌∷◌, ◌++◌, map, append_assoc, append-nil, map-append}
use mathlib.Core.Path.{◌≡◌, refl, sym, ap, ap₂, subst, ◌∙◌}
use native.Mathlib.Omega.{arith}
use lib.Dec.{eqb}
use lib.ListN.{length, length-append}
use Rattle.answer.specs.declared.Reason.TheVariants.{WrongLength, NotExpected}
use Rattle.answer.specs.Answers.{Answer, Accepted}
use Rattle.answer.specs.Orders.{require, ◌then◌, if_accepted, Each}
use Rattle.answer.proofs.Tests.{never}
use Rattle.answer.proofs.Orders.{require_accepts, then_accepts, accepted_takes}
use Rattle.decimal.specs.Bytes.{is_of}
use Rattle.decimal.specs.Numbers.{value_of, digits_of}
use Rattle.calendar.specs.Dates.{is_leap, days_in, is_date, date_of}
use Rattle.barcode.specs.Agreed.{RightList, list_answer}
use Rattle.layout.specs.declared.Record.{Record}
use Rattle.layout.specs.declared.Record.TheVariants.{Header, Payment, Trailer}
use Rattle.layout.specs.Layouts.{record_length, named_by, given_length, layout_of, joined_of}
use Rattle.layout.proofs.Layouts.{mark_names}
use Rattle.kinds.specs.Terms.{is_version, version_answer}
use Rattle.kinds.specs.Kinds.{is_version_text, is_service, date_answer, kind_answer}
use Rattle.record.specs.Values.{version_in}
use Rattle.record.proofs.Shown.{header_version}
use Rattle.fields.specs.Making.{written_answer, make_answer}
use Rattle.file.specs.Forms.{in_form, length_of}
use Rattle.file.specs.Files.{fresh_file, file_answer, file_with, figures_of, closing_answer}
use Rattle.session.specs.Sessions.{fresh_session}
use Rattle.writer.specs.declared.Stage.{Stage}
use Rattle.writer.specs.declared.Stage.TheVariants as stage
use Rattle.writer.specs.declared.Writer.{Writer}
use Rattle.writer.specs.Writers.{fresh_writer, fits_buffer, is_lined_buffer, writer_terms, writer_expects, call_answer, header_answer, header_bytes, payment_answer, payment_check, payment_written, count_bytes, trailer_answer, trailer_bytes}
use Rattle.writer.proofs.Buffers.{form_of_length}
use Rattle.writer.proofs.Calls.{call_size, open_call_size}
use Rattle.writer.proofs.Written.{first_byte, written_alone}
use Rattle.ledger.specs.Ledgers.{Step, taking}
use Rattle.ledger.specs.Promises.{answers_of}
use Rattle.ledger.specs.Samples as ledger
use Rattle.ledger.specs.WholeFiles.{records_of, all_in_form, AllAccepted}
use Rattle.ledger.specs.WrittenFiles as files
use Rattle.ledger.specs.WrittenFiles.{GivenPayment, record_of, written_records, PaymentsWritten, opened_by, Closed, trailer_after}
use Rattle.ledger.proofs.WholeFiles.{as_many}
use Rattle.ledger.proofs.WrittenFiles.{in_its_form, closed_file_is_whole, closed_file_is_accepted}
use Rattle.promises.specs.Calls.{WriterCall, header, payment, trailer, answer_to, next_writer, writes, writer_after_calls, LentOnly, records_written, OneFile, CallsMakeOneFile, OpenWritersHaveAVersion, header_alone, HeaderAloneIsNoFile}

-- An accepted call was expected, and its lengths are right.

abbrev stage_of : Writer → Stage
stage_of w = w.stage

abbrev kind_of : WriterCall → Record
kind_of (header given size) = Header
kind_of (payment list g size) = Payment
kind_of (trailer size) = Trailer

abbrev given_to : WriterCall → ℕ
given_to (header given size) = length given
given_to (payment list g size) = length g.fields
given_to (trailer size) = given_length Trailer

abbrev size_of : WriterCall → ℕ
size_of (header given size) = size
size_of (payment list g size) = size
size_of (trailer size) = size

called : (w : Writer) (call : WriterCall) → answer_to w call ≡ Accepted → call_answer w (kind_of call) (given_to call) (size_of call) ≡ Accepted
called w (header given size) e =
    ((then_accepts (call_answer w Header (length given) size) (make_answer (writer_terms [] w) Header given (0 ∷ 0 ∷ []) record_length)).0 e).0
called w (payment list g size) e =
    let made = make_answer (writer_terms list w) Payment g.fields (g.received ∷ g.tariff ∷ []) record_length in
    let judged = ((then_accepts (list_answer list) (payment_answer list w g.fields g.received g.tariff size)).0 e).1 in
    ((then_accepts (call_answer w Payment (length g.fields) size) (made then file_answer w.file g.received)).0 judged).0
called w (trailer size) e =
    let made = make_answer (writer_terms [] w) Trailer (count_bytes w) ((figures_of w.file).total ∷ 0 ∷ []) record_length in
    ((then_accepts (call_answer w Trailer (given_length Trailer) size) (closing_answer w.file then made)).0 e).0

expected : (w : Writer) (call : WriterCall) → answer_to w call ≡ Accepted → writer_expects w.stage (kind_of call) ≡ true
expected w call e =
    let r = kind_of call in
    let lengths = require (fits_buffer w.stage w.file.lined (size_of call) && eqb (given_to call) (given_length r)) WrongLength 0 in
    let order = require (writer_expects w.stage r) NotExpected 1 in
    (require_accepts (writer_expects w.stage r) NotExpected 1).0 ((then_accepts lengths order).0 (called w call e)).1

-- in an open file of this form: its length, and what is written
module _ (w : Writer) (call : WriterCall) (opened : w.stage ≡ stage.Open) (e : answer_to w call ≡ Accepted) where
  right_size : size_of call ≡ length_of w.file.lined
  right_size = open_call_size w (kind_of call) (given_to call) (size_of call) opened (called w call e)

  right_form : {lined : Bool} → w.file.lined ≡ lined → is_lined_buffer (size_of call) ≡ lined
  right_form f = ap is_lined_buffer right_size ∙ form_of_length w.file.lined ∙ f

-- A payment more at the end of those written.

pays_more :
    (agreed : List ℕ) (w : Writer) (gs : List GivenPayment) (g : GivenPayment) → PaymentsWritten agreed w gs
    → let last = files.writer_after_payments agreed w gs in
    payment_check agreed last g.fields g.received g.tariff (length_of last.file.lined) ≡ Accepted
    → PaymentsWritten agreed w (gs ++ (g ∷ []))
pays_more agreed w [] g p e = (e, tt)
pays_more agreed w (h ∷ gs) g p e =
    let next = (payment_written agreed w h.fields h.received h.tariff (length_of w.file.lined)).writer in
    (p.0, pays_more agreed next gs g p.1 e)

after_more :
    (agreed : List ℕ) (w : Writer) (gs : List GivenPayment) (g : GivenPayment)
    → let last = files.writer_after_payments agreed w gs in
    files.writer_after_payments agreed w (gs ++ (g ∷ []))
    ≡ (payment_written agreed last g.fields g.received g.tariff (length_of last.file.lined)).writer
after_more agreed w [] g = refl
after_more agreed w (h ∷ gs) g =
    after_more agreed (payment_written agreed w h.fields h.received h.tariff (length_of w.file.lined)).writer gs g

-- The writer and the records written after any calls.

data State (agreed : List ℕ) (w : Writer) (recs : List (List ℕ)) : Type 0 where
  fresh : w ≡ fresh_writer → recs ≡ [] → State agreed w recs
  writing :
      (lined : Bool) (h : List ℕ) (gs : List GivenPayment) → w.stage ≡ stage.Open → w.file.lined ≡ lined
      → header_answer fresh_writer h (length_of lined) ≡ Accepted → PaymentsWritten agreed (opened_by lined h) gs
      → w ≡ files.writer_after_payments agreed (opened_by lined h) gs → recs ≡ all_in_form lined (header_bytes h ∷ written_records gs)
      → State agreed w recs
  ended :
      (lined : Bool) (h : List ℕ) (gs : List GivenPayment) → w.stage ≡ stage.Closed → (RightList agreed → Closed agreed lined h gs)
      → recs ≡ all_in_form lined (records_of (header_bytes h) (written_records gs) (trailer_after agreed lined h gs)) → State agreed w recs

abbrev next : Writer → WriterCall → Writer
next w (header given size) = record { stage = stage.Open; file = fresh_file (version_in (header_bytes given)) (is_lined_buffer size) }
next w (payment list g size) = record { stage = w.stage; file = file_with w.file g.received }
next w (trailer size) = record { stage = stage.Closed; file = w.file }

-- one record more, in the form of the others
added : (lined form : Bool) {recs : List (List ℕ)} (old : List (List ℕ)) (rec : List ℕ) → form ≡ lined → recs ≡ all_in_form lined old
    → recs ++ (in_form form rec ∷ []) ≡ all_in_form lined (old ++ (rec ∷ []))
added lined form old rec f q =
    ap₂ (λ (rs : List (List ℕ)) (t : Bool). rs ++ (in_form t rec ∷ [])) q f ∙ sym (map-append (in_form lined) old (rec ∷ []))

-- a call that is not expected is not accepted
astray :
    {agreed : List ℕ} {w : Writer} {recs : List (List ℕ)} (s : Stage) (v : Writer) (call : WriterCall) → v.stage ≡ s
    → writer_expects s (kind_of call) ≡ false → answer_to v call ≡ Accepted → State agreed w recs
astray s v call p f e =
    let same = ap (λ (t : Stage). writer_expects t (kind_of call)) (sym p) in
    absurd (never (sym f ∙ same ∙ expected v call e))

moves :
    (agreed : List ℕ) (w : Writer) (recs : List (List ℕ)) (call : WriterCall) → LentOnly agreed call → State agreed w recs → answer_to w call ≡ Accepted
    → State agreed (next w call) (recs ++ (writes w call ∷ []))
moves agreed w recs (header given size) lent (fresh p q) e =
    let lined = is_lined_buffer size in
    let d : size ≡ length_of lined = call_size w Header (length given) size (called w (header given size) e) in
    let version = version_in (header_bytes given) in
    let a : header_answer fresh_writer given (length_of lined) ≡ Accepted =
    ap (λ (v : Writer). header_answer v given (length_of lined)) (sym p) ∙ ap (header_answer w given) (sym d) ∙ e in
    let opened : opened_by lined given ≡ record { stage = stage.Open; file = fresh_file version lined } =
    accepted_takes (header_answer fresh_writer given (length_of lined)) (record { stage = stage.Open; file = fresh_file version (is_lined_buffer (length_of lined)) }) fresh_writer a
    ∙ ap (λ (t : Bool). record { stage = stage.Open; file = fresh_file version t }) (form_of_length lined) in
    writing lined given [] refl refl a tt (sym opened) (added lined lined [] (header_bytes given) refl q)
moves agreed w recs (payment list g size) lent (fresh p q) e = astray stage.Fresh w (payment list g size) (ap stage_of p) refl e
moves agreed w recs (trailer size) lent (fresh p q) e = astray stage.Fresh w (trailer size) (ap stage_of p) refl e
moves agreed w recs (header given size) lent (writing lined h gs o f a p l q) e = astray stage.Open w (header given size) o refl e
moves agreed w recs (payment list g size) lent (writing lined h gs o f a p l q) e =
    let call = payment list g size in
    let last = files.writer_after_payments agreed (opened_by lined h) gs in
    let answer = payment_check agreed last g.fields g.received g.tariff (length_of last.file.lined) in
    let paid : answer ≡ Accepted =
    ap (λ (v : Writer). payment_check agreed v g.fields g.received g.tariff (length_of v.file.lined)) (sym l)
    ∙ ap (payment_check agreed w g.fields g.received g.tariff) (sym (right_size w call o e))
    ∙ ap (λ (l : List ℕ). payment_check l w g.fields g.received g.tariff size) (sym lent) ∙ e in
    let after : next w call ≡ files.writer_after_payments agreed (opened_by lined h) (gs ++ (g ∷ [])) =
    ap (λ (v : Writer). next v call) l
    ∙ sym (accepted_takes answer (next last call) last paid)
    ∙ sym (after_more agreed (opened_by lined h) gs g) in
    writing lined h (gs ++ (g ∷ [])) o f a (pays_more agreed (opened_by lined h) gs g p paid) after
    (added lined (is_lined_buffer size) (header_bytes h ∷ written_records gs) (record_of g) (right_form w call o e f) q
    ∙ ap (λ (rs : List (List ℕ)). all_in_form lined (header_bytes h ∷ rs)) (sym (map-append record_of gs (g ∷ []))))
moves agreed w recs (trailer size) lent (writing lined h gs o f a p l q) e =
    let call = trailer size in
    let last = files.writer_after_payments agreed (opened_by lined h) gs in
    let size_is : size ≡ length_of lined = right_size w call o e ∙ ap length_of f in
    let shut : trailer_answer last (length_of lined) ≡ Accepted =
    ap (λ (v : Writer). trailer_answer v (length_of lined)) (sym l) ∙ ap (trailer_answer w) (sym size_is) ∙ e in
    ended lined h gs refl (λ list. record { list = list; opens = a; pays = p; closes = shut })
    (added lined (is_lined_buffer size) (header_bytes h ∷ written_records gs) (trailer_bytes w) (right_form w call o e f) q
    ∙ ap (λ (v : Writer). all_in_form lined (records_of (header_bytes h) (written_records gs) (trailer_bytes v))) l)
moves agreed w recs (header given size) lent (ended lined h gs o c q) e = astray stage.Closed w (header given size) o refl e
moves agreed w recs (payment list g size) lent (ended lined h gs o c q) e = astray stage.Closed w (payment list g size) o refl e
moves agreed w recs (trailer size) lent (ended lined h gs o c q) e = astray stage.Closed w (trailer size) o refl e

-- a refused call changes nothing
left : (w : Writer) (call : WriterCall) → next_writer w call ≡ if_accepted (answer_to w call) (next w call) w
left w (header given size) = refl
left w (payment list g size) = refl
left w (trailer size) = refl

answered :
    (agreed : List ℕ) (w : Writer) (recs : List (List ℕ)) (call : WriterCall) (a : Answer) → LentOnly agreed call → answer_to w call ≡ a → State agreed w recs
    → State agreed (if_accepted a (next w call) w) (recs ++ if_accepted a (writes w call ∷ []) [])
answered agreed w recs call Accepted lent e s = moves agreed w recs call lent s e
answered agreed w recs call (Err refusal) lent e s = subst (State agreed w) (sym (append-nil recs)) s

reached :
    (agreed : List ℕ) (w : Writer) (recs : List (List ℕ)) (calls : List WriterCall) → Each (LentOnly agreed) calls → State agreed w recs
    → State agreed (writer_after_calls w calls) (recs ++ records_written w calls)
reached agreed w recs [] lent s = subst (State agreed w) (sym (append-nil recs)) s
reached agreed w recs (call ∷ calls) lent s =
    let new : List (List ℕ) = if_accepted (answer_to w call) (writes w call ∷ []) [] in
    let after = next_writer w call in
    let now : State agreed after (recs ++ new) =
    subst (λ (v : Writer). State agreed v (recs ++ new)) (sym (left w call)) (answered agreed w recs call (answer_to w call) lent.0 refl s) in
    let all = append_assoc recs new (records_written after calls) in
    subst (State agreed (writer_after_calls after calls)) all (reached agreed after (recs ++ new) calls lent.1 now)

-- If the writer is closed.

unlike : (r : Record) (s t : Stage) → t ≡ stage.Closed → t ≡ s → writer_expects s r ≡ true → ⊥
unlike r s t p q e = never (sym (ap (λ (x : Stage). writer_expects x r) p) ∙ ap (λ (x : Stage). writer_expects x r) q ∙ e)

one_file :
    (agreed : List ℕ) → RightList agreed → (calls : List WriterCall) (w : Writer) → w.stage ≡ stage.Closed → State agreed w (records_written fresh_writer calls)
    → OneFile agreed calls
one_file agreed list calls w p (fresh q r) = absurd (unlike Header stage.Fresh w.stage p (ap stage_of q) refl)
one_file agreed list calls w p (writing lined h gs o f a q l r) = absurd (unlike Trailer stage.Open w.stage p o refl)
one_file agreed list calls w p (ended lined h gs o shut r) =
    let c = shut list in
    record {
      lined = lined;
      heading = h;
      payments = gs;
      closed = c;
      records = r;
      whole = (closed_file_is_whole agreed lined h gs c).0;
      accepted = λ few.
          subst (λ (recs : List (List ℕ)). AllAccepted (answers_of fresh_session (map (taking agreed) recs))) (sym r)
          (subst (λ (steps : List Step). AllAccepted (answers_of fresh_session steps)) (sym (in_its_form agreed lined h gs))
          (closed_file_is_accepted agreed lined h gs c few).0);
    }

pub calls_make_one_file : CallsMakeOneFile
calls_make_one_file agreed calls list lent p =
    one_file agreed list calls (writer_after_calls fresh_writer calls) p (reached agreed fresh_writer [] calls lent (fresh refl refl))

-- If it is open: its version is that of the header it wrote, whatever lists were lent.

abbrev Versioned : Writer → Type 0
Versioned w = w.stage ≡ stage.Open → is_version w.file.version ≡ true

versioned_next : (w : Writer) (call : WriterCall) → Versioned w → answer_to w call ≡ Accepted → Versioned (next w call)
versioned_next w (header given size) h e o =
    let t = writer_terms [] w in
    let made =
    ((then_accepts (call_answer w Header (length given) size) (make_answer t Header given (0 ∷ 0 ∷ []) record_length)).0 e).1 in
    let named = ap named_by (first_byte Header given (0 ∷ 0 ∷ [])) ∙ (mark_names Header).0 in
    header_version t (header_bytes given) (written_alone t Header given (0 ∷ 0 ∷ []) record_length made).0 named
versioned_next w (payment list g size) h e o = h o
versioned_next w (trailer size) h e o = never (ap (λ (s : Stage). writer_expects s Trailer) o)

versioned_left : (w : Writer) (call : WriterCall) (a : Answer) → Versioned w → answer_to w call ≡ a → Versioned (if_accepted a (next w call) w)
versioned_left w call Accepted h e = versioned_next w call h e
versioned_left w call (Err refusal) h e = h

versioned : (calls : List WriterCall) (w : Writer) → Versioned w → Versioned (writer_after_calls w calls)
versioned [] w h = h
versioned (call ∷ calls) w h =
    versioned calls (next_writer w call) (subst Versioned (sym (left w call)) (versioned_left w call (answer_to w call) h refl))

pub open_writers_have_a_version : OpenWritersHaveAVersion
open_writers_have_a_version calls o =
    versioned calls fresh_writer (λ e. never (ap (λ (s : Stage). writer_expects s Trailer) e)) o

-- A header alone: one record, and a file has two.

header_alone_holds :
    ((writer_after_calls fresh_writer header_alone).stage ≡ stage.Open)
    × (records_written fresh_writer header_alone ≡ header_bytes (joined_of Header ledger.header) ∷ [])
unfolding make_answer version_answer written_answer kind_answer is_version_text is_service date_answer layout_of given_length
    date_of is_date days_in is_leap digits_of value_of is_of
header_alone_holds = (refl, refl)

pub header_alone_is_no_file : HeaderAloneIsNoFile
header_alone_is_no_file = (
  header_alone_holds.0,
  λ f.
      let written = written_records f.payments in
      let last = trailer_after [] f.lined f.heading f.payments ∷ [] in
      let all = header_bytes f.heading ∷ (written ++ last) in
      let same : 1 ≡ length all = ap length (sym header_alone_holds.1 ∙ f.records) ∙ as_many f.lined all in
      omega (arith, same, length-append written last),
)
