-- A file that the writer closed is whole with true figures, so a fresh session accepts it. Assumes nothing.
use Prim.Native.Nat.{ℕ, ◌+◌, ◌≤◌}
use mathlib.Core.Bool.{Bool, false}
use mathlib.Core.List.{List, [], ◌∷◌, map}
use mathlib.Core.Path.{◌≡◌, refl, sym, ap, ap₂, subst, ◌∙◌}
use lib.ListN.{length, length-map}
use Rattle.answer.specs.Answers.{Accepted}
use Rattle.answer.specs.Orders.{◌then◌, Each}
use Rattle.answer.proofs.Orders.{then_accepts, accepted_takes}
use Rattle.layout.specs.declared.Record.{Record}
use Rattle.layout.specs.declared.Record.TheVariants.{Header, Payment, Trailer}
use Rattle.layout.specs.Layouts.{record_length, named_by, layout_of, given_length, joined_of}
use Rattle.layout.proofs.Layouts.{mark_names}
use Rattle.barcode.specs.Agreed.{RightList, list_answer}
use Rattle.kinds.specs.Terms.{Terms, told}
use Rattle.record.specs.Records.{record_answer, record_check}
use Rattle.record.specs.Values as values
use Rattle.fields.specs.Making.{made_of, make_answer, make_check}
use Rattle.file.specs.Forms.{length_of}
use Rattle.file.specs.declared.File.{File}
use Rattle.file.specs.Files.{most_payments, most_centavos, fresh_file, file_answer, file_answers, file_with, file_with_all, figures_of, closing_answer}
use Rattle.file.proofs.Files.{fresh_file_takes, fresh_file_holds}
use Rattle.writer.specs.declared.Stage.TheVariants.{Open}
use Rattle.writer.specs.declared.Writer.{Writer}
use Rattle.writer.specs.Writers.{fresh_writer, is_lined_buffer, writer_terms, call_answer, header_answer, header_bytes, payment_answer, payment_check, payment_written, trailer_answer, count_bytes}
use Rattle.writer.proofs.Buffers.{form_of_length}
use Rattle.writer.proofs.Written.{first_byte, written_alone, fields_write_the_header, fields_write_the_payment}
use Rattle.writer.proofs.Trailers.{fields_write_the_trailer}
use Rattle.writer.proofs.Amounts.{written_amounts_are_read, trailer_shows_the_figures}
use Rattle.board.specs.Boards.{lanes_of, post_answers}
use Rattle.board.specs.Lanes.{lanes_from}
use Rattle.board.proofs.Boards.{fresh_board_holds}
use Rattle.session.specs.declared.RunResult.{RunResult}
use Rattle.session.specs.declared.Session.{Session}
use Rattle.pairs.specs.Pairs.{memory_answer}
use Rattle.session.specs.Sessions.{fresh_session, pair_in}
use Rattle.session.specs.Runs.{run_of, bytes_of}
use Rattle.ledger.specs.Promises.{answers_of, shown_lanes}
use Rattle.ledger.specs.Ledgers.{Step, received_by, received_in, lanes_of_records, header_terms}
use Rattle.ledger.specs.WholeFiles.{IsRight, Whole, records_of, all_in_form, file_of, received_each, TrueFigures, AllAccepted}
use Rattle.ledger.specs.WrittenFiles.{GivenPayment, record_of, written_records, writer_after_payments, PaymentsWritten, opened_by, Closed, trailer_after, written_file, written_bytes, given_by, FewIssuers, ClosedFileIsWhole, ClosedFileIsAccepted, ClosedFileBytesRun, FieldsWriteTheFile}
use Rattle.ledger.proofs.WholeFiles.{right_under_any_terms, received_each_holds, file_accepted, fresh_session_accepts, fresh_session_shows}
use Rattle.ledger.proofs.FileBytes.{file_bytes_run}

-- a writer whose file is open
abbrev opened : File → Writer
opened f = record { stage = Open; file = f }

right : (t : Terms) (r : Record) (given amounts : List ℕ) → make_answer t r given amounts record_length ≡ Accepted
    → IsRight t r (made_of (layout_of r) given amounts)
right t r given amounts e =
    ((written_alone t r given amounts record_length e).0, ap named_by (first_byte r given amounts) ∙ (mark_names r).0)

-- what was made or accepted under a list that is right, as a caller asks it
make_asked : (t : Terms) (r : Record) (given amounts : List ℕ) → RightList t.agreed → make_answer t r given amounts record_length ≡ Accepted
    → make_check t r given amounts record_length ≡ Accepted
make_asked t r given amounts list e = rw list e

record_asked : (t : Terms) (rec : List ℕ) → RightList t.agreed → record_answer t rec ≡ Accepted → record_check t rec ≡ Accepted
record_asked t rec list e = rw list e

-- payments that were written to an open file
record AllWritten (agreed : List ℕ) (f : File) (gs : List GivenPayment) : Type 0 where
  each : Each (IsRight (told f.version agreed) Payment) (written_records gs)
  fits : file_answers f (received_each (written_records gs)) ≡ Accepted
  leaves : writer_after_payments agreed (opened f) gs ≡ opened (file_with_all f (received_each (written_records gs)))

write_all : (agreed : List ℕ) → RightList agreed → (f : File) (gs : List GivenPayment) → PaymentsWritten agreed (opened f) gs → AllWritten agreed f gs
write_all agreed list f [] p = record { each = tt; fits = refl; leaves = refl }
write_all agreed list f (g ∷ gs) p =
    let amounts = g.received ∷ g.tariff ∷ [] in
    let t = told f.version agreed in
    let make = make_answer t Payment g.fields amounts record_length in
    let size = length_of f.lined in
    let judged = ((then_accepts (list_answer agreed) (payment_answer agreed (opened f) g.fields g.received g.tariff size)).0 p.0).1 in
    let own =
    ((then_accepts (call_answer (opened f) Payment (length g.fields) size)
    (make then file_answer f g.received)).0 judged).1 in
    let both = (then_accepts make (file_answer f g.received)).0 own in
    let x = received_by (record_of g) in
    let xs = received_each (written_records gs) in
    let read : x ≡ g.received =
    (written_amounts_are_read t g.fields g.received g.tariff record_length (make_asked t Payment g.fields amounts list both.0)).0 in
    let next : (payment_written agreed (opened f) g.fields g.received g.tariff size).writer ≡ opened (file_with f g.received) =
    accepted_takes (payment_check agreed (opened f) g.fields g.received g.tariff size)
    (opened (file_with f g.received)) (opened f) p.0 in
    let rest = write_all agreed list (file_with f g.received) gs (subst (λ (w : Writer). PaymentsWritten agreed w gs) next p.1) in
    record {
      each = (right t Payment g.fields amounts both.0, rest.each);
      fits =
          (then_accepts (file_answer f x) (file_answers (file_with f x) xs)).1
          (ap (file_answer f) read ∙ both.1, ap (λ (y : ℕ). file_answers (file_with f y) xs) read ∙ rest.fits);
      leaves =
          ap (λ (w : Writer). writer_after_payments agreed w gs) next ∙ rest.leaves
          ∙ ap (λ (y : ℕ). opened (file_with_all (file_with f y) xs)) (sym read);
    }

counted : (recs : List (List ℕ)) → length (received_each recs) ≡ length recs
counted recs = simp length-map

-- a fresh file that took these payments
holds_all : (version : ℕ) (lined : Bool) (recs : List (List ℕ))
    → file_with_all (fresh_file version lined) (received_each recs) ≡ record { taken = length recs; total = received_in recs; version = version; lined = lined }
holds_all version lined recs =
    fresh_file_holds version lined (received_each recs)
    ∙ ap₂ {C = File} (λ (n c : ℕ). record { taken = n; total = c; version = version; lined = lined }) (counted recs) (received_each_holds recs)

module _ (agreed : List ℕ) (lined : Bool) (header : List ℕ) (gs : List GivenPayment) (c : Closed agreed lined header gs) where
  -- the file under the version that the header names, in the form of its buffer
  abbrev fresh : File
  fresh = fresh_file (values.version_in (header_bytes header)) lined

  opens : opened_by lined header ≡ opened fresh
  opens =
      accepted_takes (header_answer fresh_writer header (length_of lined)) (opened (fresh_file (values.version_in (header_bytes header)) (is_lined_buffer (length_of lined)))) fresh_writer c.opens
      ∙ ap (λ (t : Bool). opened (fresh_file (values.version_in (header_bytes header)) t)) (form_of_length lined)

  all_written : AllWritten agreed fresh gs
  all_written = write_all agreed c.list fresh gs (subst (λ (w : Writer). PaymentsWritten agreed w gs) opens c.pays)

  abbrev last : Writer
  last = writer_after_payments agreed (opened_by lined header) gs

  file_is : last.file ≡ record { taken = length (written_records gs); total = received_in (written_records gs); version = fresh.version; lined = lined }
  file_is =
      ap (λ (w : Writer). (writer_after_payments agreed w gs).file) opens ∙ ap (λ (w : Writer). w.file) all_written.leaves
      ∙ holds_all fresh.version lined (written_records gs)

  trailer_made : make_answer (writer_terms [] last) Trailer (count_bytes last) ((figures_of last.file).total ∷ 0 ∷ []) record_length ≡ Accepted
  trailer_made =
      let make = make_answer (writer_terms [] last) Trailer (count_bytes last) ((figures_of last.file).total ∷ 0 ∷ []) record_length in
      let own =
      ((then_accepts (call_answer last Trailer (given_length Trailer) (length_of lined))
      (closing_answer last.file then make)).0 c.closes).1 in
      ((then_accepts (closing_answer last.file) make).0 own).1

  header_made : make_answer (writer_terms [] fresh_writer) Header header (0 ∷ 0 ∷ []) record_length ≡ Accepted
  header_made =
      ((then_accepts (call_answer fresh_writer Header (length header) (length_of lined))
      (make_answer (writer_terms [] fresh_writer) Header header (0 ∷ 0 ∷ []) record_length)).0 c.opens).1

  whole : Whole agreed (header_bytes header) (written_records gs) (trailer_after agreed lined header gs)
  whole =
      let t = header_terms agreed (header_bytes header) in
      let a = right (writer_terms [] fresh_writer) Header header (0 ∷ 0 ∷ []) header_made in
      let z = right (writer_terms [] last) Trailer (count_bytes last) ((figures_of last.file).total ∷ 0 ∷ []) trailer_made in
      record {
        list = c.list;
        header = right_under_any_terms (writer_terms [] fresh_writer) t Header (header_bytes header) refl a;
        payments = all_written.each;
        trailer = right_under_any_terms (writer_terms [] last) t Trailer (trailer_after agreed lined header gs) refl z;
      }

  figures : TrueFigures (written_records gs) (trailer_after agreed lined header gs)
  figures =
      let shows = trailer_shows_the_figures last (length_of lined) c.closes in
      (shows.0 ∙ ap (λ (f : File). f.taken + 2) file_is, shows.1 ∙ ap (λ (f : File). f.total) file_is)

  limits : (length (written_records gs) ≤ most_payments) × (received_in (written_records gs) ≤ most_centavos)
  limits =
      let both = (fresh_file_takes fresh.version lined (received_each (written_records gs))).0 all_written.fits in
      (subst (λ (n : ℕ). n ≤ most_payments) (counted (written_records gs)) both.0, subst (λ (n : ℕ). n ≤ most_centavos) (received_each_holds (written_records gs)) both.1)

pub closed_file_is_whole : ClosedFileIsWhole
closed_file_is_whole agreed lined header gs c = (whole agreed lined header gs c, figures agreed lined header gs c)

-- what the writer put behind each record is what its form has there
module _ (agreed : List ℕ) (lined : Bool) (header : List ℕ) (gs : List GivenPayment) where
  pub in_its_form : file_of agreed lined (header_bytes header) (written_records gs) (trailer_after agreed lined header gs) ≡ written_file agreed lined header gs
  in_its_form =
      ap (λ (t : Bool). file_of agreed t (header_bytes header) (written_records gs) (trailer_after agreed lined header gs)) (sym (form_of_length lined))

  bytes_in_form : bytes_of (all_in_form lined (records_of (header_bytes header) (written_records gs) (trailer_after agreed lined header gs))) ≡ written_bytes agreed lined header gs
  bytes_in_form =
      ap (λ (t : Bool). bytes_of (all_in_form t (records_of (header_bytes header) (written_records gs) (trailer_after agreed lined header gs)))) (sym (form_of_length lined))

all_accepted : (agreed : List ℕ) (lined : Bool) (header : List ℕ) (gs : List GivenPayment) → Closed agreed lined header gs → FewIssuers gs
    → AllAccepted (answers_of fresh_session (file_of agreed lined (header_bytes header) (written_records gs) (trailer_after agreed lined header gs)))
all_accepted agreed lined header gs c few =
    let limits = limits agreed lined header gs c in
    (fresh_session_accepts agreed lined (header_bytes header) (written_records gs) (trailer_after agreed lined header gs) (whole agreed lined header gs c)
    ).1 (limits.0, limits.1, few, figures agreed lined header gs c)

pub closed_file_is_accepted : ClosedFileIsAccepted
closed_file_is_accepted agreed lined header gs c few =
    let recs = written_records gs in
    let all = all_accepted agreed lined header gs c few in
    let shows = (fresh_session_shows agreed lined (header_bytes header) recs (trailer_after agreed lined header gs) (whole agreed lined header gs c) all).0 in
    subst (λ (steps : List Step). AllAccepted (answers_of fresh_session steps) × (shown_lanes steps ≡ lanes_from (lanes_of_records recs)))
    (in_its_form agreed lined header gs) (all, shows)

pub closed_file_bytes_run : ClosedFileBytesRun
closed_file_bytes_run agreed lined header gs c few =
    let recs = written_records gs in
    let all = all_accepted agreed lined header gs c few in
    let a = header_bytes header in
    let z = trailer_after agreed lined header gs in
    let own = whole agreed lined header gs c in
    let run =
    ap (run_of agreed fresh_session false) (sym (bytes_in_form agreed lined header gs)) ∙ file_bytes_run agreed fresh_session lined a recs z refl own all in
    let given : length recs ≡ length gs = simp length-map in
    let shows = fresh_board_holds (lanes_of_records recs) ((file_accepted agreed fresh_session lined a recs z refl own).0 all).2 in (
      ap (λ (r : RunResult). r.answer) run,
      ap (λ (r : RunResult). r.records) run ∙ ap (λ (n : ℕ). n + 2) given,
      ap (λ (r : RunResult). r.files) run,
      ap (λ (r : RunResult). lanes_of r.session.shown) run ∙ shows.0,
    )

-- The converse: the fields of right payments that an open file has room for write them again.
record Rewritten (agreed : List ℕ) (f : File) (recs : List (List ℕ)) : Type 0 where
  pays : PaymentsWritten agreed (opened f) (map given_by recs)
  same : written_records (map given_by recs) ≡ recs

rewrite_all : (agreed : List ℕ) → RightList agreed → (f : File) (recs : List (List ℕ)) → Each (IsRight (told f.version agreed) Payment) recs
    → file_answers f (received_each recs) ≡ Accepted → Rewritten agreed f recs
rewrite_all agreed list f [] each room = record { pays = tt; same = refl }
rewrite_all agreed list f (rec ∷ recs) each room =
    let x = received_by rec in
    let rooms = (then_accepts (file_answer f x) (file_answers (file_with f x) (received_each recs))).0 room in
    let write = fields_write_the_payment agreed (opened f) rec (record_asked (told f.version agreed) rec list each.0.0) each.0.1 refl rooms.0 in
    let g = given_by rec in
    let size = length_of f.lined in
    let next : (payment_written agreed (opened f) g.fields g.received g.tariff size).writer ≡ opened (file_with f x) =
    accepted_takes (payment_check agreed (opened f) g.fields g.received g.tariff size)
    (opened (file_with f x)) (opened f) write.0 in
    let rest = rewrite_all agreed list (file_with f x) recs each.1 rooms.1 in
    record {
      pays = (write.0, subst (λ (w : Writer). PaymentsWritten agreed w (map given_by recs)) (sym next) rest.pays);
      same =
          ap (λ (r : List ℕ). r ∷ written_records (map given_by recs)) write.1
          ∙ ap (λ (l : List (List ℕ)). rec ∷ l) rest.same;
    }

module _ (agreed : List ℕ) (s : Session) (lined : Bool) (a : List ℕ) (recs : List (List ℕ)) (z : List ℕ) (closed : s.opened ≡ false) (w : Whole agreed a recs z)
    (e : AllAccepted (answers_of s (file_of agreed lined a recs z))) where
  abbrev header : List ℕ
  header = joined_of Header a

  abbrev gs : List GivenPayment
  gs = map given_by recs

  abbrev start : File
  start = fresh_file (values.version_in a) lined

  accepted : (memory_answer s.memory (pair_in a) ≡ Accepted) × (file_answers start (received_each recs) ≡ Accepted)
      × (post_answers s.shown (lanes_of_records recs) ≡ Accepted) × TrueFigures recs z
  accepted = (file_accepted agreed s lined a recs z closed w).0 e

  again : Rewritten agreed start recs
  again = rewrite_all agreed w.list start recs w.payments accepted.1

  head : (header_answer fresh_writer header (length_of lined) ≡ Accepted) × (header_bytes header ≡ a) × (opened_by lined header ≡ opened start)
  head = fields_write_the_header (header_terms agreed a) fresh_writer lined a (record_asked (header_terms agreed a) a w.list w.header.0) w.header.1 refl

  pays_all : PaymentsWritten agreed (opened_by lined header) gs
  pays_all = subst (λ (x : Writer). PaymentsWritten agreed x gs) (sym head.2) again.pays

  -- the writer after them
  abbrev full : File
  full = record { taken = length recs; total = received_in recs; version = start.version; lined = lined }

  end : writer_after_payments agreed (opened_by lined header) gs ≡ opened full
  end =
      ap (λ (x : Writer). writer_after_payments agreed x gs) head.2 ∙ (write_all agreed w.list start gs again.pays).leaves
      ∙ ap (λ (l : List (List ℕ)). opened (file_with_all start (received_each l))) again.same
      ∙ ap opened (holds_all start.version lined recs)

  tail : (trailer_answer (writer_after_payments agreed (opened_by lined header) gs) (length_of lined) ≡ Accepted) × (trailer_after agreed lined header gs ≡ z)
  tail =
      rw end (fields_write_the_trailer (header_terms agreed a) (opened full) z (record_asked (header_terms agreed a) z w.list w.trailer.0) w.trailer.1 refl accepted.3.0 accepted.3.1)

pub fields_write_the_file : FieldsWriteTheFile
fields_write_the_file agreed s lined a recs z closed w e =
    let again = again agreed s lined a recs z closed w e in
    let tail = tail agreed s lined a recs z closed w e in
    let head = head agreed s lined a recs z closed w e in (
      record { list = w.list; opens = head.0; pays = pays_all agreed s lined a recs z closed w e; closes = tail.0 },
      sym (in_its_form agreed lined (joined_of Header a) (map given_by recs)) ∙ rw (tail.1, head.1, again.same),
    )
