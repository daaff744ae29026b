-- Ties the fast path to `take`: a payment posted in place is accepted, and leaves the same session. Assumes nothing.
use Rattle.std.specs.Prelude.{Err, None, Ok, Option, Some}
use Rattle.layout.specs.declared.Record.{Record}
use Prim.Native.Nat.{ℕ, ◌+◌, ◌-◌, ◌≤◌, ◌<◌, min}
use mathlib.Core.Bool.{Bool, true}
use mathlib.Core.List.{List}
use mathlib.Core.Path.{◌≡◌, refl, sym, ap, ◌∙◌}
use native.Mathlib.Omega.{arith}
use lib.ListN.{length, get_or, set, take, drop, length-drop}
use lib.Seq.{take-take, length-take-le}
use Rattle.answer.specs.Answers.{Answer, ◌gives◌}
use Rattle.answer.specs.Answers as answer
use Rattle.answer.specs.Orders.{if_accepted}
use Rattle.layout.specs.declared.Record.TheVariants as layout
use Rattle.layout.specs.Layouts.{record_length, named_by}
use Rattle.kinds.specs.Terms.{told}
use Rattle.record.specs.declared.Payment.{Payment}
use Rattle.record.specs.declared.PaymentDue.{PaymentDue}
use Rattle.record.specs.Values.{Decoded, record_shown, shown_unless_refused, decoded_record_under, payment_due_of}
use Rattle.record.specs.declared.Contents.TheVariants as contents
use Rattle.record.specs.Records.{record_answer}
use Rattle.file.specs.declared.File.{File}
use Rattle.file.specs.Files.{file_answer, file_with}
use Rattle.file.specs.Forms.{length_of, body_of, fits_length, end_answer}
use Rattle.file.proofs.Forms.{at_least_bare, first_in}
use Rattle.board.specs.declared.Lane.{Lane}
use Rattle.answer.proofs.Orders.{gives_tells}
use Rattle.board.specs.declared.Board.{Board}
use Rattle.board.specs.declared.Slot.{Slot}
use Rattle.board.specs.Boards.{SlotResult, PostResult, slot_answer, grown_slot, board_with, post_result_of, lanes_of, index_of, slot_at, slot_result_of, post_answer}
use Rattle.board.specs.Lanes.{lane_of_one}
use Rattle.board.proofs.Slots.{put_back}
use Rattle.session.specs.declared.Session.{Session}
use Rattle.session.specs.declared.leading.Progress.{Progress}
use Rattle.session.specs.declared.leading.LeadingPayments.{LeadingPayments}
use Rattle.session.specs.Sessions.{session_working, session_terms, lane_of_payment, take_answer, next_session, take_under}
use Rattle.session.specs.Runs.{piece_length, least_left, files_closed}
use Rattle.session.specs.LeadingPayments.{Taken, NextPaymentOf, with_leading, LeadingPaymentsOf}
use Rattle.session.proofs.Lengths.{fits_form}
use Rattle.session.proofs.Runs.{least_some, piece_part, piece_first, run_goes}

-- what is decoded as a payment was accepted, and its first byte names a payment
shown_payment : (agreed : List ℕ) (a : Answer) (n : Option Record) (rec : List ℕ) {p : Payment}
    → shown_unless_refused a (record_shown agreed n rec) ≡ Ok (contents.Payment p)
    → (a ≡ answer.Accepted) × (n ≡ Some layout.Payment)
shown_payment agreed answer.Accepted (Some layout.Header) rec h = (refl, cc)
shown_payment agreed answer.Accepted (Some layout.Payment) rec h = (refl, refl)
shown_payment agreed answer.Accepted (Some layout.Trailer) rec h = (refl, cc)
shown_payment agreed answer.Accepted None rec h = (refl, cc)
shown_payment agreed (Err refusal) n rec h = (cc, cc)

-- the board after an accepted posting
posted_board : {r : PostResult} (b : Board) (p : Lane) → r ≡ post_result_of b p → r.answer ≡ answer.Accepted
    → r.board ≡ board_with b p
posted_board {r} b p e f =
    let g : post_answer b p ≡ answer.Accepted = sym (ap (λ (x : PostResult). x.answer) e) ∙ f in
    ap (λ (x : PostResult). x.board) e ∙ rw g

module _ (agreed : List ℕ) (s : Session) (rec : List ℕ) {p : Payment} (is : decoded_record_under (session_terms agreed s) (body_of rec) ≡ Ok (contents.Payment p)) where
  pub payment_named : named_by (get_or rec 0 0) ≡ Some layout.Payment
  payment_named =
      ap named_by (sym (first_in rec))
      ∙ (shown_payment agreed (record_answer (session_terms agreed s) (body_of rec)) (named_by (get_or (body_of rec) 0 0)) (body_of rec) is).1

  -- in an open session, with a file and a slot that take it, and with the end that its form has
  module _ (opened : s.opened ≡ true)
      (long : fits_length true s.file.lined rec ≡ true) (ended : end_answer true s.file.lined rec ≡ answer.Accepted)
      (fits : file_answer s.file p.received ≡ answer.Accepted)
      {at : ℕ} (found : at ≡ index_of p.barcode.issuer (lanes_of s.work)) {e : SlotResult} (posted : e ≡ slot_result_of (slot_at s.work at) (lane_of_payment p))
      (accepted : e.answer ≡ answer.Accepted) where
    pub payment_taken : take_answer agreed s rec ≡ answer.Accepted
    payment_taken =
        let b : post_answer s.work (lane_of_payment p) ≡ answer.Accepted =
        sym (ap (λ (x : PostResult). x.answer) (put_back s.work (lane_of_payment p) at e found posted)) ∙ accepted in
        rw (is, opened, long, payment_named, fits, b, ended)

    pub payment_leaves : ◌≡◌ {A = Session}
        (session_working s
        (record { lanes = set s.work.lanes at e.slot.lane; used = e.slot.used; total = e.slot.total })
        (file_with s.file p.received))
        (next_session agreed s rec)
    payment_leaves =
        rw (is, posted_board s.work (lane_of_payment p) (put_back s.work (lane_of_payment p) at e found posted) accepted)

-- a posting that gives a slot, as the answer and the slot behind it
pub slot_given : (s : Slot) (p : Lane) {slot : Slot} → slot_answer s p gives grown_slot s p ≡ Ok slot
    → ◌≡◌ {A = SlotResult} (record { answer = answer.Accepted; slot = slot }) (slot_result_of s p)
slot_given s p e = let t = gives_tells (slot_answer s p) e in rw (t.0, t.1)

-- what `accepted_payment` reads is a payment
record PaidTo (d : Decoded) (due : PaymentDue) : Type 0 where
  shown : Payment
  is : d ≡ Ok (contents.Payment shown)
  to : shown.barcode.issuer ≡ due.issuer
  received : shown.received ≡ due.received
  tariff : shown.tariff ≡ due.tariff

paid_to : (d : Decoded) {due : PaymentDue} → payment_due_of d ≡ Some due → PaidTo d due
paid_to (Ok (contents.Header h)) e = let z : ◌≡◌ {A = ℕ} 0 1 = cc in absurd (omega arith)
paid_to (Ok (contents.Payment p)) {due} e =
    let paid : ◌≡◌ {A = PaymentDue} (record { issuer = p.barcode.issuer; received = p.received; tariff = p.tariff }) due = cc in
    record {
      shown = p;
      is = refl;
      to = ap (λ (d : PaymentDue). d.issuer) paid;
      received = ap (λ (d : PaymentDue). d.received) paid;
      tariff = ap (λ (d : PaymentDue). d.tariff) paid;
    }
paid_to (Ok (contents.Trailer t)) e = let z : ◌≡◌ {A = ℕ} 0 1 = cc in absurd (omega arith)
paid_to (Err refusal) e = let z : ◌≡◌ {A = ℕ} 0 1 = cc in absurd (omega arith)

-- what was read, and the file that took it
pub next_is : (agreed : List ℕ) {opened more : Bool} {before : Progress} {bytes : List ℕ} {end : ℕ} → opened ≡ true
    → before.at + least_left more ≤ length bytes → end ≡ before.at + length_of before.file.lined → end ≤ length bytes
    → end_answer true before.file.lined (take (end - before.at) (drop before.at bytes)) ≡ answer.Accepted
    → {d : Option PaymentDue} {due : PaymentDue}
    → d ≡ payment_due_of (decoded_record_under (told before.file.version agreed) (take (before.at + record_length - before.at) (drop before.at bytes)))
    → d ≡ Some due → {f : File} → file_answer before.file due.received gives file_with before.file due.received ≡ Ok f
    → {l : Lane} → l ≡ lane_of_one due.issuer due.received due.tariff
    → Taken agreed opened more before bytes l (record { file = f; records = before.records + 1; at = end })
next_is agreed {before = before} {bytes} {end} going enough ends inside ended {due = due} read found took paid =
    let own : before.at + record_length - before.at ≡ record_length = omega arith in
    let payment = paid_to (decoded_record_under (told before.file.version agreed) (take record_length (drop before.at bytes))) (sym (rw own at read) ∙ found) in
    let told = gives_tells (file_answer before.file due.received) took in
    record {
      going = going;
      enough = enough;
      ends = ends;
      inside = inside;
      shown = payment.shown;
      is = payment.is;
      ended = ended;
      lane = paid ∙ rw (payment.to, payment.received, payment.tariff);
      fits = rw payment.received told.0;
      file = rw payment.received told.1;
      counts = refl;
    }

pub next_told : (agreed : List ℕ) {opened more : Bool} {before next : Progress} {bytes : List ℕ} {paid : Lane} {r : Option (Lane × Progress)}
    → NextPaymentOf agreed opened more before bytes r → r ≡ Some (paid, next)
    → Taken agreed opened more before bytes paid next
next_told agreed h e = rw e at h

-- one more payment posted in place: the run goes on behind it
pub one_more : (agreed : List ℕ) (self : Session) (more : Bool) (bytes : List ℕ) (b : LeadingPayments) → LeadingPaymentsOf agreed self more bytes b
    → {paid : Lane} {next : Progress}
    → Taken agreed self.opened more b.progress bytes paid next
    → {at : ℕ} → at ≡ index_of paid.issuer (lanes_of b.work) → {e : SlotResult}
    → e ≡ slot_result_of (slot_at b.work at) paid → e.answer ≡ answer.Accepted
    → LeadingPaymentsOf agreed self more bytes
    (record { work = record { lanes = set b.work.lanes at e.slot.lane; used = e.slot.used; total = e.slot.total }; progress = next })
one_more agreed self more bytes b inv {paid} {next} took {at} found {e} posted accepted =
    let s = with_leading self b in
    let from = b.progress.at in
    let lined = b.progress.file.lined in
    let size = piece_length s (drop from bytes) in
    let p = took.shown in
    let piece = take (next.at - from) (drop from bytes) in
    let own : size ≡ length_of lined = rw took.going in
    let some = at_least_bare lined in
    let least = least_some more in
    let l = length-drop from bytes in
    let long : length piece ≡ length_of lined = length-take-le (next.at - from) (drop from bytes) (omega (arith, took.ends, took.inside)) ∙ omega (arith, took.ends) in
    let body : body_of piece ≡ take record_length (drop from bytes) = take-take record_length (next.at - from) (drop from bytes) (omega (arith, took.ends, some)) in
    let is : decoded_record_under (session_terms agreed s) (body_of piece) ≡ Ok (contents.Payment p) = ap (decoded_record_under (session_terms agreed s)) body ∙ took.is in
    let found' : at ≡ index_of p.barcode.issuer (lanes_of b.work) = rw took.lane at found in
    let posted' : e ≡ slot_result_of (slot_at b.work at) (lane_of_payment p) = rw took.lane at posted in
    let fits-it = fits_form lined piece long in
    let accepts : take_answer agreed s piece ≡ answer.Accepted =
    payment_taken agreed s piece is took.going fits-it took.ended took.fits found' posted' accepted in
    let next' =
    payment_leaves agreed s piece is took.going fits-it took.ended took.fits found' posted' accepted
    ∙ ap (λ (a : Answer). if_accepted a (next_session agreed s piece) s) (sym accepts) in
    let end : next.at ≡ from + min size (length bytes - from) = omega (arith, took.ends, took.inside, own) in
    let inside : from < length bytes = omega (arith, took.ends, took.inside, some) in
    let first : get_or piece 0 0 ≡ get_or bytes from 0 =
    ap (λ (x : List ℕ). get_or x 0 0) (piece_part bytes from size inside (omega (arith, own, some)) end)
    ∙ piece_first bytes from size inside (omega (arith, own, some)) end in
    let none : files_closed (named_by (get_or bytes from 0)) ≡ 0 =
    ap (λ (x : ℕ). files_closed (named_by x)) (sym first) ∙ ap files_closed (payment_named agreed s piece is) in
    record {
      within = took.inside;
      few = omega (arith, inv.few, took.ends, some, took.counts);
      rest =
          rw (took.counts, took.file, next') (run_goes agreed self s more bytes from b.progress.records 0 inv.rest inside (omega (arith, took.enough)) end {t = take_under agreed s piece} refl accepts (sym none));
    }
