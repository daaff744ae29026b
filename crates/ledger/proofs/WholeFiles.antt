-- A whole file, record by record, against the file and the board alone. Assumes nothing.
use Rattle.std.specs.Prelude.{Some}
use Prim.Native.Nat.{ℕ}
use mathlib.Core.Bool.{Bool, true, false, not}
use mathlib.Core.List.{List, [], ◌∷◌, ◌++◌, map}
use mathlib.Core.Logic.{◌↔◌}
use mathlib.Core.Path.{◌≡◌, refl, sym, ap, ap₂, ◌∙◌}
use native.Mathlib.Omega.{arith}
use lib.ListN.{length, get_or, length-map}
use Rattle.answer.specs.Answers.{Accepted}
use Rattle.answer.specs.Orders.{Each}
use Rattle.answer.proofs.Orders.{then_accepts, then_accepted, accepted_takes}
use Rattle.answer.proofs.Tests.{unequal}
use Rattle.layout.specs.declared.Record.{Record}
use Rattle.layout.specs.declared.Record.TheVariants.{Header, Payment, Trailer}
use Rattle.layout.specs.Layouts.{record_length}
use Rattle.barcode.specs.Agreed.{RightList}
use Rattle.kinds.specs.Terms.{Terms, told}
use Rattle.record.specs.Records.{is_payment}
use Rattle.record.specs.Values.{version_in, trailer_shown, record_shown}
use Rattle.record.proofs.Shown.{accepted_is, other_ignores}
use Rattle.file.specs.declared.File.{File}
use Rattle.file.specs.declared.Figures.{Figures}
use Rattle.file.specs.Forms.{in_form}
use Rattle.file.proofs.Forms.{first_in, body_in, ended_in, fits_in, ends_in}
use Rattle.file.specs.Files.{fresh_file, file_answer, file_answers, file_with, file_with_all, figures_answer, received_of}
use Rattle.file.proofs.Files.{fresh_file_takes, fresh_file_holds, one_right_trailer}
use Rattle.board.specs.declared.Board.{Board}
use Rattle.board.specs.Lanes.{tally_sum}
use Rattle.board.specs.Boards.{lanes_of, post_answer, post_answers, board_with, board_with_all}
use Rattle.board.proofs.Tallies.{low_fits}
use Rattle.board.proofs.Boards.{fresh_board_takes, fresh_board_holds}
use Rattle.pairs.specs.Pairs.{memory_answer, memory_with}
use Rattle.session.specs.declared.Session.{Session}
use Rattle.session.specs.Sessions.{TakeResult, fresh_session, closed_at, opened_at, session_working, pair_in, session_terms, session_expects, figures_in, pay_answer, session_with_payment, session_closed, session_answer, session_with, take_result, take_of}
use Rattle.ledger.specs.Ledgers.{lane_of_record, lanes_of_records, received_by, received_in, header_terms, Step, taking}
use Rattle.ledger.specs.Promises.{session_after, answers_of}
use Rattle.ledger.specs.WholeFiles.{IsRight, Whole, all_in_form, file_of, received_each, TrueFigures, AllAccepted, HeadersAskTheMemory, FileAccepted, FilePosted, FreshSessionAccepts, FreshSessionShows}
use Rattle.ledger.proofs.Records.{lanes_tally, tariffs_small}

-- a header and a trailer are right under any terms
pub right_under_any_terms : (t u : Terms) (r : Record) (rec : List ℕ) → is_payment (Some r) ≡ false → IsRight t r rec → IsRight u r rec
right_under_any_terms t u r rec e h = (other_ignores u t rec (ap is_payment h.1 ∙ e) ∙ h.0, h.1)

-- a record's first byte, whatever follows the record
pub first_of_holds : (lined : Bool) (rec : List ℕ) → length rec ≡ record_length → get_or (in_form lined rec) 0 0 ≡ get_or rec 0 0
first_of_holds lined rec n = sym (first_in (in_form lined rec)) ∙ ap (λ (l : List ℕ). get_or l 0 0) (body_in rec n lined)

-- as many records in a form as there are
pub as_many : (lined : Bool) (recs : List (List ℕ)) → length (all_in_form lined recs) ≡ length recs
as_many lined recs = simp length-map

-- taking a record that is accepted by itself and expected, in the form of the open file if there is one, under a right
-- list
pub taken : (agreed : List ℕ) → RightList agreed → (s : Session) (lined : Bool) (r : Record) (rec : List ℕ) → IsRight (session_terms agreed s) r rec
    → session_expects s.opened (Some r) ≡ true → (s.opened ≡ true → lined ≡ s.file.lined)
    → take_of agreed s (in_form lined rec) ≡ take_result (session_answer s rec (record_shown agreed (Some r) rec)) (session_with s lined rec (record_shown agreed (Some r) rec)) s
taken agreed right s lined r rec h e form =
    let n = (accepted_is (session_terms agreed s) rec h.0).0 in
    rw (right, fits_in s.opened s.file.lined rec n lined form, ends_in s.opened s.file.lined rec n lined form, first_of_holds lined rec n, body_in rec n lined, ended_in rec n lined, h.1, h.0, e, then_accepted (session_answer s rec (record_shown agreed (Some r) rec)))

-- the payments and the trailer, and when they are accepted
abbrev rest : List ℕ → Bool → List ℕ → List (List ℕ) → List Step
rest agreed lined z recs = map (taking agreed) (all_in_form lined (recs ++ (z ∷ [])))

abbrev Passes : List ℕ → Board → File → List (List ℕ) → Type 0
Passes z b f recs =
    (file_answers f (received_each recs) ≡ Accepted) × (post_answers b (lanes_of_records recs) ≡ Accepted)
    × (figures_answer (file_with_all f (received_each recs)) (figures_in (trailer_shown z)) ≡ Accepted)

-- in a file that is open in `s`, whatever its working board and its figures have become
module _ (agreed : List ℕ) (list : RightList agreed) (s : Session) (is_open : s.opened ≡ true) (lined : Bool) (t : Terms) (z : List ℕ) (right : IsRight t Trailer z) where
  abbrev inside : Board → File → Session
  inside b f = session_working s b f

  closing : (b : Board) (f : File) → f.lined ≡ lined
      → take_of agreed (inside b f) (in_form lined z)
      ≡ take_result (figures_answer f (figures_in (trailer_shown z))) (session_closed (inside b f)) (inside b f)
  closing b f form =
      taken agreed list (inside b f) lined Trailer z (right_under_any_terms t (told f.version agreed) Trailer z refl right) is_open (λ e. sym form)

  module _ (b : Board) (f : File) (form : f.lined ≡ lined) (rec : List ℕ) (h : IsRight (told f.version agreed) Payment rec) where
    payment_takes : take_of agreed (inside b f) (in_form lined rec)
        ≡ take_result (pay_answer (inside b f) (lane_of_record rec)) (session_with_payment (inside b f) (lane_of_record rec)) (inside b f)
    payment_takes = taken agreed list (inside b f) lined Payment rec h is_open (λ e. sym form)

    payment_next : pay_answer (inside b f) (lane_of_record rec) ≡ Accepted
        → (take_of agreed (inside b f) (in_form lined rec)).session
        ≡ inside (board_with b (lane_of_record rec)) (file_with f (received_by rec))
    payment_next e =
        ap (λ (t : TakeResult). t.session) payment_takes ∙
        accepted_takes (pay_answer (inside b f) (lane_of_record rec))
        (session_with_payment (inside b f) (lane_of_record rec)) (inside b f) e

  rest_accepts : (recs : List (List ℕ)) (b : Board) (f : File) → f.lined ≡ lined → Each (IsRight (told f.version agreed) Payment) recs
      → AllAccepted (answers_of (inside b f) (rest agreed lined z recs)) ↔ Passes z b f recs
  rest_accepts [] b f form h = (
    λ e. (refl, refl, sym (ap (λ (x : TakeResult). x.answer) (closing b f form)) ∙ e.0),
    λ p. (ap (λ (x : TakeResult). x.answer) (closing b f form) ∙ p.2, tt),
  )
  rest_accepts (rec ∷ recs) b f form h =
      let two = then_accepts (file_answer f (received_by rec)) (post_answer b (lane_of_record rec)) in
      let files =
      then_accepts (file_answer f (received_by rec))
      (file_answers (file_with f (received_by rec)) (received_each recs)) in
      let boards =
      then_accepts (post_answer b (lane_of_record rec))
      (post_answers (board_with b (lane_of_record rec)) (lanes_of_records recs)) in
      let later = rest_accepts recs (board_with b (lane_of_record rec)) (file_with f (received_by rec)) form h.1 in
      let step = ap (λ (t : TakeResult). t.answer) (payment_takes b f form rec h.0) in (
        λ e.
            let one : pay_answer (inside b f) (lane_of_record rec) ≡ Accepted = sym step ∙ e.0 in
            let t = later.0 (rw (payment_next b f form rec h.0 one) at e.1) in
            (files.1 ((two.0 one).0, t.0), boards.1 ((two.0 one).1, t.1), t.2),
        λ t.
            let one : pay_answer (inside b f) (lane_of_record rec) ≡ Accepted =
            two.1 ((files.0 t.0).0, (boards.0 t.1).0) in
            (step ∙ one, rw (payment_next b f form rec h.0 one) (later.1 ((files.0 t.0).1, (boards.0 t.1).1, t.2))),
      )

  left_rest : (recs : List (List ℕ)) (b : Board) (f : File) → f.lined ≡ lined → Each (IsRight (told f.version agreed) Payment) recs
      → AllAccepted (answers_of (inside b f) (rest agreed lined z recs))
      → session_after (inside b f) (rest agreed lined z recs)
      ≡ closed_at (board_with_all b (lanes_of_records recs)) (memory_with s.memory s.opening)
  left_rest [] b f form h e =
      let one : figures_answer f (figures_in (trailer_shown z)) ≡ Accepted =
      sym (ap (λ (t : TakeResult). t.answer) (closing b f form)) ∙ e.0 in
      ap (λ (t : TakeResult). t.session) (closing b f form)
      ∙ accepted_takes (figures_answer f (figures_in (trailer_shown z))) (session_closed (inside b f)) (inside b f) one
  left_rest (rec ∷ recs) b f form h e =
      let one : pay_answer (inside b f) (lane_of_record rec) ≡ Accepted =
      sym (ap (λ (t : TakeResult). t.answer) (payment_takes b f form rec h.0)) ∙ e.0 in
      let next = payment_next b f form rec h.0 one in
      ap (λ (s : Session). session_after s (rest agreed lined z recs)) next ∙
      left_rest recs (board_with b (lane_of_record rec)) (file_with f (received_by rec)) form h.1
      (rw next at e.1)

-- The file from its header on.

pub headers_ask_the_memory : HeadersAskTheMemory
headers_ask_the_memory agreed s lined a list closed right =
    taken agreed list s lined Header a (right_under_any_terms (header_terms agreed a) (session_terms agreed s) Header a refl right) (ap not closed)
    (λ e. unequal e closed)

pub received_each_holds : (recs : List (List ℕ)) → received_of (received_each recs) ≡ received_in recs
received_each_holds [] = refl
received_each_holds (rec ∷ recs) = omega (arith, received_each_holds recs)

-- what a file has taken, and the figures of its one right trailer
true_figures : (version : ℕ) (lined : Bool) (recs : List (List ℕ)) (z : List ℕ)
    → (figures_answer (file_with_all (fresh_file version lined) (received_each recs)) (figures_in (trailer_shown z)) ≡ Accepted)
    ↔ TrueFigures recs z
true_figures version lined recs z =
    let all = file_with_all (fresh_file version lined) (received_each recs) in
    let one = one_right_trailer all (figures_in (trailer_shown z)) in
    let holds = fresh_file_holds version lined (received_each recs) in
    let count : all.taken ≡ length recs = ap (λ (f : File). f.taken) holds ∙ simp length-map in
    let total : all.total ≡ received_in recs = ap (λ (f : File). f.total) holds ∙ received_each_holds recs in (
      λ e. let is =
          one.0 e in (ap (λ (x : Figures). x.count) is ∙ omega (arith, count), ap (λ (x : Figures). x.total) is ∙ total),
      λ h. one.1 (ap₂ {C = Figures} (λ (n m : ℕ). record { count = n; total = m }) (h.0 ∙ omega (arith, count)) (h.1 ∙ sym total)),
    )

module _ (agreed : List ℕ) (s : Session) (lined : Bool) (a : List ℕ) (recs : List (List ℕ)) (z : List ℕ) (closed : s.opened ≡ false) (whole : Whole agreed a recs z) where
  abbrev start : Session
  start = opened_at s.shown s.memory (version_in a) lined (pair_in a)

  opening : take_of agreed s (in_form lined a) ≡ take_result (memory_answer s.memory (pair_in a)) start s
  opening = headers_ask_the_memory agreed s lined a whole.list closed whole.header

  answered : (take_of agreed s (in_form lined a)).answer ≡ memory_answer s.memory (pair_in a)
  answered = ap (λ (t : TakeResult). t.answer) opening

  begun : memory_answer s.memory (pair_in a) ≡ Accepted → (take_of agreed s (in_form lined a)).session ≡ start
  begun e = ap (λ (t : TakeResult). t.session) opening ∙ accepted_takes (memory_answer s.memory (pair_in a)) start s e

  pub accepted_file : AllAccepted (answers_of s (file_of agreed lined a recs z))
      ↔ ((memory_answer s.memory (pair_in a) ≡ Accepted)
      × (file_answers (fresh_file (version_in a) lined) (received_each recs) ≡ Accepted)
      × (post_answers s.shown (lanes_of_records recs) ≡ Accepted) × TrueFigures recs z)
  accepted_file =
      let all = rest_accepts agreed whole.list start refl lined (header_terms agreed a) z whole.trailer recs s.shown (fresh_file (version_in a) lined) refl whole.payments in
      let figures = true_figures (version_in a) lined recs z in (
        λ e.
            let passes = sym answered ∙ e.0 in
            let t = all.0 (rw (begun passes) at e.1) in
            (passes, t.0, t.1, figures.0 t.2),
        λ t. (answered ∙ t.0, rw (begun t.0) (all.1 (t.1, t.2, figures.1 t.3))),
      )

  pub posted_file : AllAccepted (answers_of s (file_of agreed lined a recs z))
      → session_after s (file_of agreed lined a recs z)
      ≡ closed_at (board_with_all s.shown (lanes_of_records recs)) (memory_with s.memory (pair_in a))
  posted_file e =
      let next = begun (sym answered ∙ e.0) in
      ap (λ (x : Session). session_after x (rest agreed lined z recs)) next ∙
      left_rest agreed whole.list start refl lined (header_terms agreed a) z whole.trailer recs s.shown (fresh_file (version_in a) lined) refl whole.payments (rw next at e.1)

pub file_accepted : FileAccepted
file_accepted = accepted_file

pub file_posted : FilePosted
file_posted = posted_file

-- A fresh session.

pub fresh_session_accepts : FreshSessionAccepts
fresh_session_accepts agreed lined a recs z whole =
    let all = file_accepted agreed fresh_session lined a recs z refl whole in
    let file = fresh_file_takes (version_in a) lined (received_each recs) in
    let board = fresh_board_takes (lanes_of_records recs) in
    let count : length (received_each recs) ≡ length recs = simp length-map in
    let total = received_each_holds recs in (
      λ e.
          let t = all.0 e in
          let within = file.0 t.1 in
          (omega (arith, count, within.0), omega (arith, total, within.1), (board.0 t.2).0, t.3),
      λ t.
          let fit =
          low_fits (tally_sum (lanes_of_records recs))
          (rw (lanes_tally recs) (record { payments = omega (arith, t.0); centavos = omega (arith, t.1); tariff = omega (arith, t.0, tariffs_small recs) })) in
          all.1 (refl, file.1 (omega (arith, count, t.0), omega (arith, total, t.1)), board.1 (t.2, fit), t.3),
    )

pub fresh_session_shows : FreshSessionShows
fresh_session_shows agreed lined a recs z whole e =
    let posted = file_posted agreed fresh_session lined a recs z refl whole e in
    let holds = fresh_board_holds (lanes_of_records recs) ((file_accepted agreed fresh_session lined a recs z refl whole).0 e).2 in (
      ap (λ (s : Session). lanes_of s.shown) posted ∙ holds.0,
      ap (λ (s : Session). s.shown.total) posted ∙ holds.1 ∙ lanes_tally recs,
      ap (λ (s : Session). s.opened) posted,
    )
