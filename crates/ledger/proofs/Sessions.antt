-- The trailer, and what holds of any session. Assumes nothing.
use Rattle.std.specs.Prelude.{Err, None, Option, Some}
use Prim.Native.Nat.{ℕ, ◌+◌}
use mathlib.Core.Bool.{Bool, true, false, not, cond, false≢true}
use mathlib.Core.List.{List, [], ◌∷◌}
use mathlib.Core.Logic.{◌↔◌}
use mathlib.Core.Option.{some}
use mathlib.Core.Path.{◌≡◌, refl, sym, ap, ◌∙◌}
use native.Mathlib.Omega.{arith}
use borrow.Author.Tests.{eqb-true, eq-eqb}
use lib.Dec.{eqb}
use lib.ListN.{length, get_or}
use Rattle.answer.specs.declared.Reason.TheVariants.{WrongLength, NotExpected, CountDiffers, TotalDiffers, FileOpen}
use Rattle.answer.specs.Answers.{Answer, Accepted}
use Rattle.answer.specs.Refusals.{answer_number, answer_place}
use Rattle.answer.specs.Orders.{require, ◌then◌, if_accepted}
use Rattle.answer.proofs.Orders.{require_accepts, then_accepts, refusal_keeps}
use Rattle.answer.proofs.Steps.{passed}
use Rattle.layout.specs.declared.Record.{Record}
use Rattle.layout.specs.declared.Record.TheVariants.{Header, Payment, Trailer}
use Rattle.layout.specs.Layouts.{named_by}
use Rattle.barcode.specs.Agreed.{list_answer, RightList}
use Rattle.record.specs.Values.{Decoded, trailer_shown, record_shown, shown_unless_refused}
use Rattle.record.specs.Records.{record_answer}
use Rattle.record.proofs.Shown.{accepted_is, check_passes, needs_version}
use Rattle.file.specs.Files.{count_place, total_place}
use Rattle.file.specs.Forms.{body_of, has_line_end, fits_length, end_answer}
use Rattle.file.proofs.Forms.{first_in, fits_body, fitting_is_in_form}
use Rattle.session.specs.declared.Session.{Session}
use Rattle.pairs.specs.declared.Memory.{Memory}
use Rattle.pairs.specs.Pairs.{remembered_for, pairs_of, memory_with}
use Rattle.pairs.proofs.Memories.{pair_is_remembered}
use Rattle.session.specs.Sessions.{closed_at, session_terms, session_expects, session_closed, session_answer, session_with, take_answer, next_session, take_of, abandon_of}
use Rattle.ledger.specs.Ledgers.{header_terms, Opened, Ledger, received_in, trailer_state_answer, ledger_check, taking, abandoning}
use Rattle.ledger.specs.Promises.{ledger_of, TrueTrailersOnly, RefusalKeepsSession, OnlyTrailersShow, TrailersShowAll, NothingShowsBefore, OnlyTrailersRemember, TrailersRemember, AbandonKeepsBoard, AbandonKeepsMemory, AbandonDropsFile, AbandonNothing, FinishKeepsSession, FinishAnswers, PaymentsTakenUnderAVersion}
use Rattle.ledger.proofs.Agreement.{next_answer_is_the_ledgers}

-- The trailer.

-- both figures are checked
pub figures_accept : (f : Opened) (rec : List ℕ)
    → (trailer_state_answer f rec ≡ Accepted)
    ↔ (((trailer_shown rec).count ≡ length f.payments + 2) × ((trailer_shown rec).total ≡ received_in f.payments))
figures_accept f rec =
    let count = eqb (trailer_shown rec).count (length f.payments + 2) in
    let total = eqb (trailer_shown rec).total (received_in f.payments) in
    let two = then_accepts (require count CountDiffers count_place) (require total TotalDiffers total_place) in
    let one = require_accepts count CountDiffers count_place in
    let other = require_accepts total TotalDiffers total_place in (
      λ e. (eqb-true _ _ (one.0 (two.0 e).0), eqb-true _ _ (other.0 (two.0 e).1)),
      λ h. two.1 (one.1 (eq-eqb _ _ h.0), other.1 (eq-eqb _ _ h.1)),
    )

-- of a Z with right fields the figures are checked, and what follows it
trailer_answer_holds : (agreed : List ℕ) (k : Ledger) (f : Opened) (rec : List ℕ) → RightList agreed → k.opened ≡ some f
    → record_answer (header_terms agreed f.header) (body_of rec) ≡ Accepted
    → named_by (get_or rec 0 0) ≡ Some Trailer
    → ledger_check agreed k rec
    ≡ require (fits_length true f.lined rec) WrongLength 0 then trailer_state_answer f (body_of rec) then end_answer true f.lined rec
trailer_answer_holds agreed k f rec right o e n = rw (right, o, e, n)

pub true_trailers_only : TrueTrailersOnly
true_trailers_only steps f agreed rec o checked n =
    let body = body_of rec in
    let t = header_terms agreed f.header in
    let right = ((then_accepts (list_answer agreed) (record_answer t body)).0 checked).0 in
    let e = check_passes t body checked in
    let fits = require (fits_length true f.lined rec) WrongLength 0 in
    let state = trailer_state_answer f body in
    let ending = end_answer true f.lined rec in
    let long = (accepted_is t body e).0 in
    let form = fitting_is_in_form true f.lined rec in
    let figures = figures_accept f body in
    rw (next_answer_is_the_ledgers steps agreed rec, trailer_answer_holds agreed (ledger_of steps) f rec right o e n) (
      λ a.
          let one = (then_accepts fits (state then ending)).0 a in
          let two = (then_accepts state ending).0 one.1 in
          let shown = figures.0 two.0 in
          (shown.0, shown.1, (form.0 ((require_accepts (fits_length true f.lined rec) WrongLength 0).0 one.0, two.1)).1),
      λ h.
          let both = form.1 (long, h.2) in
          (then_accepts fits (state then ending)).1
          ((require_accepts (fits_length true f.lined rec) WrongLength 0).1 both.0, (then_accepts state ending).1 (figures.1 (h.0, h.1), both.1)),
    )

-- Any session.

pub refusal_keeps_session : RefusalKeepsSession
refusal_keeps_session agreed s rec h = refusal_keeps (take_of agreed s rec).answer (next_session agreed s rec) s h

pub payments_taken_under_a_version : PaymentsTakenUnderAVersion
payments_taken_under_a_version agreed s rec right opened none fits named =
    let body = body_of rec in
    let first : named_by (get_or body 0 0) ≡ Some Payment = ap named_by (first_in rec) ∙ named in
    let own = needs_version (session_terms agreed s) body (fits_body true s.file.lined rec fits) first none in
    rw (right, opened, fits, named, own)

-- what a record leaves of the board shown and of the memory
module _ (agreed : List ℕ) (s : Session) (ended : Bool) (rec : List ℕ) where
  stays : (n : Option Record) (own a : Answer) → (n ≡ Some Trailer → a ≡ Accepted → ⊥)
      → let next = if_accepted a (session_with s ended rec (shown_unless_refused own (record_shown agreed n rec))) s in
      (next.shown ≡ s.shown) × (next.memory ≡ s.memory)
  stays n own (Err refusal) h = (refl, refl)
  stays n (Err refusal) Accepted h = (refl, refl)
  stays (Some Header) Accepted Accepted h = (refl, refl)
  stays (Some Payment) Accepted Accepted h = (refl, refl)
  stays (Some Trailer) Accepted Accepted h = absurd (h refl refl)
  stays None Accepted Accepted h = (refl, refl)

no_trailer_stays : (agreed : List ℕ) (s : Session) (rec : List ℕ)
    → (named_by (get_or rec 0 0) ≡ Some Trailer → (take_of agreed s rec).answer ≡ Accepted → ⊥)
    → ((take_of agreed s rec).session.shown ≡ s.shown) × ((take_of agreed s rec).session.memory ≡ s.memory)
no_trailer_stays agreed s rec h =
    let body = body_of rec in
    stays agreed s (has_line_end rec) body (named_by (get_or body 0 0)) (record_answer (session_terms agreed s) body) (take_of agreed s rec).answer (λ e. h (ap named_by (sym (first_in rec)) ∙ e))

pub only_trailers_show : OnlyTrailersShow
only_trailers_show agreed s rec h = (no_trailer_stays agreed s rec (λ e x. h e)).0

pub only_trailers_remember : OnlyTrailersRemember
only_trailers_remember agreed s rec h = (no_trailer_stays agreed s rec h).1

-- a record that the session accepts is accepted by itself
pub own_accepts : (s : Session) (rec : List ℕ) (a : Answer) (d : Decoded)
    → session_answer s rec (shown_unless_refused a d) ≡ Accepted → a ≡ Accepted
own_accepts s rec Accepted d e = refl
own_accepts s rec (Err refusal) d e = e

-- an accepted Z closes the file
trailer_closes : (agreed : List ℕ) (s : Session) (rec : List ℕ) → named_by (get_or rec 0 0) ≡ Some Trailer
    → (take_of agreed s rec).answer ≡ Accepted → (take_of agreed s rec).session ≡ session_closed s
trailer_closes agreed s rec n e =
    let body = body_of rec in
    let own = record_answer (session_terms agreed s) body in
    let took = ((then_accepts (list_answer agreed) (take_answer agreed s rec)).0 e).1 in
    let fits = (passed (fits_length s.opened s.file.lined rec) WrongLength 0 took).1 in
    let met = (passed (session_expects s.opened (named_by (get_or rec 0 0))) NotExpected 1 fits).1 in
    let shown = record_shown agreed (named_by (get_or body 0 0)) body in
    let accepts = ((then_accepts (session_answer s body (shown_unless_refused own shown)) (end_answer s.opened s.file.lined rec)).0 met).0 in
    rw (e, own_accepts s body own shown accepts, first_in rec, n)

pub trailers_show_all : TrailersShowAll
trailers_show_all agreed s rec n e = ap (λ (x : Session). x.shown) (trailer_closes agreed s rec n e)

pub trailers_remember : TrailersRemember
trailers_remember agreed s rec n e =
    let closed : (take_of agreed s rec).session.memory ≡ memory_with s.memory s.opening =
    ap (λ (x : Session). x.memory) (trailer_closes agreed s rec n e) in (
      closed,
      λ full room.
          ap (λ (m : Memory). remembered_for s.opening (pairs_of m)) closed
          ∙ (pair_is_remembered s.memory s.opening full room).1,
    )

pub abandon_keeps_board : AbandonKeepsBoard
abandon_keeps_board s = go s.opened
  where
    go : (t : Bool) → (cond t (closed_at s.shown s.memory) s).shown ≡ s.shown
    go true = refl
    go false = refl

pub abandon_keeps_memory : AbandonKeepsMemory
abandon_keeps_memory s = go s.opened
  where
    go : (t : Bool) → (cond t (closed_at s.shown s.memory) s).memory ≡ s.memory
    go true = refl
    go false = refl

pub abandon_drops_file : AbandonDropsFile
abandon_drops_file s = go s.opened refl
  where
    go : (t : Bool) → s.opened ≡ t → (cond t (closed_at s.shown s.memory) s).opened ≡ false
    go true e = refl
    go false e = e

pub abandon_nothing : AbandonNothing
abandon_nothing s e = ap (λ (t : Bool). cond t (closed_at s.shown s.memory) s) e

pub nothing_shows_before : NothingShowsBefore
nothing_shows_before s [] h = refl
nothing_shows_before s (taking agreed rec ∷ steps) h =
    nothing_shows_before (take_of agreed s rec).session steps h.1 ∙ only_trailers_show agreed s rec h.0
nothing_shows_before s (abandoning ∷ steps) h = nothing_shows_before (abandon_of s) steps h.1 ∙ abandon_keeps_board s

pub finish_keeps_session : FinishKeepsSession
finish_keeps_session s = refl

pub finish_answers : FinishAnswers
finish_answers s = go s.opened
  where
    go : (t : Bool)
        → ((answer_number (require (not t) FileOpen 0) ≡ 19) ↔ (t ≡ true))
        × ((answer_number (require (not t) FileOpen 0) ≡ 0) ↔ (t ≡ false))
        × (answer_place (require (not t) FileOpen 0) ≡ 0)
    go true = ((λ e. refl, λ e. refl), (λ e. absurd (omega arith), λ e. absurd (false≢true (sym e))), refl)
    go false = ((λ e. absurd (omega arith), λ e. absurd (false≢true e)), (λ e. refl, λ e. refl), refl)
