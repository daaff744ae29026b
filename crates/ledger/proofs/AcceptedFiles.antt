-- What is accepted is right by itself, was expected, and has the form of its file. Assumes nothing.
use Rattle.std.specs.Prelude.{None, Option, Some}
use Prim.Native.Nat.{ℕ}
use mathlib.Core.Bool.{Bool, true, false, not}
use mathlib.Core.List.{List, [], ◌∷◌, ◌++◌, map}
use mathlib.Core.Path.{◌≡◌, refl, sym, ap, ap₂, ◌∙◌}
use lib.ListN.{length, get_or}
use Rattle.answer.specs.declared.Reason.TheVariants.{WrongLength, NotExpected}
use Rattle.answer.specs.Answers.{Accepted}
use Rattle.answer.specs.Orders.{Each}
use Rattle.answer.proofs.Orders.{then_accepts, accepted_takes}
use Rattle.answer.proofs.Steps.{passed}
use Rattle.answer.proofs.Tests.{never, unequal}
use Rattle.layout.specs.declared.Record.{Record}
use Rattle.layout.specs.declared.Record.TheVariants.{Header, Payment, Trailer}
use Rattle.layout.specs.Layouts.{record_length, named_by}
use Rattle.barcode.specs.Agreed.{RightList, list_answer}
use Rattle.kinds.specs.Terms.{told}
use Rattle.record.specs.Records.{record_answer}
use Rattle.record.specs.Values.{version_in, record_shown, shown_unless_refused}
use Rattle.file.specs.Forms.{in_form, body_of, has_line_end, fits_length, end_answer, is_taken_lined}
use Rattle.file.proofs.Forms.{first_in, fitting_is_in_form}
use Rattle.session.specs.declared.Session.{Session}
use Rattle.session.specs.Sessions.{TakeResult, opened_at, pair_in, session_terms, session_expects, session_with_payment, session_answer, session_with, take_result, take_answer, take_of}
use Rattle.pairs.specs.Pairs.{memory_answer}
use Rattle.ledger.specs.Ledgers.{lane_of_record, header_terms, taking}
use Rattle.ledger.specs.Promises.{answers_of}
use Rattle.ledger.specs.WholeFiles.{IsRight, all_in_form, AllAccepted, AcceptedFileIsWhole}
use Rattle.ledger.proofs.Sessions.{own_accepts}
use Rattle.ledger.proofs.WholeFiles.{taken, right_under_any_terms}

-- a record that was accepted, with whatever follows it
pub record TakenRight (agreed : List ℕ) (s : Session) (rec : List ℕ) : Type 0 where
  pub list : RightList agreed
  pub own : record_answer (session_terms agreed s) (body_of rec) ≡ Accepted
  pub state : session_answer s (body_of rec) (shown_unless_refused (record_answer (session_terms agreed s) (body_of rec)) (record_shown agreed (named_by (get_or (body_of rec) 0 0)) (body_of rec))) ≡ Accepted
  pub expected : session_expects s.opened (named_by (get_or rec 0 0)) ≡ true
  pub long : length (body_of rec) ≡ record_length
  pub form : rec ≡ in_form (is_taken_lined s.opened s.file.lined rec) (body_of rec)

pub taken_right : (agreed : List ℕ) (s : Session) (rec : List ℕ) → (take_of agreed s rec).answer ≡ Accepted → TakenRight agreed s rec
taken_right agreed s rec e =
    let body = body_of rec in
    let own = record_answer (session_terms agreed s) body in
    let shown = record_shown agreed (named_by (get_or body 0 0)) body in
    let judged = (then_accepts (list_answer agreed) (take_answer agreed s rec)).0 e in
    let fits = passed (fits_length s.opened s.file.lined rec) WrongLength 0 judged.1 in
    let met = passed (session_expects s.opened (named_by (get_or rec 0 0))) NotExpected 1 fits.1 in
    let both = (then_accepts (session_answer s body (shown_unless_refused own shown)) (end_answer s.opened s.file.lined rec)).0 met.1 in
    let form = (fitting_is_in_form s.opened s.file.lined rec).0 (fits.0, both.1) in
    record {
      list = judged.0;
      own = own_accepts s body own shown both.0;
      state = both.0;
      expected = met.0;
      long = form.0;
      form = form.1;
    }

header_expected : (m : Option Record) → session_expects false m ≡ true → m ≡ Some Header
header_expected (Some Header) e = refl
header_expected (Some Payment) e = never e
header_expected (Some Trailer) e = never e
header_expected None e = never e

-- the record in what was taken, by its kind
right_body : (agreed : List ℕ) (s : Session) (r : Record) (rec : List ℕ) → TakenRight agreed s rec → named_by (get_or rec 0 0) ≡ Some r → IsRight (session_terms agreed s) r (body_of rec)
right_body agreed s r rec h n = (h.own, ap named_by (first_in rec) ∙ n)

-- in an open file of this form and version: payments that are accepted keep it open, and both
rest_right : (agreed : List ℕ) (version : ℕ) (lined : Bool) (z : List ℕ) → named_by (get_or z 0 0) ≡ Some Trailer → (recs : List (List ℕ)) (s : Session)
    → Each (λ (rec : List ℕ). named_by (get_or rec 0 0) ≡ Some Payment) recs → s.opened ≡ true → s.file.lined ≡ lined → s.file.version ≡ version
    → AllAccepted (answers_of s (map (taking agreed) (recs ++ (z ∷ []))))
    → let t = told version agreed in
    Each (IsRight t Payment) (map body_of recs) × IsRight t Trailer (body_of z)
    × (recs ++ (z ∷ []) ≡ all_in_form lined (map body_of recs ++ (body_of z ∷ [])))
rest_right agreed version lined z last [] s h opened form under e =
    let own = taken_right agreed s z e.0 in
    let in-form : z ≡ in_form lined (body_of z) = rw (opened, form) at own.form in
    (tt, rw under at (right_body agreed s Trailer z own last), ap (λ (l : List ℕ). l ∷ []) in-form)
rest_right agreed version lined z last (rec ∷ recs) s h opened form under e =
    let own = taken_right agreed s rec e.0 in
    let body = body_of rec in
    let right = right_body agreed s Payment rec own h.0 in
    let shown = record_shown agreed (Some Payment) body in
    let in-form : rec ≡ in_form lined body = rw (opened, form) at own.form in
    let takes = ap (take_of agreed s) in-form ∙ taken agreed own.list s lined Payment body right opened (λ x. sym form) in
    let accepts : session_answer s body shown ≡ Accepted = sym (ap (λ (x : TakeResult). x.answer) takes) ∙ e.0 in
    let next : (take_of agreed s rec).session ≡ session_with_payment s (lane_of_record body) =
    ap (λ (x : TakeResult). x.session) takes ∙ accepted_takes (session_answer s body shown) (session_with s lined body shown) s accepts in
    let later = rest_right agreed version lined z last recs (session_with_payment s (lane_of_record body)) h.1 opened form under (rw next at e.1) in
    ((rw under at right, later.0), later.1, ap₂ (λ (x : List ℕ) (l : List (List ℕ)). x ∷ l) in-form later.2)

pub accepted_file_is_whole : AcceptedFileIsWhole
accepted_file_is_whole agreed s a recs z closed payments last e =
    let own = taken_right agreed s a e.0 in
    let body = body_of a in
    let lined = has_line_end a in
    let named : named_by (get_or a 0 0) ≡ Some Header = header_expected (named_by (get_or a 0 0)) (rw closed at own.expected) in
    let right = right_body agreed s Header a own named in
    let in-form : a ≡ in_form lined body = rw closed at own.form in
    let start = opened_at s.shown s.memory (version_in body) lined (pair_in body) in
    let checked = memory_answer s.memory (pair_in body) in
    let takes : take_of agreed s a ≡ take_result checked start s =
    ap (take_of agreed s) in-form ∙ taken agreed own.list s lined Header body right (ap not closed) (λ x. unequal x closed) in
    let passes : checked ≡ Accepted = sym (ap (λ (x : TakeResult). x.answer) takes) ∙ e.0 in
    let next : (take_of agreed s a).session ≡ start = ap (λ (x : TakeResult). x.session) takes ∙ accepted_takes checked start s passes in
    let later = rest_right agreed (version_in body) lined z last recs start payments refl refl refl (rw next at e.1) in (
      record {
        list = own.list;
        header = right_under_any_terms (session_terms agreed s) (header_terms agreed body) Header body refl right;
        payments = later.0;
        trailer = later.1;
      },
      ap₂ (λ (x : List ℕ) (l : List (List ℕ)). x ∷ l) in-form later.2,
    )
