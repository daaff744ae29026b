-- What holds of a ledger after any steps. Assumes nothing.
use Rattle.std.specs.Prelude.{Err}
use Prim.Native.Nat.{ℕ}
use mathlib.Core.Bool.{true}
use mathlib.Core.List.{List, [], ◌∷◌}
use mathlib.Core.Option.{none}
use mathlib.Core.Path.{◌≡◌, refl}
use lib.ListN.{get_or}
use Rattle.answer.specs.declared.Reason.TheVariants.{WrongLength, NotExpected}
use Rattle.answer.specs.Answers.{Answer, Accepted}
use Rattle.answer.specs.Orders.{◌then◌, if_accepted}
use Rattle.answer.proofs.Orders.{then_accepts}
use Rattle.answer.proofs.Steps.{passed}
use Rattle.layout.specs.Layouts.{named_by}
use Rattle.barcode.specs.Agreed.{list_answer}
use Rattle.record.specs.Records.{record_answer}
use Rattle.record.proofs.Shown.{without_list}
use Rattle.file.specs.Forms.{body_of, fits_length, end_answer}
use Rattle.ledger.specs.Ledgers.{Ledger, is_open, is_open_lined, ledger_expects, open_version, ledger_terms, state_answer, ledger_answer, ledger_check, next_ledger, Step, taking, abandoning, ledger_step, ledger_after}

-- a record that a ledger accepted under some list, and so under the empty one
pub record AcceptedBy (k : Ledger) (rec : List ℕ) : Type 0 where
  pub own : record_answer (ledger_terms [] k.opened) (body_of rec) ≡ Accepted
  pub expected : ledger_expects k.opened (named_by (get_or rec 0 0)) ≡ true
  pub state : state_answer k.accepted k.opened (named_by (get_or rec 0 0)) (body_of rec) ≡ Accepted

accepted_by : (agreed : List ℕ) (k : Ledger) (rec : List ℕ) → ledger_check agreed k rec ≡ Accepted → AcceptedBy k rec
accepted_by agreed k rec e =
    let n = named_by (get_or rec 0 0) in
    let own = record_answer (ledger_terms agreed k.opened) (body_of rec) in
    let state = state_answer k.accepted k.opened n (body_of rec) in
    let ending = end_answer (is_open k.opened) (is_open_lined k.opened) rec in
    let judged = ((then_accepts (list_answer agreed) (ledger_answer agreed k rec)).0 e).1 in
    let fits = passed (fits_length (is_open k.opened) (is_open_lined k.opened) rec) WrongLength 0 judged in
    let met = passed (ledger_expects k.opened n) NotExpected 1 fits.1 in
    let two = (then_accepts own (state then ending)).0 met.1 in
    record {
      own = without_list (open_version k.opened) agreed (body_of rec) two.0;
      expected = met.0;
      state = ((then_accepts state ending).0 two.1).0;
    }

-- what abandoning keeps, and each record that is accepted, is kept by any steps
module _ (P : Ledger → Type 0) (dropped : (k : Ledger) → P k → P (record { accepted = k.accepted; opened = none }))
    (with-one : (k : Ledger) (rec : List ℕ) → P k → AcceptedBy k rec → P (next_ledger k rec)) where
  keeps : (k : Ledger) (step : Step) → P k → P (ledger_step k step)
  keeps k abandoning h = dropped k h
  keeps k (taking agreed rec) h = go (ledger_check agreed k rec) refl
    where
      go : (a : Answer) → ledger_check agreed k rec ≡ a → P (if_accepted a (next_ledger k rec) k)
      go (Err refusal) e = h
      go Accepted e = with-one k rec h (accepted_by agreed k rec e)

  pub all_keep : (k : Ledger) (steps : List Step) → P k → P (ledger_after k steps)
  all_keep k [] h = h
  all_keep k (step ∷ steps) h = all_keep (ledger_step k step) steps (keeps k step h)
