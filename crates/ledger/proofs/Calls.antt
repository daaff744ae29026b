-- A session and the ledger agree after every call, a run included. Assumes nothing.
use Rattle.std.specs.Prelude.{Err}
use Prim.Native.Nat.{ℕ, zero, suc, ◌-◌}
use mathlib.Core.Bool.{Bool, not}
use mathlib.Core.List.{List, [], ◌∷◌, ◌++◌, map}
use mathlib.Core.Logic.{⊎_elim}
use mathlib.Core.Path.{◌≡◌, refl, sym, ap, ap₂, ◌∙◌, subst}
use native.Mathlib.Omega.{arith}
use lib.ListN.{length, take, drop}
use Rattle.answer.specs.declared.Reason.TheVariants.{FileOpen, WrongList}
use Rattle.answer.specs.Answers.{Answer, Accepted, Refused}
use Rattle.answer.specs.Orders.{require, ◌then◌, if_accepted}
use Rattle.answer.proofs.Orders.{not_both}
use Rattle.barcode.specs.Agreed.{RightList, list_answer}
use Rattle.barcode.proofs.Lists.{one_list_refusal}
use Rattle.session.specs.declared.Session.{Session}
use Rattle.session.specs.declared.RunResult.{RunResult}
use Rattle.session.specs.Sessions.{fresh_session}
use Rattle.session.specs.Runs.{empty_run, run_all, run_of, bytes_of}
use Rattle.session.proofs.Feeding.{run_size, run_right, run_wrong}
use Rattle.ledger.specs.Ledgers.{Ledger, fresh_ledger, ledger_check, Step, taking, abandoning, ledger_step, ledger_after, ledger_answers}
use Rattle.ledger.specs.Promises.{session_step, session_after, Agrees}
use Rattle.ledger.specs.WholeFiles.{AllAccepted}
use Rattle.ledger.specs.Runs.{ledger_pieces, next_ledger_answer}
use Rattle.ledger.specs.Calls.{Call, stepping, running, finishing, Reply, answered, session_call, session_reply, session_after_calls, session_replies, records_taken, run_answer, steps_of_call, ledger_call, ledger_reply, ledger_after_calls, ledger_replies, steps_of_calls, CallsAgree, RepliesAreTheLedgers, CallsAreSteps}
use Rattle.ledger.proofs.Agreement.{check_agrees, steps_agree, fresh_agrees}
use Rattle.ledger.proofs.Runs.{run_on, same_pieces}

-- n records that the ledger accepts, where the next is refused or there is none, are those that a run takes
same_records : (agreed : List ℕ) (n : ℕ) (recs : List (List ℕ)) (k : Ledger) (a : Answer)
    → AllAccepted (ledger_answers k (map (taking agreed) (take n recs)))
    → a ≡ next_ledger_answer agreed (ledger_after k (map (taking agreed) (take n recs))) (drop n recs)
    → (a ≡ Accepted → n ≡ length recs)
    → (take n recs ≡ records_taken agreed k recs) × (a ≡ run_answer agreed k recs) × (n ≡ length (records_taken agreed k recs))
same_records agreed zero [] k a h e all = (refl, e, refl)
same_records agreed (suc n) [] k a h e all = (refl, e, all e)
same_records agreed zero (rec ∷ recs) k a h e all = go (ledger_check agreed k rec) e
  where
    next : Ledger
    next = ledger_step k (taking agreed rec)

    go : (b : Answer) → a ≡ b
        → ([] ≡ if_accepted b (rec ∷ records_taken agreed next recs) []) × (a ≡ b then run_answer agreed next recs)
        × (0 ≡ length (if_accepted b (rec ∷ records_taken agreed next recs) []))
    go Accepted q = absurd (omega (arith, all q))
    go (Err refusal) q = (refl, q, refl)
same_records agreed (suc n) (rec ∷ recs) k a h e all =
    go (ledger_check agreed k rec) h.0 (same_records agreed n recs next a h.1 e (λ x. omega (arith, all x)))
  where
    next : Ledger
    next = ledger_step k (taking agreed rec)

    go : (b : Answer) → b ≡ Accepted
        → (take n recs ≡ records_taken agreed next recs) × (a ≡ run_answer agreed next recs)
        × (n ≡ length (records_taken agreed next recs))
        → (rec ∷ take n recs ≡ if_accepted b (rec ∷ records_taken agreed next recs) [])
        × (a ≡ b then run_answer agreed next recs)
        × (suc n ≡ length (if_accepted b (rec ∷ records_taken agreed next recs) []))
    go Accepted q t = (ap (λ (l : List (List ℕ)). rec ∷ l) t.0, t.1, ap suc t.2)
    go (Err refusal) q t = not_both _ refl q

-- under a wrong list the ledger takes none
none_taken : (agreed : List ℕ) → list_answer agreed ≡ Refused WrongList 0 → (k : Ledger) (recs : List (List ℕ)) → records_taken agreed k recs ≡ []
none_taken agreed wrong k [] = refl
none_taken agreed wrong k (rec ∷ recs) = rw wrong

-- One call.
module _ (s : Session) (k : Ledger) (h : Agrees s k) where
  -- a run that gives what the ledger's records give: the session, and the reply
  record SameRun (agreed : List ℕ) (recs : List (List ℕ)) (r : RunResult) : Type 0 where
    session : r.session ≡ session_after s (map (taking agreed) (records_taken agreed k recs))
    answer : r.answer ≡ list_answer agreed then run_answer agreed k recs
    records : r.records ≡ length (records_taken agreed k recs)
    files : r.files
        ≡ length (ledger_after k (map (taking agreed) (records_taken agreed k recs))).accepted - length k.accepted
    bytes : r.bytes ≡ length (bytes_of (records_taken agreed k recs))

  run_agrees : (agreed : List ℕ) → RightList agreed → (recs : List (List ℕ)) → SameRun agreed recs (run_all agreed s recs)
  run_agrees agreed list recs =
      let r = run_all agreed s recs in
      let t = run_on agreed list recs s k h in
      let q = same_records agreed r.records recs k r.answer t.accepted t.answer t.whole in
      let grown =
      t.files ∙ ap (λ (l : List (List ℕ)). length (ledger_after k (map (taking agreed) l)).accepted) q.0 in
      record {
        session = t.session ∙ ap (λ (l : List (List ℕ)). session_after s (map (taking agreed) l)) q.0;
        answer = rw list q.1;
        records = q.2;
        files = omega (arith, grown);
        bytes = sym (run_size agreed list recs s) ∙ ap (λ (l : List (List ℕ)). length (bytes_of l)) q.0;
      }

  run_refused : (agreed : List ℕ) → list_answer agreed ≡ Refused WrongList 0 → (recs : List (List ℕ)) → SameRun agreed recs (empty_run (Refused WrongList 0) s)
  run_refused agreed wrong recs =
      let none = none_taken agreed wrong k recs in
      record {
        session = rw none;
        answer = rw wrong;
        records = rw none;
        files = rw none (omega arith);
        bytes = rw none;
      }

  any_run : (agreed : List ℕ) (more : Bool) (bytes : List ℕ) → SameRun agreed (ledger_pieces agreed k more bytes) (run_of agreed s more bytes)
  any_run agreed more bytes =
      let pieces = ledger_pieces agreed k more bytes in
      ⊎_elim (λ list.
      rw (run_right agreed s more bytes list, same_pieces agreed list s k more bytes h) (run_agrees agreed list pieces))
      (λ wrong. rw (run_wrong agreed s more bytes wrong) (run_refused agreed wrong pieces)) (one_list_refusal agreed)

  call_steps : (call : Call) → session_call s call ≡ session_after s (steps_of_call k call)
  call_steps (stepping step) = refl
  call_steps (running agreed more bytes) = (any_run agreed more bytes).session
  call_steps finishing = refl

  call_agrees : (call : Call) → Agrees (session_call s call) (ledger_call k call)
  call_agrees call =
      subst (λ (x : Session). Agrees x (ledger_call k call)) (sym (call_steps call))
      (steps_agree (steps_of_call k call) s k h)

  reply_agrees : (call : Call) → session_reply s call ≡ ledger_reply k call
  reply_agrees (stepping (taking agreed rec)) = ap answered (check_agrees agreed s k rec h)
  reply_agrees (stepping abandoning) = refl
  reply_agrees (running agreed more bytes) =
      let t = any_run agreed more bytes in
      rw (t.answer, t.records, t.files, t.bytes)
  reply_agrees finishing = ap (λ (t : Bool). answered (require (not t) FileOpen 0)) h.opened

-- Any calls.

calls_agree_from : (calls : List Call) (s : Session) (k : Ledger) → Agrees s k
    → Agrees (session_after_calls s calls) (ledger_after_calls k calls)
calls_agree_from [] s k h = h
calls_agree_from (call ∷ calls) s k h =
    calls_agree_from calls (session_call s call) (ledger_call k call) (call_agrees s k h call)

replies_from : (calls : List Call) (s : Session) (k : Ledger) → Agrees s k
    → session_replies s calls ≡ ledger_replies k calls
replies_from [] s k h = refl
replies_from (call ∷ calls) s k h =
    ap₂ (λ (r : Reply) (rest : List Reply). r ∷ rest) (reply_agrees s k h call)
    (replies_from calls (session_call s call) (ledger_call k call) (call_agrees s k h call))

session_joined : (xs ys : List Step) (s : Session) → session_after s (xs ++ ys) ≡ session_after (session_after s xs) ys
session_joined [] ys s = refl
session_joined (x ∷ xs) ys s = session_joined xs ys (session_step s x)

ledger_joined : (xs ys : List Step) (k : Ledger) → ledger_after k (xs ++ ys) ≡ ledger_after (ledger_after k xs) ys
ledger_joined [] ys k = refl
ledger_joined (x ∷ xs) ys k = ledger_joined xs ys (ledger_step k x)

steps_from : (calls : List Call) (s : Session) (k : Ledger) → Agrees s k
    → (session_after_calls s calls ≡ session_after s (steps_of_calls k calls))
    × (ledger_after_calls k calls ≡ ledger_after k (steps_of_calls k calls))
steps_from [] s k h = (refl, refl)
steps_from (call ∷ calls) s k h =
    let next = ledger_call k call in
    let own = steps_of_call k call in
    let later = steps_of_calls next calls in
    let t = steps_from calls (session_call s call) next (call_agrees s k h call) in (
      t.0 ∙ ap (λ (x : Session). session_after x later) (call_steps s k h call) ∙ sym (session_joined own later s),
      t.1 ∙ sym (ledger_joined own later k),
    )

pub calls_agree : CallsAgree
calls_agree calls = calls_agree_from calls fresh_session fresh_ledger fresh_agrees

pub replies_are_the_ledgers : RepliesAreTheLedgers
replies_are_the_ledgers calls = replies_from calls fresh_session fresh_ledger fresh_agrees

pub calls_are_steps : CallsAreSteps
calls_are_steps calls = steps_from calls fresh_session fresh_ledger fresh_agrees
