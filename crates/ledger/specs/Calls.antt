-- Any calls on a session, runs over many records and finishing among them, against the ledger (SPEC.md, "Sessions").
-- Assumes nothing.
use Rattle.std.specs.Prelude.{ℕ, ◌-◌, Bool, not, List, [], ◌∷◌, ◌++◌, map, ◌≡◌, length}
use Rattle.answer.specs.declared.Reason.TheVariants.{FileOpen}
use Rattle.answer.specs.Answers.{Answer, Accepted}
use Rattle.answer.specs.Orders.{require, ◌then◌, if_accepted}
use Rattle.barcode.specs.Agreed.{list_answer}
use Rattle.session.specs.declared.Session.{Session}
use Rattle.session.specs.Sessions.{fresh_session, take_of, finish_of}
use Rattle.session.specs.Runs.{run_of, bytes_of}
use Rattle.ledger.specs.Ledgers.{Ledger, fresh_ledger, is_open, ledger_check, Step, taking, abandoning, ledger_step, ledger_after}
use Rattle.ledger.specs.Promises.{session_step, reached, ledger_of, Agrees}
use Rattle.ledger.specs.Runs.{ledger_pieces}

-- taking a record or abandoning; a run over bytes under a list, told whether more are to follow; finishing
pub data Call : Type 0 where
  stepping : Step → Call
  running : List ℕ → Bool → List ℕ → Call
  finishing : Call

-- what the caller gets: an answer, for a run its records, files and bytes too; abandoning returns nothing
pub data Reply : Type 0 where
  answered : Answer → Reply
  ran : Answer → ℕ → ℕ → ℕ → Reply
  silent : Reply

-- Calls on a session.

abbrev pub session_call : Session → Call → Session
session_call s (stepping step) = session_step s step
session_call s (running agreed more bytes) = (run_of agreed s more bytes).session
session_call s finishing = (finish_of s).session

abbrev pub session_reply : Session → Call → Reply
session_reply s (stepping (taking agreed rec)) = answered (take_of agreed s rec).answer
session_reply s (stepping abandoning) = silent
session_reply s (running agreed more bytes) =
    let r = run_of agreed s more bytes in
    ran r.answer r.records r.files r.bytes
session_reply s finishing = answered (finish_of s).answer

abbrev pub session_after_calls : Session → List Call → Session
session_after_calls s [] = s
session_after_calls s (call ∷ calls) = session_after_calls (session_call s call) calls

abbrev pub session_replies : Session → List Call → List Reply
session_replies s [] = []
session_replies s (call ∷ calls) = session_reply s call ∷ session_replies (session_call s call) calls

-- The same calls on a ledger: a run is the taking of its records up to the first that is refused, under a wrong list of
-- none.

abbrev pub records_taken : List ℕ → Ledger → List (List ℕ) → List (List ℕ)
records_taken agreed k [] = []
records_taken agreed k (rec ∷ recs) =
    if_accepted (ledger_check agreed k rec) (rec ∷ records_taken agreed (ledger_step k (taking agreed rec)) recs) []

abbrev pub run_answer : List ℕ → Ledger → List (List ℕ) → Answer
run_answer agreed k [] = Accepted
run_answer agreed k (rec ∷ recs) =
    ledger_check agreed k rec then run_answer agreed (ledger_step k (taking agreed rec)) recs

abbrev pub steps_of_call : Ledger → Call → List Step
steps_of_call k (stepping step) = step ∷ []
steps_of_call k (running agreed more bytes) =
    map (taking agreed) (records_taken agreed k (ledger_pieces agreed k more bytes))
steps_of_call k finishing = []

abbrev pub ledger_call : Ledger → Call → Ledger
ledger_call k call = ledger_after k (steps_of_call k call)

-- a run's files are those that the ledger has more of
abbrev pub ledger_reply : Ledger → Call → Reply
ledger_reply k (stepping (taking agreed rec)) = answered (ledger_check agreed k rec)
ledger_reply k (stepping abandoning) = silent
ledger_reply k (running agreed more bytes) =
    let pieces = ledger_pieces agreed k more bytes in
    let taken = records_taken agreed k pieces in
    ran (list_answer agreed then run_answer agreed k pieces) (length taken)
    (length (ledger_call k (running agreed more bytes)).accepted - length k.accepted)
    (length (bytes_of taken))
ledger_reply k finishing = answered (require (not (is_open k.opened)) FileOpen 0)

abbrev pub ledger_after_calls : Ledger → List Call → Ledger
ledger_after_calls k [] = k
ledger_after_calls k (call ∷ calls) = ledger_after_calls (ledger_call k call) calls

abbrev pub ledger_replies : Ledger → List Call → List Reply
ledger_replies k [] = []
ledger_replies k (call ∷ calls) = ledger_reply k call ∷ ledger_replies (ledger_call k call) calls

abbrev pub steps_of_calls : Ledger → List Call → List Step
steps_of_calls k [] = []
steps_of_calls k (call ∷ calls) = steps_of_call k call ++ steps_of_calls (ledger_call k call) calls

-- Promises, of any list of calls from a fresh session.

-- the session agrees with the ledger, and every reply is the ledger's
abbrev pub CallsAgree : Type 0
CallsAgree = (calls : List Call) → Agrees (session_after_calls fresh_session calls) (ledger_after_calls fresh_ledger calls)

abbrev pub RepliesAreTheLedgers : Type 0
RepliesAreTheLedgers =
    (calls : List Call) → session_replies fresh_session calls ≡ ledger_replies fresh_ledger calls

-- they reach what steps reach, so whatever holds after any steps holds after any calls
abbrev pub CallsAreSteps : Type 0
CallsAreSteps =
    (calls : List Call)
    → let steps = steps_of_calls fresh_ledger calls in
    (session_after_calls fresh_session calls ≡ reached steps) × (ledger_after_calls fresh_ledger calls ≡ ledger_of steps)
