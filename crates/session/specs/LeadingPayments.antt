-- Serves the run's fast path alone (src/leading.rt): the next payment, and what payments leave. Assumes nothing.
use Rattle.std.specs.Prelude.{None, Ok, Option, Some, ℕ, ◌+◌, ◌-◌, ◌≤◌, Bool, true, cond, List, ◌≡◌, length, take, drop}
use Rattle.answer.specs.Answers.{Accepted}
use Rattle.layout.specs.Layouts.{record_length}
use Rattle.kinds.specs.Terms.{told}
use Rattle.record.specs.declared.Payment.{Payment}
use Rattle.record.specs.declared.Contents.TheVariants as contents
use Rattle.record.specs.Values.{decoded_record_under}
use Rattle.file.specs.Files.{file_answer, file_with}
use Rattle.file.specs.Forms.{lined_length, length_of, end_answer}
use Rattle.board.specs.declared.Lane.{Lane}
use Rattle.session.specs.declared.Session.{Session}
use Rattle.session.specs.declared.leading.Progress.{Progress}
use Rattle.session.specs.declared.leading.LeadingPayments.{LeadingPayments}
use Rattle.session.specs.Sessions.{session_working, lane_of_payment}
use Rattle.session.specs.Runs.{least_left, add_counts, run_under}

-- the bytes that must be left for one more record of an open file of this form: a record's, or 152 if more are to
-- follow
abbrev pub record_needs : Bool → Bool → ℕ
record_needs lined more = cond more lined_length (length_of lined)

-- a payment that the open file takes: its record starts where the progress before it ended, and is there whole
pub record Taken (agreed : List ℕ) (opened more : Bool) (before : Progress) (bytes : List ℕ) (payment : Lane)
    (next : Progress) : Type 0 where
  pub going : opened ≡ true
  pub enough : before.at + least_left more ≤ length bytes
  pub ends : next.at ≡ before.at + length_of before.file.lined
  pub inside : next.at ≤ length bytes
  pub shown : Payment
  pub is :
      decoded_record_under (told before.file.version agreed) (take record_length (drop before.at bytes))
      ≡ Ok (contents.Payment shown)
  pub ended :
      end_answer true before.file.lined (take (next.at - before.at) (drop before.at bytes)) ≡ Accepted
  pub lane : payment ≡ lane_of_payment shown
  pub fits : file_answer before.file shown.received ≡ Accepted
  pub file : next.file ≡ file_with before.file shown.received
  pub counts : next.records ≡ before.records + 1

-- unspecified if there is no such payment: `take` then answers
abbrev pub NextPaymentOf : List ℕ → Bool → Bool → Progress → List ℕ → Option (Lane × Progress) → Type 0
NextPaymentOf agreed opened more before bytes (Some (payment, next)) = Taken agreed opened more before bytes payment next
NextPaymentOf agreed opened more before bytes None = Unit {0}

-- the session with what the payments left of its working board and its file
abbrev pub with_leading : Session → LeadingPayments → Session
with_leading s p = session_working s p.work p.progress.file

-- payments at the front were taken: what is left to run, with their number and bytes added, is the whole run
pub record LeadingPaymentsOf (agreed : List ℕ) (s : Session) (more : Bool) (bytes : List ℕ) (p : LeadingPayments) :
    Type 0 where
  pub within : p.progress.at ≤ length bytes
  pub few : p.progress.records ≤ p.progress.at
  pub rest :
      add_counts p.progress.records 0 p.progress.at
      (run_under agreed (with_leading s p) more (drop p.progress.at bytes))
      ≡ run_under agreed s more bytes
