-- One turn of the reading loop: the buffer is filled behind the bytes that the turn before left, its bytes are run, and
-- the loop goes on or ends. Assumes nothing.
use Rattle.std.specs.Prelude.{ℕ, ◌+◌, ◌-◌, Bool, true, false, List, ◌≡◌, length, take, Err}
use Rattle.answer.specs.Answers.{Answer}
use Rattle.answer.specs.Answers as answer
use Rattle.session.specs.declared.RunResult.{RunResult}
use Rattle.day.specs.Days.{run_buffer_of, left_of, ended_of}
use Rattle.quadro.specs.declared.TurnEnd.{TurnEnd}
use Rattle.quadro.specs.declared.TurnEnd.TheVariants as turn
use Rattle.quadro.specs.declared.TurnResult.{TurnResult}
use Rattle.quadro.specs.Buffers as buffer
use Rattle.quadro.specs.Buffers.{buffer_length, BufferRead, EndsBelow}

abbrev pub has_more : TurnEnd → Bool
has_more turn.More = true
has_more turn.Over = false
has_more (turn.Failed why) = false

abbrev pub turn_with : TurnEnd → RunResult → ℕ → TurnResult
turn_with end day kept = record { end = end; day = day; kept = kept }

-- the day goes on with so many bytes kept, unless it is refused
abbrev pub more_unless_refused : Answer → RunResult → ℕ → TurnResult
more_unless_refused answer.Accepted day kept = turn_with turn.More day kept
more_unless_refused (Err refusal) day kept = turn_with turn.Over day 0

-- the turn over a full buffer: more may follow, and what the run leaves of its bytes is kept
abbrev pub full_turn_of : RunResult → List ℕ → TurnResult
full_turn_of day bytes =
    let next = run_buffer_of day true bytes in
    more_unless_refused next.answer next (length (left_of day.session bytes))

-- The turn of a day, by all bytes in the buffer once it was read, of which the first `kept` were left by the turn
-- before, and by how reading the others ended: all bytes of a full buffer are run, and more may follow; if the input
-- ended, the bytes left and those read are run, then the end; after a failed read none, and the turn says why.
abbrev pub turn_of : RunResult → ℕ → List ℕ → BufferRead → TurnResult
turn_of day kept bytes buffer.Full = full_turn_of day bytes
turn_of day kept bytes (buffer.Ended n) = turn_with turn.Over (ended_of (run_buffer_of day false (take (kept + n) bytes))) 0
turn_of day kept bytes (buffer.Failed why) = turn_with (turn.Failed why) day 0

-- a turn of the day, with these bytes in the buffer, of which the first `kept` were left before it
pub record TurnOf (day : RunResult) (kept : ℕ) (bytes : List ℕ) (t : TurnResult) : Type 0 where
  pub whole : length bytes ≡ buffer_length
  pub read : BufferRead
  pub below : EndsBelow (buffer_length - kept) read
  pub is : t ≡ turn_of day kept bytes read

-- the buffer after a turn that ran these bytes: if more follows, what the run left is at its front; else it has these
-- bytes still
abbrev pub BufferAfter : RunResult → List ℕ → TurnResult → List ℕ → Type 0
BufferAfter day bytes t after =
    (has_more t.end ≡ true → take t.kept after ≡ left_of day.session bytes)
    × (has_more t.end ≡ false → after ≡ bytes)

-- a turn of the day with these bytes left before it, and the buffer after it: those left are the first that it ran
pub record TurnRun (day : RunResult) (left : List ℕ) (t : TurnResult) (after : List ℕ) : Type 0 where
  pub bytes : List ℕ
  pub first : take (length left) bytes ≡ left
  pub turned : TurnOf day (length left) bytes t
  pub moved : BufferAfter day bytes t after
