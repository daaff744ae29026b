-- The turns over a whole input (SPEC.md, "The program quadro"): what was read into the buffer, one turn after the
-- other. Assumes nothing.
use Rattle.std.specs.Prelude.{ℕ, ◌+◌, ◌≤◌, true, false, List, ◌++◌, ◌⊎◌, ◌≡◌, length, take, drop}
use Rattle.answer.specs.Answers.{Accepted}
use Rattle.session.specs.declared.RunResult.{RunResult}
use Rattle.day.specs.Days.{fresh_day, run_buffer_of, left_of}
use Rattle.day.specs.Inputs.{day_of_input}
use Rattle.quadro.specs.declared.TurnEnd.TheVariants.{More, Over}
use Rattle.quadro.specs.declared.TurnResult.{TurnResult}
use Rattle.quadro.specs.Buffers.{buffer_length, input_limit}
use Rattle.quadro.specs.Turns.{has_more, turn_with, TurnOf}

-- the day that `start` became by this input, of which more may follow, and the bytes of it that are left to run
pub record Fed (start : RunResult) (input : List ℕ) (day : RunResult) (left : List ℕ) : Type 0 where
  pub is : day ≡ run_buffer_of start true input
  pub accepted : day.answer ≡ Accepted
  pub unrun : left ≡ left_of start.session input

-- The last turn over an input that the day `start` runs, with these bytes in the buffer: the input before it was run
-- and accepted, and what it left is at the buffer's front. Then came a turn that has no more, or at least `input_limit`
-- bytes were read. No contract can say that these bytes are what standard input gave; that each turn runs the bytes in
-- its buffer is `TurnRun`. The loop promises it of any `start`, so it cannot begin a new day in between.
pub record InputRun (start : RunResult) (bytes : List ℕ) (t : TurnResult) : Type 0 where
  pub before : List ℕ
  pub day : RunResult
  pub left : List ℕ
  pub fed : Fed start before day left
  pub last :
      ((input_limit ≤ length before) × (t ≡ turn_with More day (length left)))
      ⊎ ((has_more t.end ≡ false) × (take (length left) bytes ≡ left) × TurnOf day (length left) bytes t)

-- the day of an input: what was run before, then n bytes of the buffer behind the `kept` bytes that were left
pub record DayOfInput (before : List ℕ) (kept : ℕ) (bytes : List ℕ) (day : RunResult) : Type 0 where
  pub n : ℕ
  pub within : kept + n ≤ buffer_length
  pub is : day ≡ day_of_input (before ++ take n (drop kept bytes))

-- Promise: a day that is over is the day of the input that was read.
abbrev pub OverIsTheInputs : Type 0
OverIsTheInputs =
    (bytes : List ℕ) (t : TurnResult) (run : InputRun fresh_day bytes t) → t.end ≡ Over
    → DayOfInput run.before (length run.left) bytes t.day
