-- The buffer that is read and run at once, and bounds, so that no count wraps: at most one record and one file is
-- counted for each byte read. Assumes nothing.
use Rattle.std.specs.Prelude.{ℕ, ◌+◌, ◌-◌, ◌^◌, ◌≤◌, ◌<◌, cond, Result, Ok, Err, eqb}
use Rattle.file.specs.Forms.{lined_length}
use Rattle.session.specs.declared.RunResult.{RunResult}
use Rattle.quadro.specs.declared.TurnEnd.TheVariants as turn

abbrev pub buffer_length : ℕ
buffer_length = 65536

-- the most bytes that a full buffer leaves for the next: one less than a record with CR and LF
abbrev pub most_kept : ℕ
most_kept = lined_length - 1

-- the code's io::Error, as the type of what a failed turn tells: std hands on no name for it
abbrev told_by : {A B : Type 0} → (A → B) → Type 0
told_by {A} variant = A

abbrev pub ReadError : Type 0
ReadError = told_by turn.Failed

-- how reading a buffer ended: it is full, the input ended behind so many bytes, or a read failed, and why
pub data BufferRead : Type 0 where
  Full : BufferRead
  Ended : ℕ → BufferRead
  Failed : ReadError → BufferRead

-- the same of a buffer of n bytes, by how many were read
abbrev pub buffer_read : ℕ → Result ℕ ReadError → BufferRead
buffer_read n (Ok k) = cond (eqb k n) Full (Ended k)
buffer_read n (Err why) = Failed why

-- if the input ended, fewer than n bytes were read: a full buffer is not its end
abbrev pub EndsBelow : ℕ → BufferRead → Type 0
EndsBelow n Full = Unit {0}
EndsBelow n (Ended k) = k < n
EndsBelow n (Failed why) = Unit {0}

-- an input of fewer bytes is read to its end, unless a record is refused
abbrev pub input_limit : ℕ
input_limit = 2 ^ 60

-- the most records, files or bytes that are counted before an input is read, and while it is read
abbrev pub most_before : ℕ
most_before = 2 ^ 60

abbrev pub most_counted : ℕ
most_counted = 2 ^ 62

-- at most n records, n files and n bytes
abbrev pub Counted : ℕ → RunResult → Type 0
Counted n day = (day.records ≤ n) × (day.files ≤ n) × (day.bytes ≤ n)

-- at most one buffer's bytes more
abbrev pub Grown : RunResult → RunResult → Type 0
Grown day next =
    (next.records ≤ day.records + buffer_length) × (next.files ≤ day.files + buffer_length)
    × (next.bytes ≤ day.bytes + buffer_length)
