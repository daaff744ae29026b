-- One turn: what a full buffer gives, and which turns have more. Assumes nothing.
use Rattle.std.specs.Prelude.{Err}
use Prim.Native.Nat.{ℕ, ◌-◌, ◌≤◌}
use mathlib.Core.Bool.{true, false}
use mathlib.Core.List.{List, []}
use mathlib.Core.Path.{◌≡◌, refl, sym, ap, subst, ◌∙◌}
use native.Mathlib.Omega.{arith}
use lib.ListN.{length, take}
use lib.Seq.{length-take-le, take-length}
use Rattle.answer.specs.Answers.{Answer, Accepted}
use Rattle.answer.proofs.Tests.{never, unequal}
use Rattle.session.specs.declared.RunResult.{RunResult}
use Rattle.session.specs.Runs.{run_of}
use Rattle.day.specs.Days.{run_buffer_of, left_of}
use Rattle.day.proofs.Inputs.{taken_within}
use Rattle.quadro.specs.declared.TurnEnd.TheVariants as turn
use Rattle.quadro.specs.declared.TurnResult.{TurnResult}
use Rattle.quadro.specs.Buffers as buffer
use Rattle.quadro.specs.Buffers.{buffer_length, BufferRead, EndsBelow}
use Rattle.quadro.specs.Turns.{has_more, turn_with, more_unless_refused, turn_of, TurnOf, BufferAfter, TurnRun}

-- a turn that has no more moves nothing
none_moved : (day : RunResult) (bytes : List ℕ) (t : TurnResult) → has_more t.end ≡ false → BufferAfter day bytes t bytes
none_moved day bytes t e = (λ h. unequal h e, λ h. refl)

-- A full buffer, and the day after it.
module _ (day : RunResult) (bytes : List ℕ) {next : RunResult}
    (ran_all : next ≡ run_buffer_of day true (take (length bytes) bytes)) where
  abbrev ran : RunResult
  ran = run_buffer_of day true bytes

  ran_whole : next ≡ ran
  ran_whole = ran_all ∙ ap (run_buffer_of day true) (take-length bytes)

  abbrev from : ℕ
  from = next.bytes - day.bytes

  size : from ≡ (run_of [] day.session true bytes).bytes
  size = omega (arith, ap (λ (d : RunResult). d.bytes) ran_whole)

  -- the bytes that were taken are the buffer's
  pub taken_here : (day.bytes ≤ next.bytes) × (from ≤ length bytes)
  taken_here =
      (omega (arith, ap (λ (d : RunResult). d.bytes) ran_whole), omega (arith, size, taken_within day.session true bytes))

-- a turn with so many bytes at the front of the buffer before it
pub turn_run :
    (day : RunResult) (kept : ℕ) (entry bytes : List ℕ) {t : TurnResult} {after : List ℕ} (read : BufferRead)
    → kept ≤ buffer_length → take kept bytes ≡ take kept entry → length bytes ≡ buffer_length
    → EndsBelow (buffer_length - kept) read → t ≡ turn_of day kept bytes read → BufferAfter day bytes t after
    → TurnRun day (take kept entry) t after
turn_run day kept entry bytes {t} {after} read within same whole below is moved =
    let size : length (take kept entry) ≡ kept =
    ap length (sym same) ∙ length-take-le kept bytes (omega (arith, within, whole)) in
    let turned : TurnOf day kept bytes t = record { whole = whole; read = read; below = below; is = is } in
    record {
      bytes = bytes;
      first = ap (λ (n : ℕ). take n bytes) size ∙ same;
      turned = subst (λ (n : ℕ). TurnOf day n bytes t) (sym size) turned;
      moved = moved;
    }

pub turn_last :
    (day : RunResult) (kept : ℕ) (entry bytes : List ℕ) {t : TurnResult} (read : BufferRead)
    → kept ≤ buffer_length → take kept bytes ≡ take kept entry → length bytes ≡ buffer_length
    → EndsBelow (buffer_length - kept) read → t ≡ turn_of day kept bytes read → has_more t.end ≡ false
    → TurnRun day (take kept entry) t bytes
turn_last day kept entry bytes {t} read within same whole below is none =
    turn_run day kept entry bytes read within same whole below is (none_moved day bytes t none)

-- A turn that has more ran a full buffer, which was accepted.
module _ (day : RunResult) (kept : ℕ) (bytes : List ℕ) (t : TurnResult) where
  abbrev after : RunResult
  after = run_buffer_of day true bytes

  -- the turn that has more
  abbrev going_on : TurnResult
  going_on = turn_with turn.More after (length (left_of day.session bytes))

  more_accepted :
      (a : Answer) → t ≡ more_unless_refused a after (length (left_of day.session bytes)) → has_more t.end ≡ true
      → (t ≡ going_on) × (a ≡ Accepted)
  more_accepted Accepted e h = (e, refl)
  more_accepted (Err refusal) e h = let m : false ≡ true = rw e at h in never m

  more_read :
      (read : BufferRead) → t ≡ turn_of day kept bytes read → has_more t.end ≡ true
      → (t ≡ going_on) × (after.answer ≡ Accepted)
  more_read buffer.Full e h = more_accepted after.answer e h
  more_read (buffer.Ended n) e h = let m : false ≡ true = rw e at h in never m
  more_read (buffer.Failed why) e h = let m : false ≡ true = rw e at h in never m

  pub more_ran : TurnOf day kept bytes t → has_more t.end ≡ true → (t ≡ going_on) × (after.answer ≡ Accepted)
  more_ran o h = more_read o.read o.is h
