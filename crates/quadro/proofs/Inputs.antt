-- The turns run one input. Assumes nothing.
use Rattle.std.specs.Prelude.{Err}
use Prim.Native.Nat.{ℕ, ◌+◌, ◌-◌, ◌*◌, ◌≤◌}
use mathlib.Core.Bool.{Bool, true, false}
use mathlib.Core.List.{List, [], ◌++◌, append-nil}
use mathlib.Core.Logic.{◌⊎◌, inl, inr}
use mathlib.Core.Path.{◌≡◌, refl, sym, ap, ap₂, subst, ◌∙◌}
use native.Mathlib.Nat.{add-zero}
use native.Mathlib.Omega.{arith}
use lib.ListN.{length, take, drop, length-append, length-take, length-drop, take-append-drop}
use lib.Seq.{take_all, take-add}
use Rattle.answer.specs.Answers.{Answer, Accepted}
use Rattle.answer.proofs.Orders.{not_both}
use Rattle.barcode.specs.Agreed.{list_answer}
use Rattle.session.specs.declared.RunResult.{RunResult}
use Rattle.session.specs.Runs.{run_of}
use Rattle.session.proofs.Feeding.{run_leaves_few}
use Rattle.day.specs.Days.{fresh_day, run_buffer_of, left_of, ended_of}
use Rattle.day.proofs.Inputs.{left_then, accepted_then, refused_then}
use Rattle.quadro.specs.declared.TurnEnd.{TurnEnd}
use Rattle.quadro.specs.declared.TurnEnd.TheVariants as turn
use Rattle.quadro.specs.declared.TurnResult.{TurnResult}
use Rattle.quadro.specs.Buffers as buffer
use Rattle.quadro.specs.Buffers.{buffer_length, most_kept, input_limit, BufferRead, EndsBelow}
use Rattle.quadro.specs.Turns.{has_more, turn_with, more_unless_refused, turn_of, TurnOf, TurnRun}
use Rattle.quadro.specs.Inputs.{Fed, DayOfInput, OverIsTheInputs}
use Rattle.quadro.proofs.Buffers.{ended_refused}
use Rattle.quadro.proofs.Turns.{more_ran}

abbrev answer_of : RunResult → Answer
answer_of r = r.answer

abbrev end_of : TurnResult → TurnEnd
end_of t = t.end

abbrev day_of : TurnResult → RunResult
day_of t = t.day

-- The bytes that follow an input, run behind what it left, are run as a part of it.
module _ {start day : RunResult} {input left : List ℕ} (fed : Fed start input day left) (new bytes : List ℕ)
    (e : bytes ≡ left ++ new) where
  before_accepted : (run_buffer_of start true input).answer ≡ Accepted
  before_accepted = ap answer_of (sym fed.is) ∙ fed.accepted

  behind_left : bytes ≡ left_of start.session input ++ new
  behind_left = e ∙ ap (λ (l : List ℕ). l ++ new) fed.unrun

  fed_runs : (more : Bool) → run_buffer_of day more bytes ≡ run_buffer_of start more (input ++ new)
  fed_runs more =
      ap₂ (λ (d : RunResult) (l : List ℕ). run_buffer_of d more l) fed.is behind_left
      ∙ accepted_then start more input new before_accepted

  fed_on : {next : RunResult} → next ≡ run_buffer_of day true bytes → next.answer ≡ Accepted
      → Fed start (input ++ new) next (left_of day.session bytes)
  fed_on n a =
      record {
        is = n ∙ fed_runs true;
        accepted = a;
        unrun =
            ap₂ (λ (d : RunResult) (l : List ℕ). left_of d.session l) fed.is behind_left
            ∙ left_then start.session input new before_accepted;
      }

-- The loop after so many turns: the input so far was run and accepted, what it left is at the buffer's front, and each
-- turn read at least what a full buffer has besides the most bytes kept.
pub record Reached (start : RunResult) (turns : ℕ) (t : TurnResult) (buf : List ℕ) : Type 0 where
  pub input : List ℕ
  pub fed : Fed start input t.day (take t.kept buf)
  pub more : t.end ≡ turn.More
  pub size : length (take t.kept buf) ≡ t.kept
  pub few : t.kept ≤ most_kept
  pub long : turns * (buffer_length - most_kept) ≤ length input

pub reached_none :
    (start : RunResult) (buf : List ℕ) → start.answer ≡ Accepted → Reached start 0 (turn_with turn.More start 0) buf
unfolding list_answer
reached_none start buf a =
    record {
      input = [];
      fed =
          record {
            is = rw (add-zero start.records, add-zero start.files, add-zero start.bytes, ← a);
            accepted = a;
            unrun = refl;
          };
      more = refl;
      size = refl;
      few = omega arith;
      long = omega arith;
    }

module _ {start : RunResult} {turns : ℕ} {last next : TurnResult} {buf after : List ℕ} (r : Reached start turns last buf)
    (ran : TurnRun last.day (take last.kept buf) next after) where
  abbrev left : List ℕ
  left = take last.kept buf

  abbrev new : List ℕ
  new = drop (length left) ran.bytes

  left_first : ran.bytes ≡ left ++ new
  left_first = sym (take-append-drop (length left) ran.bytes) ∙ ap (λ (l : List ℕ). l ++ new) ran.first

  pub reached_more : has_more next.end ≡ true → Reached start (turns + 1) next after
  reached_more h =
      let turned = ran.turned in
      let s = last.day.session in
      let m = more_ran last.day (length left) ran.bytes next turned h in
      let kept : take next.kept after ≡ left_of s ran.bytes = ran.moved.0 h in
      let few = run_leaves_few [] s true ran.bytes m.1 in
      let count : next.kept ≡ length (left_of s ran.bytes) = ap (λ (t : TurnResult). t.kept) m.0 in
      let fed-next = fed_on r.fed new ran.bytes left_first (ap day_of m.0) (ap answer_of (ap day_of m.0) ∙ m.1) in
      record {
        input = r.input ++ new;
        fed = subst (λ (l : List ℕ). Fed start (r.input ++ new) next.day l) (sym kept) fed-next;
        more = ap end_of m.0;
        size = ap length kept ∙ sym count;
        few = omega (arith, few, count, length-drop (run_of [] s true ran.bytes).bytes ran.bytes);
        long =
            omega
            (arith, r.long, r.few, r.size, turned.whole, length-append r.input new, length-drop (length left) ran.bytes);
      }

-- A day that is over.

over_refused :
    (a : Answer) (day : RunResult) (kept : ℕ) → (more_unless_refused a day kept).end ≡ turn.Over
    → ((more_unless_refused a day kept).day ≡ day) × (a ≡ Accepted → ⊥)
over_refused Accepted day kept o = let z : ◌≡◌ {A = ℕ} 0 1 = cc in absurd (omega arith)
over_refused (Err refusal) day kept o = (refl, not_both (Err refusal) refl)

ended_over : (a : Answer) (day : RunResult) → day.answer ≡ a → (a ≡ Accepted → ⊥) → day ≡ ended_of day
ended_over Accepted day e n = absurd (n refl)
ended_over (Err refusal) day e n = ended_refused day e

-- a refused buffer is the same whether or not more may follow it
refused_last :
    (day : RunResult) (bytes : List ℕ) → ((run_buffer_of day true bytes).answer ≡ Accepted → ⊥)
    → run_buffer_of day true bytes ≡ run_buffer_of day false bytes
refused_last day bytes a = refused_then day false bytes [] a ∙ ap (run_buffer_of day false) (append-nil bytes)

module _ (bytes : List ℕ) (t : TurnResult) {day : RunResult} {before left : List ℕ} (fed : Fed fresh_day before day left)
    (first : take (length left) bytes ≡ left) (whole : length bytes ≡ buffer_length) (o : t.end ≡ turn.Over) where
  within : length left ≤ buffer_length
  within = let l = ap length (sym first) in omega (arith, l, length-take (length left) bytes, whole)

  -- n bytes behind those left
  with_left : (n : ℕ) → take (length left + n) bytes ≡ left ++ take n (drop (length left) bytes)
  with_left n =
      take-add (length left) n bytes ∙ ap (λ (l : List ℕ). l ++ take n (drop (length left) bytes)) first

  over_read :
      (read : BufferRead) → EndsBelow (buffer_length - length left) read → t ≡ turn_of day (length left) bytes read
      → DayOfInput before (length left) bytes t.day
  over_read buffer.Full w e =
      let d = run_buffer_of day true bytes in
      let n = buffer_length - length left in
      let over = over_refused d.answer d (length (left_of day.session bytes)) (ap end_of (sym e) ∙ o) in
      let refused = over.1 in
      let all : bytes ≡ left ++ take n (drop (length left) bytes) =
      sym (take_all (length left + n) bytes (omega (arith, whole))) ∙ with_left n in
      record {
        n = n;
        within = omega (arith, within);
        is =
            ap day_of e ∙ over.0 ∙ ended_over d.answer d refl refused
            ∙ ap ended_of (refused_last day bytes refused ∙ fed_runs fed (take n (drop (length left) bytes)) bytes all false);
      }
  over_read (buffer.Ended n) w e =
      let new = take n (drop (length left) bytes) in
      record {
        n = n;
        within = omega (arith, w);
        is = ap day_of e ∙ ap ended_of (fed_runs fed new (take (length left + n) bytes) (with_left n) false);
      }
  over_read (buffer.Failed why) w e =
      let m : turn.Failed why ≡ turn.Over = ap end_of (sym e) ∙ o in
      let z : ◌≡◌ {A = ℕ} 0 1 = cc in
      absurd (omega arith)

over_last :
    (bytes : List ℕ) (t : TurnResult) {day : RunResult} {before left : List ℕ} → Fed fresh_day before day left
    → t.end ≡ turn.Over
    → ((input_limit ≤ length before) × (t ≡ turn_with turn.More day (length left)))
    ⊎ ((has_more t.end ≡ false) × (take (length left) bytes ≡ left) × TurnOf day (length left) bytes t)
    → DayOfInput before (length left) bytes t.day
over_last bytes t fed o (inl m) =
    let e : turn.More ≡ turn.Over = ap end_of (sym m.1) ∙ o in
    let z : ◌≡◌ {A = ℕ} 0 1 = cc in
    absurd (omega arith)
over_last bytes t fed o (inr m) =
    let turned = m.2 in
    over_read bytes t fed m.1 turned.whole o turned.read turned.below turned.is

pub over_is_the_inputs : OverIsTheInputs
over_is_the_inputs bytes t run o = over_last bytes t run.fed o run.last
