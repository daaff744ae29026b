use Prim.Native.Nat.{◌+◌, ◌*◌}
use Rattle.quadro.specs.Buffers.{buffer_length, most_before, Counted}
use Rattle.quadro.proofs.Inputs.{Reached}
use Rattle.quadro.proofs.run_turns.Given as goal

abbrev pub invariant-loop : goal.invariant-loop
invariant-loop l =
    Counted (most_before + l.counter * buffer_length) l.turn.day × Reached l.initial.turn.day l.counter l.turn l.buf
