use mathlib.Core.Path.{refl}
use native.Mathlib.Omega.{arith}
use Rattle.quadro.specs.Buffers.{Ended}
use Rattle.quadro.proofs.Turns.{turn_last}
use Rattle.quadro.proofs.run_next_buffer.Goals as goal

pub returns-in-Ok-clause-turn_run : goal.returns-in-Ok-clause-turn_run
returns-in-Ok-clause-turn_run c =
    let read = c.read_behind in
    let turn = c.args.turn in
    turn_last turn.day turn.kept c.args.buf.now read.new.buf (Ended c.in-Ok.n) (omega arith)
    read.ensures.left (omega arith) (omega arith) (rw (c.finish_day.ensures, c.run_buffer.ensures.value)) refl
