use mathlib.Core.Path.{sym, ◌∙◌}
use native.Mathlib.Omega.{arith}
use Rattle.quadro.proofs.Inputs.{reached_none, reached_more}
use Rattle.quadro.proofs.run_turns.Goals as goal

pub loop-init : goal.loop-init
loop-init c = (c.requires.0, reached_none c.args.day c.args.buf.now c.requires.1)

pub loop-preserved : goal.loop-preserved
loop-preserved c =
    let more = sym c.has_more.ensures ∙ c.if-not-has_more.false in
    let ran = c.run_next_buffer-turn.ensures in
    let before = c.loop.invariant.0 in
    let grown = ran.bounded in (
      (omega (arith, before.0, grown.0), omega (arith, before.1, grown.1), omega (arith, before.2, grown.2)),
      reached_more c.loop.invariant.1 ran.turn_run more,
    )
