use Rattle.decimal.proofs.Numbers.{width_zero, width_step}
use Rattle.decimal.proofs.fits_width.Goals as goal

pub returns-then-rest-eq0 : goal.returns-then-rest-eq0
returns-then-rest-eq0 c = width_zero _ _ c.if-rest-eq0.true c.loop.invariant

pub loop-preserved : goal.loop-preserved
loop-preserved c = width_step _ _ _ c.loop-test.true c.loop.invariant
