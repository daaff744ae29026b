use mathlib.Core.Path.{◌∙◌}
use native.Mathlib.Omega.{arith}
use Rattle.decimal.proofs.Numbers.{write_step, write_end}
use Rattle.decimal.proofs.put_digits.Goals as goal

pub loop-i-preserved : goal.loop-i-preserved
loop-i-preserved c = write_step _ _ _ (omega arith) (omega arith) ∙ c.loop-i.invariant

pub returns : goal.returns
returns c = write_end _ _ _ (omega arith) c.loop-i.invariant
