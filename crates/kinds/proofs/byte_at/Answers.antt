use mathlib.Core.Path.{sym}
use lib.ListN.{get_or-eq_default}
use Rattle.kinds.proofs.byte_at.Goals as goal

pub returns-else-i-part : goal.returns-else-i-part
returns-else-i-part c = sym (get_or-eq_default c.args.part.now 0 c.if-i-part.false)
