use borrow.Author.Tests.{eq-eqb, ne_eqb}
use Rattle.kinds.proofs.is_spelling.Goals as goal

pub returns-then-second-eq79 : goal.returns-then-second-eq79
returns-then-second-eq79 c = simp (eq-eqb _ _ c.if-second-eq79.true)

pub returns-else-second-eq79 : goal.returns-else-second-eq79
returns-else-second-eq79 c = simp (ne_eqb _ _ c.if-second-eq79.false)
