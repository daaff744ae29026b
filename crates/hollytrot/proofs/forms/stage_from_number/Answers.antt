use borrow.Author.Tests.{ne_eqb}
use Rattle.hollytrot.specs.Forms.{stage_of}
use Rattle.hollytrot.proofs.forms.stage_from_number.Goals as goal

pub returns-then-n-eq0 : goal.returns-then-n-eq0
unfolding stage_of
returns-then-n-eq0 c = rw c.if-n-eq0.true

pub returns-then-n-eq1 : goal.returns-then-n-eq1
unfolding stage_of
returns-then-n-eq1 c = rw c.if-n-eq1.true

pub returns : goal.returns
unfolding stage_of
returns c = rw (ne_eqb _ _ c.if-n-eq0.false, ne_eqb _ _ c.if-n-eq1.false)
