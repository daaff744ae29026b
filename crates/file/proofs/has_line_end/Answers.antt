use borrow.Author.Tests.{eq-eqb, ne_eqb}
use Rattle.file.specs.Forms.{has_line_end}
use Rattle.file.proofs.Forms.{by_last}
use Rattle.file.proofs.has_line_end.Goals as goal

pub returns-then-bytes-ne-LINED : goal.returns-then-bytes-ne-LINED
unfolding has_line_end
returns-then-bytes-ne-LINED c = simp (ne_eqb _ _ c.if-bytes-ne-LINED.true)

pub returns-then-bytes-ne-CR : goal.returns-then-bytes-ne-CR
unfolding has_line_end
returns-then-bytes-ne-CR c = simp (eq-eqb _ _ c.if-bytes-ne-LINED.false, ne_eqb _ _ c.if-bytes-ne-CR.true)

pub returns : goal.returns
returns c = by_last _ c.if-bytes-ne-LINED.false c.if-bytes-ne-CR.false
