use borrow.Author.Tests.{eq-eqb, ne_eqb}
use Rattle.barcode.proofs.parts.issuer_width.Goals as goal

pub returns-then-segment-eq6 : goal.returns-then-segment-eq6
returns-then-segment-eq6 c = simp (eq-eqb _ _ c.if-segment-eq6.true)

pub returns-else-segment-eq6 : goal.returns-else-segment-eq6
returns-else-segment-eq6 c = simp (ne_eqb _ _ c.if-segment-eq6.false)
