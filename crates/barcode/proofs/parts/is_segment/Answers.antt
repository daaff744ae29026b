use mathlib.Core.Bool.{or-true, or-false}
use borrow.Author.Tests.{eq-eqb, ne_eqb, le-leb, lt-leb}
use Rattle.barcode.proofs.parts.is_segment.Goals as goal

pub returns-then-segment-eq9 : goal.returns-then-segment-eq9
returns-then-segment-eq9 c = simp (eq-eqb _ _ c.if-segment-eq9.true, or-true)

pub returns-then-segment-ge1 : goal.returns-then-segment-ge1
returns-then-segment-ge1 c = simp (ne_eqb _ _ c.if-segment-eq9.false, le-leb _ _ c.if-segment-ge1.true, or-false)

pub returns-else-segment-ge1 : goal.returns-else-segment-ge1
returns-else-segment-ge1 c = simp (ne_eqb _ _ c.if-segment-eq9.false, lt-leb _ _ c.if-segment-ge1.false)
