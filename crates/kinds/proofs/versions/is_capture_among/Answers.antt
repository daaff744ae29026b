use mathlib.Core.Path.{sym, ◌∙◌}
use Rattle.kinds.proofs.versions.is_capture_among.Goals as goal

pub returns-then-in_range : goal.returns-then-in_range
returns-then-in_range c = simp (sym c.in_range.ensures ∙ c.if-in_range.true) c.if-in_range.true

pub returns-else-in_range : goal.returns-else-in_range
returns-else-in_range c = simp (sym c.in_range.ensures ∙ c.if-in_range.false) c.in_range-else-in_range.ensures
