use mathlib.Core.Path.{◌∙◌}
use Rattle.session.proofs.Session.new.Goals as goal

pub returns : goal.returns
returns c = c.closed_at.ensures ∙ rw (c.new.ensures, c.new-2.ensures)
