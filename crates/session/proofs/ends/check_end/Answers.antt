use mathlib.Core.Logic.{⊎_elim}
use Rattle.file.specs.Forms.{end_answer}
use Rattle.session.proofs.ends.check_end.Goals as goal

pub returns-then-not-opened : goal.returns-then-not-opened
unfolding end_answer
returns-then-not-opened c = ⊎_elim (λ h. rw h) (λ h. rw (h.0, h.1)) c.then-not-opened.either

pub returns : goal.returns
unfolding end_answer
returns c = rw (c.if-not-opened.false, c.if-not-lined.false, c.require.ensures, c.has_line_end.ensures)
