use Rattle.session.proofs.Session.closed_at.Goals as goal

pub returns : goal.returns
returns c = rw (c.new.ensures, c.none.ensures)
