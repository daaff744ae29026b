use Rattle.session.proofs.Session.abandon.Goals as goal

pub returns-then-self : goal.returns-then-self
returns-then-self c = rw c.if-self.true c.closed_at.ensures
