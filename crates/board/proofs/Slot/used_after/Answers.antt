use borrow.Author.Tests.{lt-ltb, le-ltb}
use Rattle.board.specs.Boards.{used_after}
use Rattle.board.proofs.Slot.used_after.Goals as goal

pub returns-then-self : goal.returns-then-self
unfolding used_after
returns-then-self c = simp (lt-ltb _ _ c.if-self.true)

pub returns : goal.returns
unfolding used_after
returns c = simp (le-ltb _ _ c.if-self.false)
