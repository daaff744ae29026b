use mathlib.Core.Path.{sym, ◌∙◌}
use borrow.Author.Tests.{lt-ltb, le-ltb}
use Rattle.board.specs.Searches.{search_range_of}
use Rattle.board.proofs.searching.search_range.Goals as goal
use Rattle.board.proofs.searching.search_range.Goals.{then-guess-used+else-is_of, else-guess-used}

pub returns-then-is_of : goal.returns-then-is_of
unfolding search_range_of
returns-then-is_of c = simp (lt-ltb _ _ c.if-guess-used.true, sym c.is_of.ensures ∙ c.if-is_of.true)

pub returns : goal.returns
unfolding search_range_of
returns c =
    elim c.if-guess-used.branch [
      | then-guess-used+else-is_of w ↦ simp (lt-ltb _ _ w.if-guess-used.true, sym w.is_of.ensures ∙ w.if-is_of.false, c.lanes_in_use.ensures)
      | else-guess-used w ↦ simp (le-ltb _ _ w.if-guess-used.false, c.lanes_in_use.ensures)
    ]
