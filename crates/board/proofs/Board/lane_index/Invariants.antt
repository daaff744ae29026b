use Rattle.board.proofs.Searches.{Searched}
use Rattle.board.proofs.Board.lane_index.Given as goal

abbrev pub invariant-loop-i : goal.invariant-loop-i
invariant-loop-i l = Searched l.self l.issuer l.end l.i
