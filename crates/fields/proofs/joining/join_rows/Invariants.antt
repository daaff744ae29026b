use lib.ListN.{length, drop}
use Rattle.layout.specs.Layouts.{joined_of}
use Rattle.fields.proofs.Joins.{Joining}
use Rattle.fields.proofs.joining.join_rows.Given as goal

abbrev pub invariant-loop-f : goal.invariant-loop-f
invariant-loop-f l =
    Joining (drop l.f-index l.f-items) l.rec l.out l.at (length l.initial.out) (joined_of l.fn.which l.rec)
