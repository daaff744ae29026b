use Prim.Native.Nat.{◌*◌}
use lib.ListN.{take}
use Rattle.page.specs.Pages.{lanes_lines, most_lane}
use Rattle.page.specs.Pieces.{Printed}
use Rattle.page.proofs.Cursor.lanes.Given as goal

abbrev pub invariant-loop-i : goal.invariant-loop-i
invariant-loop-i l =
    Printed (l.i * most_lane) (lanes_lines 1 (take l.i l.lanes)) l.initial.self l.self
