use Prim.Native.Nat.{◌+◌, ◌-◌}
use native.Mathlib.Omega.{arith}
use borrow.Author.Tests.{le-leb, lt-leb}
use Rattle.board.proofs.Tallies.{room}
use Rattle.board.specs.Lanes.{limit}
use Rattle.board.proofs.one_lane.have_room.Goals as goal

pub returns-then-more-gt-TOTAL : goal.returns-then-more-gt-TOTAL
returns-then-more-gt-TOTAL c =
    let a = c.args in
    rw (lt-leb (a.lane + a.more) limit (omega arith))

pub returns-then-lane-most : goal.returns-then-lane-most
returns-then-lane-most c =
    let a = c.args in
    rw (le-leb (a.lane + a.more) limit (omega arith)) (room a.total a.more (omega arith))

pub returns-else-lane-most : goal.returns-else-lane-most
returns-else-lane-most c =
    let a = c.args in
    rw (lt-leb (a.lane + a.more) limit (omega arith)) (lt-leb a.lane (limit - a.more) (omega arith))
