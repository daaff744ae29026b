use native.Mathlib.Omega.{arith}
use Rattle.page.proofs.Pages.{lanes_start, lanes_turn}
use Rattle.page.proofs.Cursor.lanes.Goals as goal

pub loop-i-init : goal.loop-i-init
loop-i-init c = lanes_start c.args.lanes.now c.args.self.now c.requires.1

pub loop-i-preserved : goal.loop-i-preserved
loop-i-preserved c =
    let a = c.args in
    lanes_turn a.lanes.now a.self.now c.requires.1 (omega arith) (omega arith) c.loop-i.invariant c.lane.ensures
