use native.Mathlib.Omega.{arith}
use Rattle.page.proofs.Steps.{printed_then}
use Rattle.page.specs.Pages.{lane_lines}
use Rattle.page.proofs.Cursor.lane.Goals as goal

pub returns : goal.returns
unfolding lane_lines
returns c =
    let fits = c.requires in
    let rest = printed_then (omega arith) c.issuer.ensures c.tally.ensures in
    printed_then (omega arith) c.line.ensures rest
