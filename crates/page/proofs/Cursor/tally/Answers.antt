use native.Mathlib.Omega.{arith}
use Rattle.page.proofs.Steps.{printed_then}
use Rattle.page.specs.Pages.{tally_lines}
use Rattle.page.proofs.Cursor.tally.Goals as goal

pub returns : goal.returns
unfolding tally_lines
returns c =
    let fits = c.requires in
    let rest = printed_then (omega arith) c.line-2.ensures c.line-3.ensures in
    printed_then (omega arith) c.line.ensures rest
