use native.Mathlib.Omega.{arith}
use Rattle.page.proofs.Steps.{printed_then}
use Rattle.page.specs.Pages.{number_line}
use Rattle.page.proofs.Cursor.line.Goals as goal

pub returns : goal.returns
unfolding number_line
returns c =
    let fits = c.requires in
    let rest = printed_then (omega arith) c.shown.ensures c.text-2.ensures in
    printed_then (omega arith) c.text.ensures rest
