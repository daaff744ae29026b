use mathlib.Core.Path.{ap, ◌∙◌}
use lib.ListN.{length}
use Rattle.record.proofs.FastPath.{last_sixteen}
use Rattle.record.proofs.fast.last_row.Goals as goal

pub returns : goal.returns
returns c =
    let last = last_sixteen c.args.part.now c.requires in
    (last.0, ap length last.0 ∙ last.1)
