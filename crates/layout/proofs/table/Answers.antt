use mathlib.Core.Path.{refl}
use Rattle.layout.specs.Layouts.{table, layout_of}
use Rattle.layout.proofs.table.Goals as goal

pub returns : goal.returns
unfolding table layout_of
returns c = refl
