use mathlib.Core.Bool.{◌&&◌}
use mathlib.Core.Path.{◌≡◌}
use lib.Dec.{eqb}
use lib.ListN.{drop}
use Rattle.decimal.specs.Bytes.{is_of, all}
use Rattle.decimal.proofs.all_of.Given as goal

abbrev pub invariant-loop-b : goal.invariant-loop-b
invariant-loop-b l = (eqb l.flags 0 && all (is_of l.class) (drop l.b-index l.part)) ≡ all (is_of l.class) l.part
