use mathlib.Core.Path.{◌≡◌}
use lib.ListN.{drop}
use Rattle.decimal.specs.LowHalves.{low_from}
use Rattle.decimal.proofs.low_number.Given as goal

abbrev pub invariant-loop-b : goal.invariant-loop-b
invariant-loop-b l = low_from l.n (drop l.b-index l.part) ≡ low_from 0 l.part
