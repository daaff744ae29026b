use mathlib.Core.Bool.{true}
use mathlib.Core.Path.{◌≡◌}
use lib.Dec.{leb}
use lib.ListN.{drop}
use Rattle.decimal.specs.Bytes.{all}
use Rattle.barcode.proofs.Lists.{each_once}
use Rattle.barcode.proofs.agreed.are_distinct_issuers.Given as goal

abbrev pub invariant-loop-i : goal.invariant-loop-i
invariant-loop-i l = (each_once (drop l.i l.keys) ≡ true) × (all (leb l.lowest) (drop l.i l.keys) ≡ true)
