use Prim.Native.Nat.{◌≤◌}
use mathlib.Core.Path.{◌≡◌}
use lib.ListN.{drop}
use Rattle.decimal.specs.Numbers.{number_from, number_of, largest_number, capped}
use Rattle.decimal.proofs.long_number.Given as goal

abbrev pub invariant-loop-b : goal.invariant-loop-b
invariant-loop-b l = (l.n ≤ largest_number) × (capped (number_from l.n (drop l.b-index l.part)) ≡ capped (number_of l.part))
