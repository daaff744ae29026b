use Prim.Native.Nat.{◌+◌}
use mathlib.Core.Path.{◌≡◌}
use lib.ListN.{drop}
use Rattle.decimal.specs.Bytes.{is_of, each_is}
use Rattle.decimal.proofs.search.Given as goal

abbrev pub invariant-loop-i : goal.invariant-loop-i
invariant-loop-i l = each_is (is_of l.class) l.why (l.i + 1) (drop l.i l.part) ≡ each_is (is_of l.class) l.why 1 l.part
