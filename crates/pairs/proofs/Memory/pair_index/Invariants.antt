use Prim.Native.Nat.{◌+◌}
use mathlib.Core.Path.{◌≡◌}
use lib.ListN.{drop}
use Rattle.pairs.specs.Pairs.{pairs_of, index_of}
use Rattle.pairs.proofs.Memory.pair_index.Given as goal

abbrev pub invariant-loop-i : goal.invariant-loop-i
invariant-loop-i l = index_of l.pair (pairs_of l.self) ≡ l.i + index_of l.pair (drop l.i (pairs_of l.self))
