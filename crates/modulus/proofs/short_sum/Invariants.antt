use Prim.Native.Nat.{◌+◌, ◌*◌, ◌≤◌}
use mathlib.Core.Path.{◌≡◌}
use lib.ListN.{drop}
use Rattle.modulus.specs.Checks.{weighted_sum}
use Rattle.modulus.proofs.short_sum.Given as goal

abbrev pub invariant-loop-i : goal.invariant-loop-i
invariant-loop-i l =
    (l.sum ≤ 81 * l.i) × (l.sum + weighted_sum l.m l.right (drop l.i l.digits) ≡ weighted_sum l.m l.right l.digits)
