use mathlib.Core.Path.{◌≡◌}
use Rattle.std.specs.Slice.Iter.{rchunks_rest, rchunks_size}
use Rattle.modulus.proofs.Sums.{BlocksSummed}
use Rattle.modulus.proofs.weighted_remainder.Given as goal

abbrev pub invariant-loop-block : goal.invariant-loop-block
invariant-loop-block l = record {
  size : rchunks_size l.block-iterator ≡ 512;
  sum : BlocksSummed l.m l.right l.digits (rchunks_rest l.block-iterator) l.sum;
}
