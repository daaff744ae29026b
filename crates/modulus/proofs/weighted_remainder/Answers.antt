use mathlib.Core.Path.{ap, ◌∙◌}
use native.Mathlib.Omega.{arith}
use Prim.Native.Nat.{◌%◌, min}
use lib.ListN.{length}
use Rattle.std.specs.Slice.Iter.{rchunks_rest}
use Rattle.modulus.proofs.Sums.{one_more_summed, summed_small, sum_small}
use Rattle.modulus.proofs.weighted_remainder.Goals as goal

pub overflow_add-sum : goal.overflow_add-sum
overflow_add-sum c =
    let few = c.in-Some.ensures.steps.1.1 in
    let so_far = summed_small c.loop-block.invariant.sum in
    let more = sum_small c.args.m (c.args.right % 8) c.in-Some.block.now in
    record { fits = rw c.short_sum.ensures (omega arith) }

pub loop-block-preserved : goal.loop-block-preserved
loop-block-preserved c =
    let l = c.loop-block in
    let step = c.in-Some.ensures.steps in
    record {
      size = step.0 ∙ l.invariant.size;
      sum = rw c.remainder-sum.ensures (one_more_summed l.invariant.sum c.in-Some.block.now _ step.1.0 (step.1.1 ∙ ap (λ n. min n (length (rchunks_rest l.block-iterator))) l.invariant.size) step.1.2 c.short_sum.ensures);
    }
