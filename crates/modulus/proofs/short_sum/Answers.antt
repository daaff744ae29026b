use Prim.Native.Nat.{◌+◌, ◌-◌}
use native.Mathlib.Omega.{arith}
use lib.ListN.{length, get_or}
use Rattle.modulus.proofs.Sums.{sum_step, term_small}
use Rattle.modulus.proofs.short_sum.Goals as goal

pub overflow_add-sum : goal.overflow_add-sum
overflow_add-sum c =
    let a = c.args in
    let i = c.loop-i.i in
    let small = term_small a.m (a.right + (length a.digits.now - 1 - i)) (get_or a.digits.now i 0) in
    record { fits = rw c.term-sum.ensures (omega arith) }

pub loop-i-preserved : goal.loop-i-preserved
loop-i-preserved c =
    let a = c.args in
    let l = c.loop-i in
    sum_step a.m a.right a.digits.now l.i l.sum c.loop-i-test.true c.term-sum.ensures l.invariant
