use native.Mathlib.Omega.{arith}
use Rattle.record.proofs.FastPath.{rows_step}
use Rattle.record.proofs.fast.rows_hold.Goals as goal

pub loop-i-preserved : goal.loop-i-preserved
loop-i-preserved c =
    let a = c.args in
    let l = c.loop-i in
    rows_step a.a.now a.b.now a.c.now a.d.now a.e.now a.f.now c.requires l.i l.flags (omega arith) c.column_error_bit-flags.ensures l.invariant
