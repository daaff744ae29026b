use Prim.Native.Nat.{◌+◌}
use native.Mathlib.Omega.{arith}
use Rattle.calendar.proofs.Dates.{digit_at_holds, two}
use Rattle.calendar.proofs.pair.Goals as goal

pub overflow_sub-result : goal.overflow_sub-result
overflow_sub-result c = (digit_at_holds c.args.bytes.now c.args.at c.requires.1 (omega (arith, c.requires.0))).0

pub overflow_mul-result : goal.overflow_mul-result
overflow_mul-result c =
    let d = digit_at_holds c.args.bytes.now c.args.at c.requires.1 (omega (arith, c.requires.0)) in
    record { fits = omega (arith, d.1) }

pub overflow_sub-result-2 : goal.overflow_sub-result-2
overflow_sub-result-2 c = (digit_at_holds c.args.bytes.now (c.args.at + 1) c.requires.1 (omega (arith, c.requires.0))).0

pub overflow_add-result-2 : goal.overflow_add-result-2
overflow_add-result-2 c =
    let a = c.args in
    let d = digit_at_holds a.bytes.now a.at c.requires.1 (omega (arith, c.requires.0)) in
    let e = digit_at_holds a.bytes.now (a.at + 1) c.requires.1 (omega (arith, c.requires.0)) in
    record { fits = omega (arith, d.1, e.1) }

pub returns : goal.returns
returns c =
    let a = c.args in
    let d = digit_at_holds a.bytes.now a.at c.requires.1 (omega (arith, c.requires.0)) in
    let e = digit_at_holds a.bytes.now (a.at + 1) c.requires.1 (omega (arith, c.requires.0)) in
    record { value = omega (arith, d.2, e.2, two a.bytes.now a.at c.requires.0); small = omega (arith, d.1, e.1) }
