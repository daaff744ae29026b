use native.Mathlib.Omega.{arith}
use Rattle.barcode.proofs.Codes.{issuer_end_range}
use Rattle.barcode.proofs.parts.issuer_end.Goals as goal

pub overflow_add-result : goal.overflow_add-result
overflow_add-result c =
    let range = issuer_end_range c.args.segment in
    record { fits = omega (arith, c.issuer_width.ensures) }

pub returns : goal.returns
returns c =
    let range = issuer_end_range c.args.segment in
    let e = c.issuer_width.ensures in
    record { value = omega arith; range = (omega arith, omega arith) }
