use native.Mathlib.Omega.{arith}
use Rattle.hollytrot.proofs.Steps.{free_few, at_free}
use Rattle.hollytrot.proofs.barcodes.hollytrot_barcode_free_field.Goals as goal

pub overflow_sub-length : goal.overflow_sub-length
overflow_sub-length c = let a = c.args in omega (arith, free_few a.agreed.now a.code.now c.free_field-free.ensures)

pub returns : goal.returns
returns c =
    let a = c.args in
    at_free a.agreed.now a.code.now c.free_field-free.ensures c.c_part.ensures
