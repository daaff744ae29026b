use native.Mathlib.Omega.{arith}
use borrow.Author.Rules.{rules}
use Rattle.barcode.proofs.Codes.{issuer_end_range, segment_small, kind_small}
use Rattle.barcode.proofs.Building.{ranges_of, pieces}
use Rattle.barcode.proofs.builder.put_fields.Goals as goal

pub put_head-requires : goal.put_head-requires
put_head-requires c =
    let fit = ranges_of _ _ _ _ c.requires in
    (segment_small _ fit.segment, kind_small _ fit.kinds)

pub overflow_add-width : goal.overflow_add-width
overflow_add-width c =
    let range = issuer_end_range c.args.issuer.segment in
    record { fits = omega (arith, c.issuer_width-width.ensures) }

pub returns : goal.returns
returns c =
    let a = c.args in
    let fit = ranges_of _ _ _ _ c.requires in
    pieces a.issuer a.kind a.value a.free.now a.code.now fit (search rules) c.issuer_width-width.ensures c.put_head.ensures
    c.put_number.ensures.answer c.put_number.ensures.bytes c.put_number-2.ensures.answer c.put_number-2.ensures.bytes c.put.ensures
