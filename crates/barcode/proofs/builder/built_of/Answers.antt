use Rattle.barcode.proofs.Building.{ranges_of, finished}
use Rattle.barcode.proofs.builder.built_of.Goals as goal

pub returns : goal.returns
returns c =
    let a = c.args in
    let fit = ranges_of _ _ _ _ c.requires in
    finished a.issuer a.kind a.value a.free.now fit c.put_fields.ensures c.general_check-check.ensures.value
