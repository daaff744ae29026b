use Rattle.kinds.specs.Terms.{told}
use Rattle.hollytrot.proofs.Steps.{row_first, at_field}
use Rattle.hollytrot.proofs.records.hollytrot_record_field.Goals as goal

pub overflow_sub-shape : goal.overflow_sub-shape
overflow_sub-shape c = row_first c.args.row c.row-shape.ensures

pub returns : goal.returns
returns c =
    let a = c.args in
    at_field (told a.version a.agreed.now) a.row a.rec.now c.field-field.ensures c.row-shape.ensures c.c_part.ensures
