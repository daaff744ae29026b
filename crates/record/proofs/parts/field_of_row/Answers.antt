use mathlib.Core.Path.{sym, ◌∙◌}
use Rattle.record.proofs.Walks.{row_of_named}
use Rattle.record.proofs.parts.field_of_row.Goals as goal

pub field_bytes-requires : goal.field_bytes-requires
field_bytes-requires c =
    let has = sym c.has_row.ensures ∙ c.if-has_row.true in
    row_of_named c.named_by.result c.args.row has c.row.ensures

pub returns-then-has_row : goal.returns-then-has_row
returns-then-has_row c =
    let has = sym c.has_row.ensures ∙ c.if-has_row.true in
    rw (← c.named_by.ensures, has, ← c.row.ensures) c.field_bytes.ensures

pub returns-else-has_row : goal.returns-else-has_row
returns-else-has_row c = rw (← c.named_by.ensures, sym c.has_row.ensures ∙ c.if-has_row.false)
