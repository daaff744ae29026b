use Prim.Native.Nat.{ℕ, ◌+◌}
use mathlib.Core.Path.{ap}
use native.Mathlib.Omega.{arith}
use borrow.Author.Rules.{rules}
use Rattle.layout.specs.Layouts.{row}
use Rattle.layout.specs.declared.Kind.TheVariants.{Mark}
use Rattle.fields.proofs.Joins.{at_row, at_end, begin, in_field, on}
use Rattle.record.proofs.Walks.{in_order, in_table, part_placed, rows_here}
use Rattle.fields.proofs.joining.join_rows.Goals as goal

pub offset_bounds-table-rows : goal.offset_bounds-table-rows
offset_bounds-table-rows c = omega (arith, in_order _ c.table-table.ensures c.rows_of-rows.ensures, in_table _ c.table-table.ensures c.rows_of-rows.ensures)

pub slice_bounds-f-items-count : goal.slice_bounds-f-items-count
slice_bounds-f-items-count c = in_order _ c.table-table.ensures c.rows_of-rows.ensures

pub slice_bounds-f-items-start : goal.slice_bounds-f-items-start
slice_bounds-f-items-start c = in_order _ c.table-table.ensures c.rows_of-rows.ensures

pub slice_bounds-f-items-end : goal.slice_bounds-f-items-end
slice_bounds-f-items-end c = in_table _ c.table-table.ensures c.rows_of-rows.ensures

pub loop-f-init : goal.loop-f-init
loop-f-init c = begin _ _ _ (rows_here _ c.table-table.ensures c.rows_of-rows.ensures) c.requires

pub given_width-requires : goal.given_width-requires
given_width-requires c = part_placed _ c.table-table.ensures c.rows_of-rows.ensures _ (row 0 0 (Mark 0)) c.loop-f-test.true

pub join_field-requires-clause-placed : goal.join_field-requires-clause-placed
join_field-requires-clause-placed c =
    let placed = part_placed _ c.table-table.ensures c.rows_of-rows.ensures _ (row 0 0 (Mark 0)) c.loop-f-test.true in
    (placed, in_field (at_row _ _ c.loop-f-test.true c.loop-f.invariant) placed)

pub loop-f-preserved : goal.loop-f-preserved
loop-f-preserved c =
    let here = at_row _ _ c.loop-f-test.true c.loop-f.invariant in
    let placed = part_placed _ c.table-table.ensures c.rows_of-rows.ensures _ (row 0 0 (Mark 0)) c.loop-f-test.true in
    let next = ap (λ (w : ℕ). c.loop-f.at + w) c.given_width.ensures in
    on here placed (search rules) next c.join_field.ensures

pub returns : goal.returns
returns c = at_end _ _ c.loop-f-test.false c.loop-f.invariant
