use native.Mathlib.Omega.{arith}
use mathlib.Core.Path.{sym, ◌∙◌}
use Rattle.std.proofs.lemmas.Result.{err_from_is_err_and}
use Rattle.record.proofs.Walks.{later, here, none, in_order, in_table, part_placed, walked}
use Rattle.record.proofs.walk.layout_answer.Goals as goal

pub offset_bounds-table-rows : goal.offset_bounds-table-rows
offset_bounds-table-rows c = omega (arith, in_order _ c.table-table.ensures c.rows_of-rows.ensures, in_table _ c.table-table.ensures c.rows_of-rows.ensures)

pub slice_bounds-f-items-count : goal.slice_bounds-f-items-count
slice_bounds-f-items-count c = in_order _ c.table-table.ensures c.rows_of-rows.ensures

pub slice_bounds-f-items-start : goal.slice_bounds-f-items-start
slice_bounds-f-items-start c = in_order _ c.table-table.ensures c.rows_of-rows.ensures

pub slice_bounds-f-items-end : goal.slice_bounds-f-items-end
slice_bounds-f-items-end c = in_table _ c.table-table.ensures c.rows_of-rows.ensures

pub loop-f-init : goal.loop-f-init
loop-f-init c = walked _ c.table-table.ensures c.rows_of-rows.ensures _ _

pub field_answer-requires : goal.field_answer-requires
field_answer-requires c = part_placed _ c.table-table.ensures c.rows_of-rows.ensures _ _ c.loop-f-test.true

pub loop-f-preserved : goal.loop-f-preserved
loop-f-preserved c = later _ _ _ _ c.loop-f-test.true (sym c.field_answer.ensures ∙ c.in_ok-field_answer.was) c.loop-f.invariant

pub returns-in_err-field_answer : goal.returns-in_err-field_answer
returns-in_err-field_answer c =
    let p = err_from_is_err_and c.from_residual.result c.from_residual.ensures.1 in
    rw (p.1, p.2) (sym c.in_err-field_answer.was ∙ here _ _ _ _ c.loop-f-test.true c.field_answer.ensures c.in_err-field_answer.was c.loop-f.invariant)

pub returns : goal.returns
returns c = none _ _ _ c.loop-f-test.false c.loop-f.invariant
