use Rattle.std.specs.Prelude.{Err}
use mathlib.Core.Path.{◌≡◌, refl}
use borrow.Author.Rules.{rules}
use Rattle.answer.specs.Answers.{Accepted}
use Rattle.answer.specs.Orders.{moved_by, capped_behind}
use native.Mathlib.Omega.{arith}
use Rattle.fields.proofs.Makes.{at_row, at_end, ends, placed, fits_part, refuses, step, start}
use Rattle.record.proofs.Walks.{in_order, in_table, rows_here}
use Rattle.fields.proofs.making.make_rows.Goals as goal

pub offset_bounds-table-rows : goal.offset_bounds-table-rows
offset_bounds-table-rows c = omega (arith, in_order _ c.table-table.ensures c.rows_of-rows.ensures, in_table _ c.table-table.ensures c.rows_of-rows.ensures)

pub slice_bounds-f-items-count : goal.slice_bounds-f-items-count
slice_bounds-f-items-count c = in_order _ c.table-table.ensures c.rows_of-rows.ensures

pub slice_bounds-f-items-start : goal.slice_bounds-f-items-start
slice_bounds-f-items-start c = in_order _ c.table-table.ensures c.rows_of-rows.ensures

pub slice_bounds-f-items-end : goal.slice_bounds-f-items-end
slice_bounds-f-items-end c = in_table _ c.table-table.ensures c.rows_of-rows.ensures

pub loop-f-init : goal.loop-f-init
loop-f-init c =
    start _ _ _ _ _ (rows_here _ c.table-table.ensures c.rows_of-rows.ensures) (search rules) c.requires

pub given_width-requires : goal.given_width-requires
given_width-requires c = placed (at_row _ _ c.loop-f-test.true c.loop-f.invariant)

pub slice_bounds-field-end : goal.slice_bounds-field-end
slice_bounds-field-end c = let here = at_row _ _ c.loop-f-test.true c.loop-f.invariant in omega (arith, (ends here).1, here.size)

pub put_field-requires : goal.put_field-requires
put_field-requires c =
    fits_part (at_row _ _ c.loop-f-test.true c.loop-f.invariant) c.given_width.ensures c.amount_at-amount.result

pub loop-f-preserved : goal.loop-f-preserved
loop-f-preserved c =
    let here = at_row _ _ c.loop-f-test.true c.loop-f.invariant in
    let put = c.put_field.ensures in
    let accepted : c.put_field.result ≡ Accepted = search rules in
    step here c.given_width.ensures c.amount_at-amount.ensures put.answer accepted refl c.used_after-used.ensures (put.bytes accepted)

pub returns-in-Err-clause-answer : goal.returns-in-Err-clause-answer
returns-in-Err-clause-answer c =
    let here = at_row _ _ c.loop-f-test.true c.loop-f.invariant in
    let moved : Err c.behind.result ≡ moved_by (capped_behind _) c.put_field.result = rw (c.in-Err.is, c.behind.ensures) in
    refuses here c.given_width.ensures c.amount_at-amount.ensures c.put_field.ensures.answer c.in-Err.is moved

pub returns : goal.returns
returns c = let ended = at_end _ _ c.loop-f-test.false c.loop-f.invariant in record { answer = ended.0; bytes = λ h. ended.1 }
