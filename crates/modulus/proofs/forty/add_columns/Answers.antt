use Rattle.modulus.specs.declared.Modulus.TheVariants.{Ten, Eleven}
use Rattle.modulus.proofs.Columns.{digits_step, sum_goes}
use borrow.Author.Rules.{rules}
use Rattle.modulus.proofs.forty.add_columns.Goals as goal

pub loop-i-preserved : goal.loop-i-preserved
loop-i-preserved c =
    let x = c.args.x.now in
    let y = c.args.y.now in
    let z = c.args.z.now in
    let p = c.requires in
    let l = c.loop-i in
    let more = c.loop-i-test.true in
    let low = c.low_half-a.ensures.value in
    let low2 = c.low_half-b.ensures.value in
    let late = c.last_row_value-c.ensures.value in (
      search rules,
      search rules,
      digits_step x y z p.0 p.1 p.2 l.i more l.error c.column_error_bit-error.ensures l.invariant.2,
      λ d. (
        sum_goes x y z p.0 p.1 p.2 l.i more Ten l.tens d low low2 late c.column_ten-tens.ensures.value (l.invariant.3 d).0,
        sum_goes x y z p.0 p.1 p.2 l.i more Eleven l.elevens d low low2 late (λ _ _ _. c.column_eleven-elevens.ensures.value) (l.invariant.3 d).1,
      ),
    )
