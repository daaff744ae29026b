use Rattle.modulus.proofs.Columns.{no_sum, both_sums_holds}
use Rattle.modulus.proofs.forty.sums_of_forty.Goals as goal

pub returns-then-sums-ne0 : goal.returns-then-sums-ne0
returns-then-sums-ne0 c =
    no_sum c.args.digits.now c.if-digits-ne40.false _ c.add_columns-sums.ensures.digits c.if-sums-ne0.true

pub returns : goal.returns
returns c =
    let told = c.add_columns-sums.ensures in
    both_sums_holds c.args.digits.now c.if-digits-ne40.false _ told.digits c.if-sums-ne0.false told.tens told.elevens
