use Rattle.decimal.proofs.Numbers.{read_step}
use Rattle.decimal.proofs.long_number.Goals as goal

pub loop-b-preserved : goal.loop-b-preserved
loop-b-preserved c =
    let l = c.loop-b in
    read_step c.args.part.now l.b-index l.n c.loop-b-test.true c.value.ensures c.with_digit-n.ensures l.invariant.1
