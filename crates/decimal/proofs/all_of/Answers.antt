use Rattle.decimal.proofs.Bytes.{flag_step}
use Rattle.decimal.specs.Bytes.{is_of}
use Rattle.decimal.proofs.all_of.Goals as goal

pub loop-b-preserved : goal.loop-b-preserved
loop-b-preserved c =
    let l = c.loop-b in
    flag_step (is_of c.args.class) c.args.part.now l.b-index l.flags c.loop-b-test.true c.class_error_bit-flags.ensures l.invariant
