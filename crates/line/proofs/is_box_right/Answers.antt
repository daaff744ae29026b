use Rattle.line.proofs.Lines.{box_from}
use Rattle.line.proofs.is_box_right.Goals as goal

pub returns : goal.returns
returns c = box_from c.args.m c.args.line.now c.args.from c.check_byte.ensures
