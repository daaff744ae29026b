use Rattle.record.proofs.Exact.{not_whole_shown}
use Rattle.record.proofs.field.Goals as goal

pub returns-in_default : goal.returns-in_default
returns-in_default c = let h = c.in_default.is in not_whole_shown _ c.args.row c.args.rec.now c.whole.result c.whole.ensures.answer c.in_default.is
