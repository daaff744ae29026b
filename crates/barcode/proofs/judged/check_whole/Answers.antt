use Rattle.barcode.proofs.Codes.{good}
use Rattle.barcode.proofs.Shown.{under_due}
use Rattle.barcode.proofs.judged.check_whole.Goals as goal

pub check_due-requires : goal.check_due-requires
check_due-requires c =
    (good c.args.code.now (c.is_accepted.ensures.0 c.if-is_accepted.true)).digits

pub returns-then-is_accepted : goal.returns-then-is_accepted
returns-then-is_accepted c =
    let a = c.args in
    under_due a.agreed.now a.code.now (c.is_accepted.ensures.0 c.if-is_accepted.true) c.check_due.ensures
