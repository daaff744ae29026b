use Rattle.barcode.proofs.Codes.{good}
use Rattle.barcode.proofs.judged.accepted_issuer.Goals as goal

pub check_due-requires : goal.check_due-requires
check_due-requires c = (good _ (c.is_accepted.ensures.0 c.if-not-is_accepted.false)).digits

pub issuer_of-requires : goal.issuer_of-requires
issuer_of-requires c = (good _ (c.is_accepted.ensures.0 c.if-not-is_accepted.false)).digits
