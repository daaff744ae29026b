use lib.ListN.{get_or-eq_default}
use Rattle.barcode.proofs.Codes.{no_digit}
use Rattle.barcode.proofs.parts.digit.Goals as goal

pub returns-else-i-l : goal.returns-else-i-l
returns-else-i-l c = rw (get_or-eq_default c.args.l.now 0 c.if-i-l.false) no_digit
