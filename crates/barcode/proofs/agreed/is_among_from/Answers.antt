use mathlib.Core.Path.{sym}
use Rattle.barcode.proofs.Lists.{lower_not_among}
use Rattle.barcode.proofs.agreed.is_among_from.Goals as goal

pub returns-then-key-lowest : goal.returns-then-key-lowest
returns-then-key-lowest c =
    sym (lower_not_among _ _ c.args.keys.now c.if-key-lowest.true c.requires)
