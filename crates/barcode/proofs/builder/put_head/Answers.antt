use Prim.Native.Nat.{◌+◌}
use borrow.Author.Rules.{rules}
use Rattle.barcode.proofs.Building.{four_set}
use Rattle.barcode.proofs.builder.put_head.Goals as goal

pub returns : goal.returns
returns c = four_set c.args.code.now 56 (48 + c.args.segment) (48 + c.args.kind) 48 (search rules)
