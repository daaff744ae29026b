use native.Mathlib.Omega.{arith}
use borrow.Author.Tests.{le-leb, lt-leb}
use Rattle.barcode.proofs.parts.is_kind.Goals as goal

pub returns-then-kind-ge6 : goal.returns-then-kind-ge6
returns-then-kind-ge6 c = simp (le-leb 6 c.args.kind (omega arith))

pub returns-else-kind-ge6 : goal.returns-else-kind-ge6
returns-else-kind-ge6 c = simp (lt-leb 6 c.args.kind (omega arith))
