use native.Mathlib.Omega.{arith}
use borrow.Author.Tests.{le-leb, lt-leb}
use Rattle.barcode.proofs.parts.modulus_of_kind.Goals as goal

pub returns-then-kind-le7 : goal.returns-then-kind-le7
returns-then-kind-le7 c = simp (le-leb c.args.kind 7 (omega arith))

pub returns-else-kind-le7 : goal.returns-else-kind-le7
returns-else-kind-le7 c = simp (lt-leb c.args.kind 7 (omega arith))
