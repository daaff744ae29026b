use borrow.Author.Tests.{eq-eqb, ne_eqb}
use Rattle.kinds.proofs.versions.is_version.Goals as goal

pub returns-then-version-eq-VERSION_04 : goal.returns-then-version-eq-VERSION_04
returns-then-version-eq-VERSION_04 c = simp (eq-eqb _ _ c.if-version-eq-VERSION_04.true)

pub returns-else-version-eq-VERSION_04 : goal.returns-else-version-eq-VERSION_04
returns-else-version-eq-VERSION_04 c = simp (ne_eqb _ _ c.if-version-eq-VERSION_04.false)
