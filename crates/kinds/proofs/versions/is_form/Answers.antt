use mathlib.Core.Path.{sym}
use borrow.Author.Tests.{eq-eqb, ne_eqb}
use Rattle.kinds.specs.Terms.{version04, version06}
use Rattle.kinds.specs.Kinds.{is_form}
use Rattle.kinds.proofs.VersionLaws.{no_form}
use Rattle.kinds.proofs.versions.is_form.Goals as goal

pub returns-then-version-eq-VERSION_04 : goal.returns-then-version-eq-VERSION_04
unfolding is_form
returns-then-version-eq-VERSION_04 c = rw (eq-eqb _ version04 c.if-version-eq-VERSION_04.true) c.in_range.ensures

pub returns-then-version-eq-VERSION_06 : goal.returns-then-version-eq-VERSION_06
unfolding is_form
returns-then-version-eq-VERSION_06 c = rw (ne_eqb _ version04 c.if-version-eq-VERSION_04.false, eq-eqb _ version06 c.if-version-eq-VERSION_06.true) c.in_range-then-version-eq-VERSION_06.ensures

pub returns : goal.returns
unfolding is_form
returns c = rw (ne_eqb _ version04 c.if-version-eq-VERSION_04.false, ne_eqb _ version06 c.if-version-eq-VERSION_06.false) (sym (no_form c.args.b))
