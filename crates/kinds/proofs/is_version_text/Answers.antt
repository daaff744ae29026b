use Prim.Native.Nat.{◌≤◌}
use mathlib.Core.Path.{sym, ap, ◌∙◌}
use native.Mathlib.Omega.{arith}
use borrow.Author.Tests.{eq-eqb, ne_eqb}
use lib.ListN.{length}
use Rattle.decimal.proofs.Numbers.{nineteen_fit}
use Rattle.kinds.specs.Terms.{is_version}
use Rattle.kinds.specs.Kinds.{is_version_text}
use Rattle.kinds.proofs.is_version_text.Goals as goal

pub returns-then-part-ne2 : goal.returns-then-part-ne2
unfolding is_version_text
returns-then-part-ne2 c = simp (ne_eqb _ _ c.if-part-ne2.true)

pub returns-then-not-all_of : goal.returns-then-not-all_of
unfolding is_version_text
returns-then-not-all_of c =
    simp (eq-eqb _ _ c.if-part-ne2.false, sym c.all_of.ensures ∙ c.if-not-all_of.true)

pub returns : goal.returns
unfolding is_version_text
returns c =
    let part = c.args.part.now in
    let two : length part ≤ 19 = omega (arith, c.if-part-ne2.false) in
    simp (eq-eqb _ _ c.if-part-ne2.false, sym c.all_of.ensures ∙ c.if-not-all_of.false)
    (c.is_version.ensures ∙ ap is_version (c.number.ensures ∙ nineteen_fit part two))
