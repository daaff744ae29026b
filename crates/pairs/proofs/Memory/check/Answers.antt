use mathlib.Core.Path.{◌≡◌, ◌∙◌}
use native.Mathlib.Omega.{arith}
use borrow.Author.Rules.{rules}
use lib.ListN.{length}
use Rattle.pairs.specs.Pairs.{most_pairs}
use Rattle.pairs.proofs.Remembering.{check_known, check_new}
use Rattle.pairs.proofs.Memory.check.Goals as goal

pub returns-then-at-pairs_in_use : goal.returns-then-at-pairs_in_use
returns-then-at-pairs_in_use c =
    let a = c.args in
    let full : length a.self.pairs ≡ most_pairs = search rules in
    c.require.ensures
    ∙ check_known a.self full a.pair c.pair_index-at.ensures (omega (arith, c.pairs_in_use.ensures, c.if-at-pairs_in_use.true)) c.follows.ensures

pub returns : goal.returns
returns c =
    let a = c.args in
    let full : length a.self.pairs ≡ most_pairs = search rules in
    c.require-2.ensures
    ∙ check_new a.self full a.pair c.pair_index-at.ensures (omega (arith, c.pairs_in_use.ensures, c.if-at-pairs_in_use.false))
