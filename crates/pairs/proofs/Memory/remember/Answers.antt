use native.Mathlib.Omega.{arith}
use borrow.Author.Tests.{lt-ltb, le-ltb}
use Rattle.pairs.specs.Pairs.{most_pairs, pairs_of, index_of, memory_with}
use Rattle.pairs.proofs.Memory.remember.Goals as goal

pub returns-then-at-ge-PAIRS : goal.returns-then-at-ge-PAIRS
unfolding memory_with
returns-then-at-ge-PAIRS c =
    let a = c.args in
    rw (le-ltb (index_of a.pair (pairs_of a.self)) most_pairs (omega (arith, c.pair_index-at.ensures, c.if-at-ge-PAIRS.true)))

pub returns-then-self-at : goal.returns-then-self-at
unfolding memory_with
returns-then-self-at c =
    let a = c.args in
    let at = c.pair_index-at in
    rw (← at.ensures, lt-ltb at.result most_pairs c.if-at-ge-PAIRS.false, le-ltb at.result a.self.used (omega (arith, c.if-self-at.true)))

pub returns-else-self-at : goal.returns-else-self-at
unfolding memory_with
returns-else-self-at c =
    let a = c.args in
    let at = c.pair_index-at in
    rw (← at.ensures, lt-ltb at.result most_pairs c.if-at-ge-PAIRS.false, lt-ltb at.result a.self.used (omega (arith, c.if-self-at.false)))
