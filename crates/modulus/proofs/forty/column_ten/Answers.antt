use borrow.Author.Rules.{rules}
use Rattle.modulus.proofs.Columns.{column_once, column_twice}
use Rattle.modulus.proofs.forty.column_ten.Goals as goal

pub returns-then-i-eq0-clause-value : goal.returns-then-i-eq0-clause-value
returns-then-i-eq0-clause-value c =
    let a = c.args in
    column_once a.i a.a a.b a.c (search rules) c.if-i-eq0.true

pub returns-clause-value : goal.returns-clause-value
returns-clause-value c =
    let a = c.args in
    column_twice a.i a.a a.b a.c (search rules) c.carry.ensures.value c.carry-2.ensures.value c.carry-3.ensures.value c.if-i-eq0.false
