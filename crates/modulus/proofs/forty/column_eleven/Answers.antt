use borrow.Author.Rules.{rules}
use Rattle.modulus.proofs.Columns.{column_weighed}
use Rattle.modulus.proofs.forty.column_eleven.Goals as goal

pub returns-clause-value : goal.returns-clause-value
returns-clause-value c = column_weighed c.args.i c.args.a c.args.b c.args.c (search rules)
