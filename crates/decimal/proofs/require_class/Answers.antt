use mathlib.Core.Path.{sym, ◌∙◌}
use Rattle.decimal.proofs.Bytes.{each_accepts}
use Rattle.decimal.specs.Bytes.{is_of}
use Rattle.decimal.proofs.require_class.Goals as goal

pub returns-then-rows_of : goal.returns-then-rows_of
returns-then-rows_of c =
    let a = c.args in
    sym ((each_accepts (is_of a.class) a.why 1 a.part.now).1 (sym c.rows_of.ensures ∙ c.if-rows_of.true))
