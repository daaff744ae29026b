use mathlib.Core.Path.{sym, ◌∙◌}
use Rattle.decimal.proofs.Numbers.{nineteen_fit, low_of_digits}
use Rattle.decimal.proofs.number.Goals as goal

pub returns-then-all_of : goal.returns-then-all_of
returns-then-all_of c =
    let part = c.args.part.now in
    let few = c.if-part-gt19.false in
    c.low_number.ensures ∙ low_of_digits part (sym c.all_of.ensures ∙ c.if-all_of.true) few ∙ sym (nineteen_fit part few)
