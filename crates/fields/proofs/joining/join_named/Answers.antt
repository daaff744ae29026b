use mathlib.Core.Path.{◌∙◌}
use borrow.Author.Rules.{rules}
use Rattle.record.proofs.Shown.{named_is}
use Rattle.fields.proofs.joining.join_named.Goals as goal

pub returns-in_err-check-clause-answer : goal.returns-in_err-check-clause-answer
returns-in_err-check-clause-answer c =
    let checked = c.check.ensures ∙ named_is _ _ _ (search rules) c.requires in
    search rules

pub returns-clause-answer : goal.returns-clause-answer
returns-clause-answer c =
    let checked = c.check.ensures ∙ named_is _ _ _ (search rules) c.requires in
    search rules
