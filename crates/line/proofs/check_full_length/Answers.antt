use mathlib.Core.Path.{◌≡◌, sym, ◌∙◌}
use borrow.Author.Rules.{rules}
use Rattle.answer.specs.Answers.{Accepted}
use Rattle.line.proofs.Boxes.{checks_decide}
use Rattle.line.proofs.check_full_length.Goals as goal

pub returns-then-is_ok : goal.returns-then-is_ok
returns-then-is_ok c =
    let accepted : c.check_check_digits-checks.result ≡ Accepted = search rules in
    accepted ∙ checks_decide c.args.line.now c.args.code (search rules) c.requires.right (sym c.check_check_digits-checks.ensures ∙ accepted)
