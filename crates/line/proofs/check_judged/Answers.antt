use mathlib.Core.Path.{◌≡◌, sym, ap, ◌∙◌}
use borrow.Author.Rules.{rules}
use lib.ListN.{length}
use Rattle.answer.specs.Answers.{Answer}
use Rattle.answer.specs.Orders.{◌then◌}
use Rattle.barcode.specs.Codes.{prefix_answer}
use Rattle.barcode.specs.Agreed.{barcode_under}
use Rattle.barcode.proofs.Lists.{under_place, under_tells}
use Rattle.line.specs.Lines.{line_length, code_of, boxes_then}
use Rattle.line.proofs.Lines.{line_under_holds}
use Rattle.line.proofs.check_judged.Goals as goal

pub check_full_length-requires : goal.check_full_length-requires
check_full_length-requires c =
    let a = c.args in
    let long : length a.line.now ≡ line_length = search rules in
    let code = c.check.ensures ∙ ap (barcode_under a.agreed.now) c.code_of.ensures in
    record { placed = rw code (under_place a.agreed.now (code_of a.line.now)); right = λ e. (under_tells a.agreed.now (code_of a.line.now) (sym code ∙ e)).0 }

pub returns : goal.returns
returns c =
    let a = c.args in
    let long : length a.line.now ≡ line_length = search rules in
    let code = c.check.ensures ∙ ap (barcode_under a.agreed.now) c.code_of.ensures in
    c.check_full_length.ensures ∙ ap (λ (b : Answer). prefix_answer a.line.now then boxes_then a.line.now b) code
    ∙ sym (line_under_holds a.agreed.now a.line.now long)
