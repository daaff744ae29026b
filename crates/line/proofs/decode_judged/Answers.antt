use mathlib.Core.Path.{◌≡◌, sym, ap, ◌∙◌}
use borrow.Author.Rules.{rules}
use lib.ListN.{length}
use Rattle.std.proofs.lemmas.Result.{err_from_is_err_and}
use Rattle.answer.specs.Answers.{Answer}
use Rattle.answer.specs.Orders.{◌then◌}
use Rattle.barcode.specs.Codes.{prefix_answer}
use Rattle.barcode.specs.Agreed.{barcode_under}
use Rattle.barcode.specs.Shown.{decoded_under}
use Rattle.barcode.specs.RoundTrips.{answer_of_barcode}
use Rattle.barcode.proofs.Lists.{under_place, under_tells}
use Rattle.barcode.proofs.RoundTrips.{decoded_answer}
use Rattle.line.specs.Lines.{line_length, code_of, boxes_then}
use Rattle.line.proofs.Lines.{line_under_holds, shown_refused}
use Rattle.line.proofs.decode_judged.Goals as goal

pub check_full_length-requires : goal.check_full_length-requires
check_full_length-requires c =
    let a = c.args in
    let long : length a.line.now ≡ line_length = search rules in
    let answered : c.map.result ≡ answer_of_barcode c.decode-decoded.result = search rules in
    let code = answered ∙ ap answer_of_barcode (c.decode-decoded.ensures ∙ ap (decoded_under a.agreed.now) c.code_of.ensures)
    ∙ decoded_answer (barcode_under a.agreed.now (code_of a.line.now)) _ in
    record { placed = rw code (under_place a.agreed.now (code_of a.line.now)); right = λ e. (under_tells a.agreed.now (code_of a.line.now) (sym code ∙ e)).0 }

pub returns-in_err-check_full_length : goal.returns-in_err-check_full_length
returns-in_err-check_full_length c =
    let a = c.args in
    let long : length a.line.now ≡ line_length = search rules in
    let answered : c.map.result ≡ answer_of_barcode c.decode-decoded.result = search rules in
    let code = answered ∙ ap answer_of_barcode (c.decode-decoded.ensures ∙ ap (decoded_under a.agreed.now) c.code_of.ensures)
    ∙ decoded_answer (barcode_under a.agreed.now (code_of a.line.now)) _ in
    let answer = c.check_full_length.ensures ∙ ap (λ (b : Answer). prefix_answer a.line.now then boxes_then a.line.now b) code
    ∙ sym (line_under_holds a.agreed.now a.line.now long) in
    let p = err_from_is_err_and c.from_residual.result c.from_residual.ensures.1 in
    rw (p.1, p.2) (shown_refused _ answer c.in_err-check_full_length.was)
