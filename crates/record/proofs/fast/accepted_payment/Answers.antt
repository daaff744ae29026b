use mathlib.Core.Path.{sym, ◌∙◌}
use Rattle.std.proofs.lemmas.Result.{IfOk-at_ok}
use Rattle.answer.proofs.Orders.{ok_tells}
use Rattle.record.proofs.Exact.{not_whole}
use Rattle.record.proofs.fast.accepted_payment.Goals as goal

pub returns-in_err-ok : goal.returns-in_err-ok
returns-in_err-ok c =
    let none = sym c.in_err-ok.was ∙ c.ok.ensures.value in
    rw c.from_residual.ensures (not_whole _ c.args.rec.now c.whole.result c.whole.ensures.answer none).0

pub returns : goal.returns
returns c =
    let whole = ok_tells c.whole.result (sym c.in_ok-ok.was ∙ c.ok.ensures.value) in
    rw (IfOk-at_ok _ (sym whole) c.whole.ensures.bytes) at c.due_of.ensures
