use mathlib.Core.Path.{sym, ◌∙◌}
use Rattle.record.proofs.Exact.{paid_accepted}
use Rattle.record.proofs.judged.check.Goals as goal

pub returns-then-is_some : goal.returns-then-is_some
returns-then-is_some c = paid_accepted _ _ (rw (← c.accepted_payment.ensures) (sym c.is_some.ensures ∙ c.if-is_some.true))
