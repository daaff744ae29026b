use mathlib.Core.Path.{sym, ◌∙◌}
use Rattle.record.proofs.Exact.{seen_shown}
use Rattle.record.proofs.judged.decode.Goals as goal

pub decode_in_order-requires : goal.decode_in_order-requires
decode_in_order-requires c = sym c.in-None.is ∙ c.decode_payment.ensures

pub returns-in-Some : goal.returns-in-Some
returns-in-Some c = seen_shown _ (sym c.in-Some.is ∙ c.decode_payment.ensures)
