use mathlib.Core.Path.{sym, ◌∙◌}
use Rattle.record.proofs.fast.looks_like_payment.Goals as goal

pub returns-then-not-is_payment : goal.returns-then-not-is_payment
returns-then-not-is_payment c = rw (sym c.is_payment.ensures ∙ c.if-not-is_payment.true)

pub returns-then-not-is_plain : goal.returns-then-not-is_plain
returns-then-not-is_plain c = rw (sym c.is_payment.ensures ∙ c.if-not-is_payment.false, sym c.is_plain.ensures ∙ c.if-not-is_plain.true)

pub returns : goal.returns
returns c =
    let is = sym c.is_payment.ensures ∙ c.if-not-is_payment.false in
    let blank = sym c.is_plain.ensures ∙ c.if-not-is_plain.false in
    rw (is, blank) c.is_coded.ensures
