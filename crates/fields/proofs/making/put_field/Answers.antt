use mathlib.Core.Path.{refl, sym, ap, ◌∙◌}
use native.Mathlib.Omega.{arith}
use lib.ListN.{length}
use Rattle.decimal.proofs.Numbers.{room_answer}
use Rattle.kinds.specs.Terms.{told}
use Rattle.fields.proofs.Writes.{put_money, put_money_bytes, put_other, other_is}
use Rattle.fields.proofs.making.put_field.Goals as goal

pub returns-then-is_money : goal.returns-then-is_money
returns-then-is_money c =
    let a = c.args in
    let money = sym c.is_money.ensures ∙ c.if-is_money.true in
    let w = length a.out.now in record { answer = put_money (told a.version a.agreed.now) a.kind w a.given.now a.amount money (c.put_number.ensures.answer ∙ room_answer w 0 w a.amount (omega arith)); bytes = put_money_bytes (told a.version a.agreed.now) a.kind w a.given.now a.amount _ _ money refl c.put_number.ensures.bytes }

pub put_bytes-requires : goal.put_bytes-requires
put_bytes-requires c =
    let a = c.args in
    let other = sym c.is_money.ensures ∙ c.if-is_money.false in
    record { no_amount = other; sized = ap length (sym (other_is a.kind (length a.out.now) a.given.now a.amount other)) ∙ c.requires }

pub returns : goal.returns
returns c =
    let a = c.args in
    let other = sym c.is_money.ensures ∙ c.if-is_money.false in
    let bytes = c.put_bytes.ensures in
    let w = length a.out.now in record { answer = put_other (told a.version a.agreed.now) a.kind w a.given.now a.amount other bytes c.check.ensures; bytes = λ e. bytes ∙ sym (other_is a.kind w a.given.now a.amount other) }
