use mathlib.Core.Path.{sym, ap, ◌∙◌}
use Rattle.std.specs.Result.{result_ok}
use Rattle.answer.specs.declared.Refusal.{Refusal}
use Rattle.answer.proofs.Orders.{ok_tells}
use Rattle.barcode.proofs.Shown.{read_tells}
use borrow.Author.Rules.{rules}
use Rattle.layout.specs.Layouts.{row_at, table, layout_of, barcode_row}
use Rattle.kinds.specs.Terms.{told}
use Rattle.record.specs.Records.{field_bytes}
use Rattle.record.proofs.Exact.{not_looking, no_payment_date, no_credit_date, both_dates, no_code, shows_it}
use Rattle.record.proofs.fast.payment_of.Goals as goal

pub returns-then-not-looks_like_payment : goal.returns-then-not-looks_like_payment
returns-then-not-looks_like_payment c = (not_looking _ c.args.rec.now (search rules) (sym c.looks_like_payment.ensures ∙ c.if-not-looks_like_payment.true)).1

pub returns-in_err-date_in : goal.returns-in_err-date_in
unfolding row_at table layout_of
returns-in_err-date_in c =
    let none = sym c.date_in.ensures ∙ c.in_err-date_in.was in
    rw c.from_residual.ensures (no_payment_date _ c.args.rec.now (search rules) none).1

pub returns-in_err-date_in-2 : goal.returns-in_err-date_in-2
unfolding row_at table layout_of
returns-in_err-date_in-2 c =
    let none = sym c.date_in-2.ensures ∙ c.in_err-date_in-2.was in
    rw c.from_residual-in_err-date_in-2.ensures (no_credit_date _ c.args.rec.now (search rules) none).1

pub returns-in_err-ok : goal.returns-in_err-ok
unfolding row_at table layout_of
returns-in_err-ok c =
    let none = sym c.in_err-ok.was ∙ c.ok.ensures.value ∙ ap (result_ok {E = Refusal}) c.barcode_in.ensures in
    rw c.from_residual-in_err-ok.ensures (no_code _ c.args.rec.now (search rules) none).1

pub returns : goal.returns
unfolding row_at table layout_of
returns c =
    let rec = c.args.rec.now in
    let agreed = c.args.agreed.now in
    let part = field_bytes (row_at barcode_row) rec in
    let paid = sym c.date_in.ensures ∙ c.in_ok-date_in.was in
    let credited = sym c.date_in-2.ensures ∙ c.in_ok-date_in-2.was in
    let decoded = read_tells agreed part (ok_tells _ (sym c.in_ok-ok.was ∙ c.ok.ensures.value) ∙ c.barcode_in.ensures) in
    let looks = sym c.looks_like_payment.ensures ∙ c.if-not-looks_like_payment.false in
    let dates = both_dates (told c.args.version agreed) rec (search rules) paid credited in
    shows_it _ rec (search rules) looks dates decoded.0 paid credited decoded.1
    c.number_in.ensures c.number_in-2.ensures c.number_in-3.ensures
