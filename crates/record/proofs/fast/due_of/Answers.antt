use mathlib.Core.Path.{sym, ap, ◌∙◌}
use Rattle.barcode.specs.Shown.{accepted_issuer}
use Rattle.barcode.proofs.Shown.{issuer_tells}
use borrow.Author.Rules.{rules}
use Rattle.layout.specs.Layouts.{row_at, table, layout_of, barcode_row}
use Rattle.record.specs.Records.{field_bytes}
use Rattle.record.proofs.Exact.{not_looking, not_dated, no_payee, pays_it}
use Rattle.record.proofs.fast.due_of.Goals as goal

pub returns-then-not-looks_like_payment : goal.returns-then-not-looks_like_payment
returns-then-not-looks_like_payment c = (not_looking _ c.args.rec.now (search rules) (sym c.looks_like_payment.ensures ∙ c.if-not-looks_like_payment.true)).0

pub returns-then-not-is_dated : goal.returns-then-not-is_dated
returns-then-not-is_dated c =
    let undated = sym c.is_dated.ensures ∙ c.if-not-is_dated.true in
    (not_dated _ c.args.rec.now (search rules) undated).0

pub returns-in_err-issuer : goal.returns-in_err-issuer
unfolding row_at table layout_of
returns-in_err-issuer c =
    let agreed = c.args.agreed.now in
    let none = sym c.in_err-issuer.was ∙ c.accepted_issuer.ensures ∙ ap (accepted_issuer agreed) c.field_bytes.ensures in
    rw c.from_residual.ensures (no_payee _ c.args.rec.now (search rules) none).0

pub returns : goal.returns
unfolding row_at table layout_of
returns c =
    let rec = c.args.rec.now in
    let agreed = c.args.agreed.now in
    let part = field_bytes (row_at barcode_row) rec in
    let to = sym c.in_ok-issuer.was ∙ c.accepted_issuer.ensures ∙ ap (accepted_issuer agreed) c.field_bytes.ensures in
    let looks = sym c.looks_like_payment.ensures ∙ c.if-not-looks_like_payment.false in
    let dates = sym c.is_dated.ensures ∙ c.if-not-is_dated.false in
    let told = issuer_tells agreed part to in
    pays_it _ rec (search rules) looks dates told.0 told.1 c.number_in-received.ensures c.number_in-tariff.ensures
