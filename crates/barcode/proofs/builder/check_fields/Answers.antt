use Prim.Native.Nat.{ℕ, ◌-◌}
use mathlib.Core.Path.{◌≡◌, ap, ◌∙◌}
use native.Mathlib.Omega.{arith}
use borrow.Author.Rules.{rules}
use lib.ListN.{length}
use Rattle.answer.specs.declared.Reason.TheVariants.{NoDigit}
use Rattle.answer.specs.Orders.{behind, capped_behind, moved_by}
use Rattle.answer.proofs.Orders.{behind_is_exact}
use Rattle.decimal.specs.declared.Class.TheVariants.{Digit}
use Rattle.decimal.specs.Bytes.{is_of, each_is}
use Rattle.decimal.proofs.Bytes.{each_place}
use Rattle.barcode.specs.Codes.{issuer_end}
use Rattle.barcode.specs.Building.{build_answer}
use Rattle.barcode.proofs.builder.check_fields.Goals as goal

pub returns : goal.returns
unfolding build_answer
returns c =
    let free = c.args.free.now in
    let end = c.issuer_end-end.result in
    let near = each_place (is_of Digit) NoDigit 1 free in
    let long : length free ≡ 44 - end = search rules in
    let held = behind_is_exact end (each_is (is_of Digit) NoDigit 1 free) (omega (arith, near, long)) in
    let place = ap (λ (e : ℕ). moved_by (behind e) (each_is (is_of Digit) NoDigit 1 free)) c.issuer_end-end.ensures.value in
    let digits : c.behind.result ≡ moved_by (behind (issuer_end c.args.issuer.segment)) (each_is (is_of Digit) NoDigit 1 free) =
    c.behind.ensures ∙ ap (moved_by (capped_behind end)) c.require_class.ensures ∙ held ∙ place in
    search rules
