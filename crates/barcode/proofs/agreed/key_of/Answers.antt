use mathlib.Core.Path.{sym, ◌∙◌}
use borrow.Author.Rules.{rules}
use Rattle.barcode.proofs.Lists.{issuer_small, key_is, key_none}
use Rattle.barcode.proofs.agreed.key_of.Goals as goal

pub returns-then-not-is_issuer : goal.returns-then-not-is_issuer
returns-then-not-is_issuer c = sym (key_none _ (sym c.is_issuer.ensures ∙ c.if-not-is_issuer.true))

pub overflow_mul-result : goal.overflow_mul-result
overflow_mul-result c =
    let small = issuer_small _ (sym c.is_issuer.ensures ∙ c.if-not-is_issuer.false) in
    search rules

pub overflow_add-result : goal.overflow_add-result
overflow_add-result c =
    let small = issuer_small _ (sym c.is_issuer.ensures ∙ c.if-not-is_issuer.false) in
    search rules

pub returns : goal.returns
returns c = sym (key_is _ (sym c.is_issuer.ensures ∙ c.if-not-is_issuer.false))
