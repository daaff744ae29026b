use Prim.Native.Nat.{ℕ}
use mathlib.Core.List.{List}
use mathlib.Core.Path.{◌≡◌, sym, ap, ◌∙◌}
use borrow.Author.Rules.{rules}
use lib.ListN.{length}
use Rattle.decimal.proofs.Bytes.{length_zero}
use Rattle.barcode.specs.Agreed.{is_among, is_agreed}
use Rattle.barcode.proofs.Lists.{none_agreed}
use Rattle.barcode.proofs.agreed.is_agreed.Goals as goal

pub returns-then-is_empty : goal.returns-then-is_empty
returns-then-is_empty c =
    let a = c.args in
    let n : length a.agreed.now ≡ 0 = search rules in
    sym (ap (λ (l : List ℕ). is_agreed l a.issuer) (length_zero a.agreed.now n) ∙ none_agreed a.issuer)

pub returns : goal.returns
unfolding is_agreed
returns c = c.is_among.ensures ∙ ap (λ (key : ℕ). is_among key c.args.agreed.now) c.key_of.ensures
