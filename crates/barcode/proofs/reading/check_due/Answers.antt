use Prim.Native.Nat.{ℕ}
use mathlib.Core.List.{List}
use mathlib.Core.Path.{◌≡◌, sym, ap, ◌∙◌}
use borrow.Author.Rules.{rules}
use lib.ListN.{length}
use Rattle.decimal.proofs.Bytes.{length_zero}
use Rattle.barcode.specs.Agreed.{due_answer}
use Rattle.barcode.proofs.Lists.{due_of_none}
use Rattle.barcode.proofs.reading.check_due.Goals as goal

pub returns-then-is_empty : goal.returns-then-is_empty
returns-then-is_empty c =
    let a = c.args in
    let n : length a.agreed.now ≡ 0 = search rules in
    sym (ap (λ (l : List ℕ). due_answer l a.code.now) (length_zero a.agreed.now n) ∙ due_of_none a.code.now)
