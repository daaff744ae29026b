use Prim.Native.Nat.{ℕ, ◌+◌, ◌≤◌}
use mathlib.Core.List.{List}
use mathlib.Core.Path.{◌≡◌, refl, ap, ◌∙◌}
use native.Mathlib.Omega.{arith}
use borrow.Author.Rules.{rules}
use lib.ListN.{length, take, drop}
use Rattle.barcode.specs.Codes.{digit_at, modulus_of}
use Rattle.line.proofs.Lines.{four_pieces, eleven, checked_length}
use Rattle.line.specs.Lines.{checked_box}
use Rattle.line.proofs.line_of.Goals as goal

pub returns : goal.returns
returns c =
    let code = c.args.code.now in
    let sized : length code ≡ 44 = search rules in
    let m = c.modulus_of_kind-m.result in
    let e : m ≡ modulus_of (digit_at 3 code) = c.modulus_of_kind-m.ensures ∙ ap modulus_of c.value.ensures in
    let box : ℕ → List ℕ = λ k. checked_box m (take 11 (drop k code)) in
    let twelve : (k : ℕ) → k + 11 ≤ 44 → length (box k) ≡ 12 = λ k h. checked_length m (take 11 (drop k code)) (eleven code k (omega arith)) in
    rw (← e)
    (four_pieces 12 (box 0) (box 11) (box 22) (box 33) _
    (twelve 0 (omega arith)) (twelve 11 (omega arith)) (twelve 22 (omega arith)) (twelve 33 (omega arith)) refl
    c.put_box.ensures c.put_box-2.ensures c.put_box-3.ensures c.put_box-4.ensures)
