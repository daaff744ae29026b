use Prim.Native.Nat.{ℕ}
use mathlib.Core.List.{List}
use mathlib.Core.Path.{refl, ap, ◌∙◌}
use Rattle.decimal.specs.Places.{put_at}
use Rattle.line.proofs.Lines.{boxed}
use Rattle.line.proofs.put_box.Goals as goal

pub returns : goal.returns
returns c =
    let a = c.args in
    let box = boxed a.part.now _ _ c.requires refl c.put.ensures in
    c.put-2.ensures ∙ ap (λ (l : List ℕ). put_at a.at l a.out.now) (box ∙ rw c.check_byte.ensures)
