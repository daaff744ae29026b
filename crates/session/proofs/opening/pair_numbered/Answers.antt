use Prim.Native.Nat.{ℕ}
use mathlib.Core.List.{List}
use mathlib.Core.Path.{ap₂}
use Rattle.layout.specs.Layouts.{row_at, table, layout_of}
use Rattle.pairs.specs.declared.Pair.{Pair}
use Rattle.session.proofs.opening.pair_numbered.Goals as goal

pub returns : goal.returns
unfolding row_at table layout_of
returns c =
    ap₂ {C = Pair} (λ (b a : List ℕ). record { bank = b; agreement = a; sequence = c.args.sequence }) c.copy_from_slice.ensures.after c.copy_from_slice-2.ensures.after
