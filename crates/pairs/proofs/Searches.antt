-- Laws of the search for a pair in the memory's own array. Assumes nothing.
use Prim.Native.Nat.{suc, ◌≤◌, min}
use mathlib.Core.Bool.{Bool, true, false, cond}
use mathlib.Core.List.{List, [], ◌∷◌}
use mathlib.Core.Path.{◌≡◌, ap, ◌∙◌}
use native.Mathlib.Omega.{arith}
use lib.ListN.{length, length-take}
use Rattle.pairs.specs.declared.Pair.{Pair}
use Rattle.pairs.specs.declared.Memory.{Memory}
use Rattle.pairs.specs.Pairs.{most_pairs, is_same_pair, pairs_of, index_of}

-- what a read past the array's end would give
abbrev pub past : Pair
past = record { bank = []; agreement = []; sequence = 0 }

-- the pairs in use are no more than the array has
pub in_use : (m : Memory) → length m.pairs ≡ most_pairs → length (pairs_of m) ≡ min m.used most_pairs
in_use m e = length-take m.used m.pairs ∙ ap (min m.used) e

pub index_within : (p : Pair) (qs : List Pair) → index_of p qs ≤ length qs
index_within p [] = omega arith
index_within p (q ∷ qs) = go (is_same_pair q p) (index_within p qs)
  where
    go : (t : Bool) → index_of p qs ≤ length qs → cond t 0 (suc (index_of p qs)) ≤ suc (length qs)
    go true h = omega arith
    go false h = omega arith
