-- Laws of the search for a lane, index by index at the board's own array. Assumes nothing.
use Prim.Native.Nat.{ℕ, suc, ◌+◌, ◌-◌, ◌≤◌, ◌<◌, min}
use mathlib.Core.Bool.{Bool, true, false, cond}
use mathlib.Core.List.{List, [], ◌∷◌}
use mathlib.Core.Path.{◌≡◌, sym, ap, ◌∙◌}
use native.Mathlib.Numerals.{add-one}
use native.Mathlib.Omega.{arith}
use lib.ListN.{length, get_or, take, drop, length-take}
use lib.Seq.{drop-cons, get_or-take, take_all}
use Rattle.barcode.specs.declared.Issuer.{Issuer}
use Rattle.board.specs.declared.Lane.{Lane}
use Rattle.board.specs.declared.Board.{Board}
use Rattle.board.specs.Lanes.{most_lanes, is_lane_of}
use Rattle.board.specs.Boards.{blank, lanes_of, index_of}

-- the lanes in use are no more than the array has
pub in_use : (b : Board) → length b.lanes ≡ most_lanes → length (lanes_of b) ≡ min b.used most_lanes
in_use b e = length-take b.used b.lanes ∙ ap (min b.used) e

pub index_within : (i : Issuer) (ls : List Lane) → index_of i ls ≤ length ls
index_within i [] = omega arith
index_within i (l ∷ ls) = go (is_lane_of i l) (index_within i ls)
  where
    go : (t : Bool) → index_of i ls ≤ length ls → cond t 0 (suc (index_of i ls)) ≤ suc (length ls)
    go true h = omega arith
    go false h = omega arith

-- a search that came to index k: the issuer's index is k and as many more as it is among the lanes from k up to `to`
abbrev pub Searched : Board → Issuer → ℕ → ℕ → Type 0
Searched b i to k =
    (k ≤ to) × (to ≤ min b.used most_lanes) ×
    (index_of i (lanes_of b) ≡ k + index_of i (take (to - k) (drop k (lanes_of b))))

module _ (b : Board) (full : length b.lanes ≡ most_lanes) (i : Issuer) where
  -- it starts at all lanes in use
  pub search_starts : {to : ℕ} → to ≡ min b.used most_lanes → Searched b i to 0
  search_starts {to} e =
      let all : take (to - 0) (lanes_of b) ≡ lanes_of b = take_all (to - 0) (lanes_of b) (omega (arith, in_use b full)) in
      (omega arith, omega arith, rw all (omega arith))

  module _ (to k : ℕ) (inv : Searched b i to k) where
    -- one lane more is tested
    lane_next : k < to → index_of i (take (to - k) (drop k (lanes_of b)))
        ≡ cond (is_lane_of i (get_or b.lanes k blank)) 0
        (suc (index_of i (take (to - (k + 1)) (drop (k + 1) (lanes_of b)))))
    lane_next h =
        let more : to - k ≡ suc (to - (k + 1)) = omega arith in
        let here = get_or-take b.used b.lanes k blank (omega (arith, inv.1)) in
        rw (more, drop-cons (lanes_of b) k blank (omega (arith, in_use b full, inv.1)), here, add-one k)

    pub search_on : k < to → is_lane_of i (get_or b.lanes k blank) ≡ false → Searched b i to (k + 1)
    search_on h t = (omega arith, inv.1, inv.2 ∙ rw (lane_next h, t) (omega arith))

    pub search_hits : k < to → is_lane_of i (get_or b.lanes k blank) ≡ true → k ≡ index_of i (lanes_of b)
    search_hits h t = sym (inv.2 ∙ rw (lane_next h, t) (omega arith))

    pub search_ends : to ≤ k → k ≡ index_of i (lanes_of b)
    search_ends h = let none : to - k ≡ 0 = omega arith in sym (inv.2 ∙ rw none (omega arith))
