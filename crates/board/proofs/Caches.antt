-- Laws of the cache of lane indices: a search from a cached index finds what the whole search finds. Assumes nothing.
use Prim.Native.Nat.{ℕ, zero, suc, ◌-◌, ◌<◌, min}
use mathlib.Core.Bool.{Bool, true, false, cond, ◌&&◌, and-eq-true_iff}
use mathlib.Core.List.{List}
use mathlib.Core.Path.{◌≡◌, refl, ap, ◌∙◌}
use native.Mathlib.Omega.{arith}
use borrow.Author.Tests.{eqb-true, eqb-false, ltb-true}
use lib.Dec.{eqb, ltb}
use lib.ListN.{length, get_or, set, take, replicate}
use lib.Seq.{get_or-take, get_or-set_same, get_or-set_other}
use Rattle.answer.specs.Answers.{Accepted}
use Rattle.barcode.specs.declared.Issuer.{Issuer}
use Rattle.board.specs.declared.Board.{Board}
use Rattle.board.specs.Boards.{SlotResult, blank, lanes_of, index_of, slot_at, slot_result_of}
use Rattle.board.specs.declared.Lane.{Lane}
use Rattle.board.specs.declared.SearchRange.{SearchRange}
use Rattle.board.specs.Lanes.{most_lanes, is_lane_of}
use Rattle.board.specs.Searches.{search_range_of}
use Rattle.board.proofs.Searches.{in_use, Searched, search_starts}
use Rattle.board.proofs.Firsts.{FirstAt, first_zero, first_found, first_kept}

-- every cached index is one of the array, and the first lane of its issuer if it is in use
abbrev pub Caches : Board → List ℕ → Type 0
Caches b cache = (k : ℕ) → (get_or cache k 0 < most_lanes) × FirstAt (lanes_of b) (get_or cache k 0)

zeros : (n k : ℕ) → ◌≡◌ {A = ℕ} (get_or (replicate n 0) k 0) 0
zeros zero k = refl
zeros (suc n) zero = refl
zeros (suc n) (suc k) = zeros n k

pub zeros_cache : (b : Board) (n : ℕ) → Caches b (replicate n 0)
zeros_cache b n k = rw (zeros n k) (omega arith, first_zero (lanes_of b))

-- a search from a cached index
module _ (b : Board) (full : length b.lanes ≡ most_lanes) (i : Issuer) (guess : ℕ) (here : guess < most_lanes)
    (first : FirstAt (lanes_of b) guess) where
  starts : (t : Bool) → (ltb guess b.used && is_lane_of i (get_or b.lanes guess blank)) ≡ t → (s : SearchRange)
      → s ≡ cond t (record { from = guess; to = guess }) (record { from = 0; to = min b.used most_lanes })
      → Searched b i s.to s.from
  starts true t s e =
      let both = (and-eq-true_iff (ltb guess b.used) (is_lane_of i (get_or b.lanes guess blank))).0 t in
      let used : guess < b.used = ltb-true guess b.used both.0 in
      let own : is_lane_of i (get_or (lanes_of b) guess blank) ≡ true =
      ap (is_lane_of i) (get_or-take b.used b.lanes guess blank used) ∙ both.1 in
      let none : guess - guess ≡ 0 = omega arith in
      rw e (omega arith, omega arith, rw none (first i (omega (arith, in_use b full)) own ∙ omega arith))
  starts false t s e = rw e (search_starts b full i refl)

  pub cached_starts : {s : SearchRange} → s ≡ search_range_of i guess (get_or b.lanes guess blank) b.used
      → Searched b i s.to s.from
  unfolding search_range_of
  cached_starts {s} e = starts (ltb guess b.used && is_lane_of i (get_or b.lanes guess blank)) refl s e

-- after a payment posted at its issuer's index, which is stored at any entry
pub caches_on : (b : Board) → length b.lanes ≡ most_lanes → (p : Lane) (at : ℕ)
    → at ≡ index_of p.issuer (lanes_of b) → at < most_lanes → {e : SlotResult}
    → e ≡ slot_result_of (slot_at b at) p → e.answer ≡ Accepted → (cache : List ℕ) (k : ℕ) → k < length cache
    → Caches b cache
    → Caches (record { lanes = set b.lanes at e.slot.lane; used = e.slot.used; total = e.slot.total }) (set cache k at)
caches_on b full p at found free {e} posted accepted cache k inside caches j = go (eqb j k) refl
  where
    kept : (q : ℕ) → FirstAt (lanes_of b) q → FirstAt (take e.slot.used (set b.lanes at e.slot.lane)) q
    kept = first_kept b full p at found free posted accepted

    go : (t : Bool) → eqb j k ≡ t
        → (get_or (set cache k at) j 0 < most_lanes)
        × FirstAt (take e.slot.used (set b.lanes at e.slot.lane)) (get_or (set cache k at) j 0)
    go true f =
        let s : j ≡ k = eqb-true j k f in
        rw (s, get_or-set_same cache k at 0 inside) (free, kept at (first_found p.issuer (lanes_of b) at found))
    go false f = rw (get_or-set_other cache k j at 0 (eqb-false j k f)) ((caches j).0, kept (get_or cache j 0) (caches j).1)
