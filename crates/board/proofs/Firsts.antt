-- Laws of the first lane of an issuer: no payment moves it. Assumes nothing.
use Prim.Native.Nat.{ℕ, zero, suc, ◌≤◌, ◌<◌}
use mathlib.Core.Bool.{Bool, true, false, cond}
use mathlib.Core.List.{List, [], ◌∷◌, ◌++◌}
use mathlib.Core.Logic.{⊎_elim}
use mathlib.Core.Path.{◌≡◌, refl, sym, ap, ◌∙◌}
use native.Mathlib.Omega.{arith}
use borrow.Author.Tests.{eqb-true, eqb-false, lt-ltb, le-ltb}
use lib.Dec.{eqb}
use Rattle.answer.proofs.Tests.{lt_or_le}
use lib.ListN.{length, get_or, set, length-set, length-append}
use lib.Seq.{get_or-set_same, get_or-set_other, get_or-append_seam, take-set-lt, take-suc-set}
use Rattle.answer.specs.Answers.{Accepted}
use Rattle.barcode.specs.declared.Issuer.{Issuer}
use Rattle.board.specs.Boards.{SlotResult, blank, lanes_of, index_of, slot_at, used_after, grown_slot, slot_answer, slot_result_of}
use Rattle.board.specs.declared.Lane.{Lane}
use Rattle.board.specs.declared.Board.{Board}
use Rattle.board.specs.declared.Slot.{Slot}
use Rattle.board.specs.Lanes.{most_lanes, same_issuer, is_lane_of}
use Rattle.board.proofs.Searches.{in_use, index_within}
use Rattle.board.proofs.Lanes.{same_is}

-- index q has the first lane of its issuer
abbrev pub FirstAt : List Lane → ℕ → Type 0
FirstAt ls q = (i : Issuer) → q < length ls → is_lane_of i (get_or ls q blank) ≡ true → index_of i ls ≡ q

pub first_zero : (ls : List Lane) → FirstAt ls 0
first_zero [] i h t = absurd (omega arith)
first_zero (l ∷ ls) i h t = rw t

-- a lane that the search found is the issuer's
index_hit : (i : Issuer) (ls : List Lane) → index_of i ls < length ls → is_lane_of i (get_or ls (index_of i ls) blank) ≡ true
index_hit i [] h = absurd (omega arith)
index_hit i (l ∷ ls) h = go (is_lane_of i l) refl h (index_hit i ls)
  where
    go : (t : Bool) → is_lane_of i l ≡ t → cond t 0 (suc (index_of i ls)) < suc (length ls)
        → (index_of i ls < length ls → is_lane_of i (get_or ls (index_of i ls) blank) ≡ true)
        → is_lane_of i (get_or (l ∷ ls) (cond t 0 (suc (index_of i ls))) blank) ≡ true
    go true e k later = e
    go false e k later = later (omega arith)

pub first_found : (i : Issuer) (ls : List Lane) (k : ℕ) → k ≡ index_of i ls → FirstAt ls k
first_found i ls k e j h t =
    let l = get_or ls k blank in
    let own : l.issuer ≡ i = same_is l.issuer i (rw e (index_hit i ls (rw e at h))) in
    let other : l.issuer ≡ j = same_is l.issuer j t in
    ap (λ (x : Issuer). index_of x ls) (sym other ∙ own) ∙ sym e

-- A lane replaced by one of the same issuer, and a lane appended.

index_set : (i : Issuer) (ls : List Lane) (k : ℕ) (x : Lane) → k < length ls → x.issuer ≡ (get_or ls k blank).issuer
    → index_of i (set ls k x) ≡ index_of i ls
index_set i [] k x h e = absurd (omega arith)
index_set i (l ∷ ls) zero x h e = ap (λ (j : Issuer). cond (same_issuer j i) 0 (suc (index_of i ls))) e
index_set i (l ∷ ls) (suc k) x h e = ap (λ (n : ℕ). cond (is_lane_of i l) 0 (suc n)) (index_set i ls k x (omega arith) e)

issuer_set : (ls : List Lane) (k q : ℕ) (x : Lane) → k < length ls → x.issuer ≡ (get_or ls k blank).issuer
    → (get_or (set ls k x) q blank).issuer ≡ (get_or ls q blank).issuer
issuer_set ls k q x h e = go (eqb q k) refl
  where
    go : (t : Bool) → eqb q k ≡ t → (get_or (set ls k x) q blank).issuer ≡ (get_or ls q blank).issuer
    go true f = let s : q ≡ k = eqb-true q k f in rw (s, get_or-set_same ls k x blank h, e)
    go false f = rw (get_or-set_other ls k q x blank (eqb-false q k f))

index_more : (i : Issuer) (ls : List Lane) (x : Lane) → index_of i ls < length ls
    → index_of i (ls ++ (x ∷ [])) ≡ index_of i ls
index_more i [] x h = absurd (omega arith)
index_more i (l ∷ ls) x h = go (is_lane_of i l) h (index_more i ls x)
  where
    go : (t : Bool) → cond t 0 (suc (index_of i ls)) < suc (length ls)
        → (index_of i ls < length ls → index_of i (ls ++ (x ∷ [])) ≡ index_of i ls)
        → cond t 0 (suc (index_of i (ls ++ (x ∷ [])))) ≡ cond t 0 (suc (index_of i ls))
    go true k later = refl
    go false k later = ap suc (later (omega arith))

index_last : (i : Issuer) (ls : List Lane) (x : Lane) → length ls ≤ index_of i ls → is_lane_of i x ≡ true
    → index_of i (ls ++ (x ∷ [])) ≡ length ls
index_last i [] x h t = rw t
index_last i (l ∷ ls) x h t = go (is_lane_of i l) h (λ k. index_last i ls x k t)
  where
    go : (u : Bool) → suc (length ls) ≤ cond u 0 (suc (index_of i ls))
        → (length ls ≤ index_of i ls → index_of i (ls ++ (x ∷ [])) ≡ length ls)
        → cond u 0 (suc (index_of i (ls ++ (x ∷ [])))) ≡ suc (length ls)
    go true k later = absurd (omega arith)
    go false k later = ap suc (later (omega arith))

get_d_front : (ls : List Lane) (x : Lane) (q : ℕ) → q < length ls → get_or (ls ++ (x ∷ [])) q blank ≡ get_or ls q blank
get_d_front [] x q h = absurd (omega arith)
get_d_front (l ∷ ls) x zero h = refl
get_d_front (l ∷ ls) x (suc q) h = get_d_front ls x q (omega arith)

module _ (ls : List Lane) (q : ℕ) (first : FirstAt ls q) (x : Lane) where
  first_set : (k : ℕ) → k < length ls → x.issuer ≡ (get_or ls k blank).issuer → FirstAt (set ls k x) q
  first_set k h e i inside t =
      index_set i ls k x h e
      ∙ first i (rw (length-set ls k x) at inside)
      (ap (λ (j : Issuer). same_issuer j i) (sym (issuer_set ls k q x h e)) ∙ t)

  first_more : length ls ≤ index_of x.issuer ls → FirstAt (ls ++ (x ∷ [])) q
  first_more h i inside t = ⊎_elim front last (lt_or_le q (length ls))
    where
      front : q < length ls → index_of i (ls ++ (x ∷ [])) ≡ q
      front k = let e = first i k (rw (get_d_front ls x q k) at t) in index_more i ls x (rw e k) ∙ e

      last : length ls ≤ q → index_of i (ls ++ (x ∷ [])) ≡ q
      last k =
          let s : q ≡ length ls = omega (arith, length-append ls (x ∷ [])) in
          let u : is_lane_of i x ≡ true = rw (s, get_or-append_seam ls x [] blank) at t in
          let same : x.issuer ≡ i = same_is x.issuer i u in
          index_last i ls x (rw same at h) u ∙ sym s

-- A payment that a board took at the index of its issuer.
module _ (b : Board) (full : length b.lanes ≡ most_lanes) (p : Lane) (k : ℕ)
    (found : k ≡ index_of p.issuer (lanes_of b)) (free : k < most_lanes)
    {e : SlotResult} (posted : e ≡ slot_result_of (slot_at b k) p) (accepted : e.answer ≡ Accepted) where
  abbrev after : Board
  after = record { lanes = set b.lanes k e.slot.lane; used = e.slot.used; total = e.slot.total }

  taken : e.slot ≡ grown_slot (slot_at b k) p
  taken =
      let a : slot_answer (slot_at b k) p ≡ Accepted = ap (λ (x : SlotResult). x.answer) (sym posted) ∙ accepted in
      rw (posted, a)

  same : e.slot.lane.issuer ≡ p.issuer
  same = ap (λ (s : Slot). s.lane.issuer) taken

  used : e.slot.used ≡ used_after (slot_at b k)
  used = ap (λ (s : Slot). s.used) taken

  pub first_kept : (q : ℕ) → FirstAt (lanes_of b) q → FirstAt (lanes_of after) q
  unfolding used_after
  first_kept q first = ⊎_elim inside behind (lt_or_le k (length (lanes_of b)))
    where
      inside : k < length (lanes_of b) → FirstAt (lanes_of after) q
      inside h =
          let l : k < b.used = omega (arith, in_use b full) in
          let u : e.slot.used ≡ b.used = used ∙ rw (lt-ltb k b.used l) in
          let ls : lanes_of after ≡ set (lanes_of b) k e.slot.lane =
          rw u (take-set-lt b.used b.lanes k e.slot.lane l) in
          let hit = index_hit p.issuer (lanes_of b) (rw found at h) in
          let own : (get_or (lanes_of b) k blank).issuer ≡ p.issuer =
          same_is (get_or (lanes_of b) k blank).issuer p.issuer (rw found hit) in
          rw ls (first_set (lanes_of b) q first e.slot.lane k h (same ∙ sym own))

      behind : length (lanes_of b) ≤ k → FirstAt (lanes_of after) q
      behind h =
          let most = index_within p.issuer (lanes_of b) in
          let l : b.used ≡ k = omega (arith, in_use b full) in
          let u : e.slot.used ≡ suc k = used ∙ rw (le-ltb k b.used (omega arith)) (omega arith) in
          let ls : lanes_of after ≡ lanes_of b ++ (e.slot.lane ∷ []) =
          rw (u, l) (take-suc-set b.lanes k e.slot.lane (omega arith)) in
          rw ls (first_more (lanes_of b) q first e.slot.lane (rw (same, ← found) h))
