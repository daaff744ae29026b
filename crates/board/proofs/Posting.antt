-- Laws of one payment: if accepted it is added to its lane, and the board stays sound. Assumes nothing.
use Rattle.std.specs.Prelude.{Err}
use Prim.Native.Nat.{ℕ, suc, ◌+◌, ◌≤◌, ◌<◌}
use mathlib.Core.Bool.{Bool, true, false, cond, ◌&&◌, and-eq-true_iff, false≢true}
use mathlib.Core.List.{List, [], ◌∷◌, ◌++◌}
use mathlib.Core.Logic.{◌↔◌}
use mathlib.Core.Path.{◌≡◌, refl, sym, ap, ◌∙◌}
use native.Mathlib.Numerals.{add-one}
use native.Mathlib.Omega.{arith}
use borrow.Author.Tests.{lt-ltb, ltb-true, ltb-false}
use lib.Dec.{ltb}
use lib.ListN.{length, get_or, set, take, length-set, length-replicate}
use lib.Seq.{get_or-take, take-set-lt, take-suc-set, length-take-le}
use Rattle.answer.specs.Refusals.{answer_place, received_place, tariff_place, issuer_place}
use Rattle.answer.specs.declared.Reason.TheVariants.{BoardFull, BoardTotalPassed}
use Rattle.answer.specs.Answers.{Answer, Accepted, Refused}
use Rattle.answer.specs.Orders.{require, ◌then◌, if_accepted}
use Rattle.answer.proofs.Orders.{require_accepts, then_accepts, refusal_keeps}
use Rattle.board.specs.declared.Tally.{Tally}
use Rattle.board.specs.declared.Lane.{Lane}
use Rattle.board.specs.declared.Board.{Board}
use Rattle.board.proofs.Tallies.{low_fits, alike, plus_swap}
use Rattle.board.proofs.Slots.{sums_accept}
use Rattle.board.proofs.Searches.{index_within}
use Rattle.board.proofs.Lanes.{placed_distinct, placed_kept}
use Rattle.board.specs.Lanes.{most_lanes, empty_tally, plus, payments_fit, tariff_fits, fits, is_lane_of, grown_lane, placed, tally_sum}
use Rattle.board.specs.Boards.{blank, lanes_of, index_of, slot_of, own_of, used_after, grown_slot, sums_answer, slot_answer, post_answer, board_with, SoundBoard, RefusalKeepsBoard, PostPlaces, StaysSound, TariffsPassLast}

pub refusal_keeps_board : RefusalKeepsBoard
refusal_keeps_board b p h = refusal_keeps (post_answer b p) (board_with b p) b h

-- the lane of a first payment
first_grown : (p : Lane) → grown_lane empty_tally p ≡ p
first_grown p =
    ap {B = Lane} (λ (t : Tally). record { issuer = p.issuer; tally = t }) (alike (omega arith) (omega arith) (omega arith))

-- storing the lane that was found, or a new lane if none was, is `placed`
module _ (p : Lane) where
  pub placed_found : (ls : List Lane) → index_of p.issuer ls < length ls
      → set ls (index_of p.issuer ls) (grown_lane (get_or ls (index_of p.issuer ls) blank).tally p) ≡ placed p ls
  placed_found [] h = absurd (omega arith)
  placed_found (l ∷ ls) h = go (is_lane_of p.issuer l) h (placed_found ls)
    where
      go : (t : Bool) → cond t 0 (suc (index_of p.issuer ls)) < suc (length ls)
          → (index_of p.issuer ls < length ls
          → set ls (index_of p.issuer ls) (grown_lane (get_or ls (index_of p.issuer ls) blank).tally p) ≡ placed p ls)
          → set (l ∷ ls) (cond t 0 (suc (index_of p.issuer ls)))
          (grown_lane (get_or (l ∷ ls) (cond t 0 (suc (index_of p.issuer ls))) blank).tally p)
          ≡ cond t (grown_lane l.tally p ∷ ls) (l ∷ placed p ls)
      go true k later = refl
      go false k later = ap (λ (m : List Lane). l ∷ m) (later (omega arith))

  pub placed_new : (ls : List Lane) → length ls ≤ index_of p.issuer ls → ls ++ (p ∷ []) ≡ placed p ls
  placed_new [] h = refl
  placed_new (l ∷ ls) h = go (is_lane_of p.issuer l) h (placed_new ls)
    where
      go : (t : Bool) → suc (length ls) ≤ cond t 0 (suc (index_of p.issuer ls))
          → (length ls ≤ index_of p.issuer ls → ls ++ (p ∷ []) ≡ placed p ls)
          → l ∷ (ls ++ (p ∷ [])) ≡ cond t (grown_lane l.tally p ∷ ls) (l ∷ placed p ls)
      go true k later = absurd (omega arith)
      go false k later = ap (λ (m : List Lane). l ∷ m) (later (omega arith))

-- a sound board has as many lanes in use as it says
pub length_lanes : (b : Board) → SoundBoard b → length (lanes_of b) ≡ b.used
length_lanes b s = length-take-le b.used b.lanes (omega (arith, s.full, s.few))

-- what is known of an accepted payment
pub record Fit (b : Board) (p : Lane) : Type 0 where
  pub free : index_of p.issuer (lanes_of b) < most_lanes
  pub own : fits (plus (own_of (slot_of b p.issuer)) p.tally) ≡ true
  pub low : fits (plus b.total p.tally) ≡ true

pub fit : (b : Board) (p : Lane) → (post_answer b p ≡ Accepted) ↔ Fit b p
unfolding slot_answer
fit b p =
    let s = slot_of b p.issuer in
    let lane = (grown_slot s p).lane.tally in
    let total = (grown_slot s p).total in
    let two = then_accepts (require (ltb s.at most_lanes) BoardFull issuer_place) (sums_answer lane total) in
    let first = require_accepts (ltb s.at most_lanes) BoardFull issuer_place in
    let sums = sums_accept lane total in (
      λ e.
          let h = sums.0 (two.0 e).1 in
          record { free = ltb-true _ _ (first.0 (two.0 e).0); own = h.0; low = h.1 },
      λ f. two.1 (first.1 (lt-ltb _ _ f.free), sums.1 (f.own, f.low)),
    )

pub tariffs_pass_last : TariffsPassLast
unfolding slot_answer sums_answer
tariffs_pass_last b p =
    let s = slot_of b p.issuer in
    let lane = (grown_slot s p).lane.tally in
    let total = (grown_slot s p).total in
    let last = go (ltb s.at most_lanes) (payments_fit lane && payments_fit total) (tariff_fits lane && tariff_fits total) in
    let both = and-eq-true_iff (payments_fit lane) (payments_fit total) in (
      λ e. let h = last.0 e in let older = both.0 h.1 in (ltb-true _ _ h.0, older.0, older.1, h.2),
      λ h. last.1 (lt-ltb _ _ h.0, both.1 (h.1, h.2), h.3),
    )
  where
    go : (t u v : Bool)
        → ((require t BoardFull issuer_place then require u BoardTotalPassed received_place then require v BoardTotalPassed tariff_place)
        ≡ Refused BoardTotalPassed tariff_place)
        ↔ ((t ≡ true) × (u ≡ true) × (v ≡ false))
    go true true false = (λ e. (refl, refl, refl), λ h. refl)
    go true true true = (λ e. absurd (omega (arith, ap answer_place e)), λ h. absurd (false≢true (sym h.2)))
    go true false v = (λ e. absurd (omega (arith, ap answer_place e)), λ h. absurd (false≢true h.1))
    go false u v = (λ e. absurd (omega (arith, ap answer_place e)), λ h. absurd (false≢true h.0))

-- at index k: the issuer's lane or the first free one
module _ (b : Board) (p : Lane) (s : SoundBoard b) (k : ℕ) (is : k ≡ index_of p.issuer (lanes_of b))
    (free : k < most_lanes) where
  stored_placed : (t : Bool) → ltb k b.used ≡ t
      → take (cond t b.used (k + 1)) (set b.lanes k (grown_lane (cond t (get_or b.lanes k blank).tally empty_tally) p))
      ≡ placed p (lanes_of b)
  stored_placed true e =
      let h : k < b.used = ltb-true k b.used e in
      let found = placed_found p (lanes_of b) (omega (arith, length_lanes b s)) in
      take-set-lt b.used b.lanes k (grown_lane (get_or b.lanes k blank).tally p) h ∙
      ap (λ (l : Lane). set (lanes_of b) k (grown_lane l.tally p)) (sym (get_or-take b.used b.lanes k blank h)) ∙
      rw (← is) at found
  stored_placed false e =
      let h = ltb-false k b.used e in
      let n = length_lanes b s in
      let last : k ≡ b.used = omega (arith, index_within p.issuer (lanes_of b)) in
      let new = placed_new p (lanes_of b) (omega arith) in
      rw (add-one k, first_grown p) (take-suc-set b.lanes k p (omega (arith, s.full)) ∙ rw last new)

  stored_few : (t : Bool) → cond t b.used (k + 1) ≤ most_lanes
  stored_few true = s.few
  stored_few false = omega arith

module _ (b : Board) (p : Lane) (s : SoundBoard b) where
  pub with_placed : index_of p.issuer (lanes_of b) < most_lanes → lanes_of (board_with b p) ≡ placed p (lanes_of b)
  unfolding own_of used_after
  with_placed free =
      stored_placed b p s (index_of p.issuer (lanes_of b)) refl free
      (ltb (index_of p.issuer (lanes_of b)) b.used) refl

  with_few : index_of p.issuer (lanes_of b) < most_lanes → (board_with b p).used ≤ most_lanes
  unfolding used_after
  with_few free =
      stored_few b p s (index_of p.issuer (lanes_of b)) refl free (ltb (index_of p.issuer (lanes_of b)) b.used)

  pub with_sound : Fit b p → SoundBoard (board_with b p)
  with_sound f =
      record {
        full = simp length-set s.full;
        few = with_few f.free;
        once = rw (with_placed f.free) (placed_distinct p (lanes_of b) s.once);
        total =
            rw (with_placed f.free, placed_kept p (lanes_of b), s.total) (plus_swap (tally_sum (lanes_of b)) p.tally);
        low = f.low;
      }

pub post_places : PostPlaces
post_places b p s e = with_placed b p s ((fit b p).0 e).free

pub stays_sound : StaysSound
stays_sound = (
  record { full = length-replicate most_lanes blank; few = omega arith; once = tt; total = refl; low = low_fits empty_tally (record { payments = omega arith; centavos = omega arith; tariff = omega arith }) },
  λ b p s. go b p s (post_answer b p) refl,
)
  where
    go : (b : Board) (p : Lane) → SoundBoard b → (a : Answer) → post_answer b p ≡ a
        → SoundBoard (if_accepted a (board_with b p) b)
    go b p s Accepted e = with_sound b p s ((fit b p).0 e)
    go b p s (Err refusal) e = s
