-- Laws of a sound board: what it accepts and answers, and that a fresh one holds its payments grouped by issuer.
-- Assumes nothing.
use Prim.Native.Nat.{ℕ, zero, suc, ◌≤◌, ◌<◌}
use mathlib.Core.Bool.{Bool, true, false, cond, ◌&&◌, false≢true}
use mathlib.Core.List.{List, [], ◌∷◌, ◌++◌}
use mathlib.Core.Logic.{◌↔◌, ◌⊎◌, inl, inr, ⊎_elim}
use mathlib.Core.Path.{◌≡◌, refl, sym, ap, ap₂, ◌∙◌}
use native.Mathlib.Numerals.{add-one}
use native.Mathlib.Omega.{arith}
use borrow.Author.Tests.{lt-ltb, le-leb, ltb-true, ltb-false}
use lib.Dec.{ltb, leb}
use lib.ListN.{length, get_or, length-set, length-append}
use lib.Seq.{get_or-take}
use Rattle.answer.specs.Refusals.{received_place, tariff_place, issuer_place}
use Rattle.answer.specs.declared.Reason.TheVariants.{BoardFull, BoardTotalPassed}
use Rattle.answer.specs.Answers.{Answer, Accepted}
use Rattle.answer.specs.Orders.{require, ◌then◌}
use Rattle.answer.proofs.Orders.{then_accepts}
use Rattle.barcode.specs.declared.Issuer.{Issuer}
use Rattle.board.specs.declared.Lane.{Lane}
use Rattle.board.specs.declared.Board.{Board}
use Rattle.board.proofs.Tallies.{AtMost, at_most_sum, payments_fit_less, tariff_fits_less, fits_less, plus_swap, plus_groups, plus_none}
use Rattle.board.proofs.Searches.{index_within}
use Rattle.board.proofs.Lanes.{placed_kept, sum_is_kept, one_payment_more}
use Rattle.board.proofs.Posting.{placed_found, placed_new, length_lanes, Fit, fit, with_placed, with_sound, stays_sound}
use Rattle.board.specs.Lanes.{most_lanes, empty_tally, plus, payments_fit, tariff_fits, fits, is_lane_of, grown_lane, placed, placed_all, lanes_from, tally_sum, issuers_of, is_among}
use Rattle.board.specs.Boards.{blank, fresh_board, lanes_of, index_of, slot_of, own_of, sums_answer, slot_answer, post_answer, board_with, post_answers, board_with_all, SoundBoard, AnswersAsPayments, PostAccepts, FreshBoardTakes, FreshBoardHolds}

-- What a sound board accepts.

-- a lane has no more than the sum
lane_below : (ls : List Lane) (k : ℕ) → k < length ls → AtMost (get_or ls k blank).tally (tally_sum ls)
lane_below [] k h = absurd (omega arith)
lane_below (l ∷ ls) zero h = at_most_sum l.tally (tally_sum ls)
lane_below (l ∷ ls) (suc k) h =
    let r = lane_below ls k (omega arith) in
    record {
      payments = omega (arith, r.payments);
      centavos = omega (arith, r.centavos);
      tariff = omega (arith, r.tariff);
    }

-- with a payment, the lane that it is added to has no more than the total
own_below : (b : Board) (p : Lane) → SoundBoard b → (k : ℕ) → k ≤ length (lanes_of b)
    → (t : Bool) → ltb k b.used ≡ t
    → AtMost (plus (cond t (get_or b.lanes k blank).tally empty_tally) p.tally) (plus b.total p.tally)
own_below b p s k h true t =
    let m : k < b.used = ltb-true k b.used t in
    let r =
    rw (get_or-take b.used b.lanes k blank m, ← s.total) at
    (lane_below (lanes_of b) k (omega (arith, length_lanes b s))) in
    record {
      payments = omega (arith, r.payments);
      centavos = omega (arith, r.centavos);
      tariff = omega (arith, r.tariff);
    }
own_below b p s k h false t = record { payments = omega arith; centavos = omega arith; tariff = omega arith }

grown_below : (b : Board) (p : Lane) → SoundBoard b
    → AtMost (plus (own_of (slot_of b p.issuer)) p.tally) (plus b.total p.tally)
unfolding own_of
grown_below b p s =
    let at = index_of p.issuer (lanes_of b) in
    own_below b p s at (index_within p.issuer (lanes_of b)) (ltb at b.used) refl

pub sound_fit : (b : Board) (p : Lane) → SoundBoard b → index_of p.issuer (lanes_of b) < most_lanes
    → fits (plus b.total p.tally) ≡ true → Fit b p
sound_fit b p s free e = record { free = free; own = fits_less (grown_below b p s) e; low = e }

-- an issuer is among the lanes exactly if its index is below their number
known : (i : Issuer) (ls : List Lane) (t : Bool) → is_among i (issuers_of ls) ≡ t
    → cond t (index_of i ls < length ls) (index_of i ls ≡ length ls)
known i [] true e = absurd (false≢true e)
known i [] false e = refl
known i (l ∷ ls) t e = go (is_lane_of i l) t e (known i ls t)
  where
    go : (u t : Bool) → cond u true (is_among i (issuers_of ls)) ≡ t
        → (is_among i (issuers_of ls) ≡ t → cond t (index_of i ls < length ls) (index_of i ls ≡ length ls))
        → cond t (cond u 0 (suc (index_of i ls)) < suc (length ls)) (cond u 0 (suc (index_of i ls)) ≡ suc (length ls))
    go true true q later = omega arith
    go true false q later = absurd (false≢true (sym q))
    go false true q later = let r = later q in omega arith
    go false false q later = let r = later q in omega arith

pub post_accepts : PostAccepts
post_accepts b p s =
    let i = p.issuer in
    let n = length_lanes b s in (
      λ e.
          let f = (fit b p).0 e in
          (room f (is_among i (issuers_of (lanes_of b))) refl, f.low),
      λ h. (fit b p).1 (sound_fit b p s (⊎_elim (λ k. let r = known i (lanes_of b) true k in omega (arith, s.few)) (λ k. omega (arith, index_within i (lanes_of b))) h.0) h.1),
    )
  where
    room : Fit b p → (t : Bool) → is_among p.issuer (issuers_of (lanes_of b)) ≡ t
        → (is_among p.issuer (issuers_of (lanes_of b)) ≡ true) ⊎ (b.used < most_lanes)
    room f true e = inl e
    room f false e = let r = known p.issuer (lanes_of b) false e in inr (omega (arith, f.free, length_lanes b s))

-- Its answer, from the lanes with the payment and from the total.

-- the payment's index is within the board exactly if the lanes with it are at most most_lanes
free_lane : (p : Lane) (ls : List Lane) → length ls ≤ most_lanes
    → ltb (index_of p.issuer ls) most_lanes ≡ leb (length (placed p ls)) most_lanes
free_lane p ls few = go (ltb (index_of p.issuer ls) (length ls)) refl
  where
    go : (t : Bool) → ltb (index_of p.issuer ls) (length ls) ≡ t
        → ltb (index_of p.issuer ls) most_lanes ≡ leb (length (placed p ls)) most_lanes
    go true e =
        let h = ltb-true (index_of p.issuer ls) (length ls) e in
        rw (← placed_found p ls h, length-set, lt-ltb (index_of p.issuer ls) most_lanes (omega arith), le-leb (length ls) most_lanes few)
    go false e =
        let h = ltb-false (index_of p.issuer ls) (length ls) e in
        let last : index_of p.issuer ls ≡ length ls = omega (arith, index_within p.issuer ls) in
        rw (last, ← placed_new p ls h, length-append ls (p ∷ []), add-one (length ls))

-- the first of two tests need not be asked where it follows from the second
need_not_ask : (t u : Bool) → (u ≡ true → t ≡ true) → (t && u) ≡ u
need_not_ask true u h = refl
need_not_ask false true h = h refl
need_not_ask false false h = refl

pub answers_as_payments : AnswersAsPayments
unfolding slot_answer sums_answer
answers_as_payments b ps p s e =
    let after : placed p (lanes_of b) ≡ lanes_from (ps ++ (p ∷ [])) = ap (placed p) e ∙ sym (one_payment_more ps p) in
    let sum : plus b.total p.tally ≡ tally_sum (ps ++ (p ∷ [])) =
    plus_swap b.total p.tally ∙ ap (plus p.tally) s.total ∙ sym (placed_kept p (lanes_of b))
    ∙ ap tally_sum after ∙ sum_is_kept (ps ++ (p ∷ [])) in
    let own = grown_below b p s in
    let lane = plus (own_of (slot_of b p.issuer)) p.tally in
    let total = plus b.total p.tally in
    let free =
    free_lane p (lanes_of b) (omega (arith, length_lanes b s, s.few))
    ∙ ap (λ (ls : List Lane). leb (length ls) most_lanes) after in
    let payments = need_not_ask (payments_fit lane) (payments_fit total) (payments_fit_less own) ∙ ap payments_fit sum in
    let tariffs = need_not_ask (tariff_fits lane) (tariff_fits total) (tariff_fits_less own) ∙ ap tariff_fits sum in
    ap₂ (λ (t : Bool) (a : Answer). require t BoardFull issuer_place then a) free
    (ap₂
    (λ (t u : Bool). require t BoardTotalPassed received_place then require u BoardTotalPassed tariff_place)
    payments tariffs)

-- A fresh board and any payments.

-- a payment's index is among the lanes with it, and no lane is lost
placed_longer : (p : Lane) (ls : List Lane)
    → (index_of p.issuer ls < length (placed p ls)) × (length ls ≤ length (placed p ls))
placed_longer p [] = (omega arith, omega arith)
placed_longer p (l ∷ ls) = go (is_lane_of p.issuer l) (placed_longer p ls)
  where
    go : (t : Bool) → (index_of p.issuer ls < length (placed p ls)) × (length ls ≤ length (placed p ls))
        → (cond t 0 (suc (index_of p.issuer ls)) < length (cond t (grown_lane l.tally p ∷ ls) (l ∷ placed p ls)))
        × (suc (length ls) ≤ length (cond t (grown_lane l.tally p ∷ ls) (l ∷ placed p ls)))
    go true h = (omega arith, omega arith)
    go false h = (omega arith, omega arith)

placed_all_longer : (ls ps : List Lane) → length ls ≤ length (placed_all ls ps)
placed_all_longer ls [] = omega arith
placed_all_longer ls (p ∷ ps) = omega (arith, (placed_longer p ls).1, placed_all_longer (placed p ls) ps)

takes : (b : Board) → SoundBoard b → (ps : List Lane)
    → (post_answers b ps ≡ Accepted)
    ↔ ((length (placed_all (lanes_of b) ps) ≤ most_lanes) × (fits (plus b.total (tally_sum ps)) ≡ true))
takes b s [] = (λ e. (omega (arith, length_lanes b s, s.few), rw (plus_none b.total) s.low), λ h. refl)
takes b s (p ∷ ps) =
    let two = then_accepts (post_answer b p) (post_answers (board_with b p) ps) in
    let rest : Fit b p → (post_answers (board_with b p) ps ≡ Accepted)
    ↔ ((length (placed_all (placed p (lanes_of b)) ps) ≤ most_lanes) × (fits (plus b.total (plus p.tally (tally_sum ps))) ≡ true)) =
    λ f. rw (with_placed b p s f.free, plus_groups b.total p.tally (tally_sum ps)) at (takes (board_with b p) (with_sound b p s f) ps) in (
      λ e. (rest ((fit b p).0 (two.0 e).0)).0 (two.0 e).1,
      λ h.
          let sum =
          fits_less (at_most_sum (plus b.total p.tally) (tally_sum ps))
          (rw (plus_groups b.total p.tally (tally_sum ps)) h.1) in
          let free : index_of p.issuer (lanes_of b) < most_lanes =
          omega (arith, (placed_longer p (lanes_of b)).0, placed_all_longer (placed p (lanes_of b)) ps, h.0) in
          let f = sound_fit b p s free sum in
          two.1 ((fit b p).1 f, (rest f).1 h),
    )

pub fresh_board_takes : FreshBoardTakes
fresh_board_takes ps =
    rw (plus_swap empty_tally (tally_sum ps), plus_none (tally_sum ps)) at (takes fresh_board stays_sound.0 ps)

holds : (b : Board) → SoundBoard b → (ps : List Lane) → post_answers b ps ≡ Accepted
    → (lanes_of (board_with_all b ps) ≡ placed_all (lanes_of b) ps) × SoundBoard (board_with_all b ps)
holds b s [] e = (refl, s)
holds b s (p ∷ ps) e =
    let h = (then_accepts (post_answer b p) (post_answers (board_with b p) ps)).0 e in
    let f = (fit b p).0 h.0 in
    rw (with_placed b p s f.free) at (holds (board_with b p) (with_sound b p s f) ps h.1)

pub fresh_board_holds : FreshBoardHolds
fresh_board_holds ps e =
    let h = holds fresh_board stays_sound.0 ps e in
    (h.0, h.1.total ∙ ap tally_sum h.0 ∙ sum_is_kept ps, h.1)
