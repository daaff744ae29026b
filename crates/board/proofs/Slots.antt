-- Laws of a slot: its answer in the order of the refusals, and the board that it is put back to. Assumes nothing.
use Rattle.std.specs.Prelude.{Err}
use Prim.Native.Nat.{ℕ}
use mathlib.Core.Bool.{Bool, true, false, ◌&&◌, and-eq-true_iff}
use mathlib.Core.List.{List}
use mathlib.Core.Logic.{◌↔◌}
use mathlib.Core.Path.{◌≡◌, refl, ap}
use lib.Dec.{leb}
use lib.ListN.{set}
use lib.Seq.{set-get_or}
use Rattle.answer.specs.Refusals.{received_place, tariff_place}
use Rattle.answer.specs.declared.Reason.TheVariants.{BoardTotalPassed}
use Rattle.answer.specs.Answers.{Answer, Accepted}
use Rattle.answer.specs.Orders.{require, ◌then◌, if_accepted}
use Rattle.answer.proofs.Orders.{require_accepts, then_accepts}
use Rattle.board.specs.declared.Tally.{Tally}
use Rattle.board.specs.declared.Lane.{Lane}
use Rattle.board.specs.declared.Board.{Board}
use Rattle.board.specs.Boards.{SlotResult, PostResult, blank, lanes_of, index_of, slot_at, with_slot, grown_slot, sums_answer, slot_answer, slot_result_of, post_result_of}
use Rattle.board.proofs.Tallies.{fits_both}
use Rattle.board.specs.Lanes.{limit, payments_fit, tariff_fits, fits}

-- number by number, of the lane and of the total at once: the first pair with a number past the limit decides
pub sums_in_turn : (lane total : Tally)
    → sums_answer lane total
    ≡ require (leb lane.payments limit && leb total.payments limit) BoardTotalPassed received_place
    then require (leb lane.centavos limit && leb total.centavos limit) BoardTotalPassed received_place
    then require (leb lane.tariff limit && leb total.tariff limit) BoardTotalPassed tariff_place
unfolding sums_answer payments_fit tariff_fits
sums_in_turn lane total =
    go (leb lane.payments limit) (leb lane.centavos limit) (leb total.payments limit) (leb total.centavos limit)
    (require (leb lane.tariff limit && leb total.tariff limit) BoardTotalPassed tariff_place)
  where
    go : (p c q d : Bool) (tariffs : Answer)
        → require ((p && c) && (q && d)) BoardTotalPassed received_place then tariffs
        ≡ require (p && q) BoardTotalPassed received_place then require (c && d) BoardTotalPassed received_place then tariffs
    go true true true d tariffs = refl
    go true true false d tariffs = refl
    go true false true d tariffs = refl
    go true false false d tariffs = refl
    go false c q d tariffs = refl

-- sums that are accepted fit, the lane's and the total's, place by place
pub sums_accept : (lane total : Tally)
    → (sums_answer lane total ≡ Accepted) ↔ ((fits lane ≡ true) × (fits total ≡ true))
unfolding sums_answer
sums_accept lane total =
    let older = both_fit (payments_fit lane) (payments_fit total) received_place in
    let tariffs = both_fit (tariff_fits lane) (tariff_fits total) tariff_place in
    let two =
    then_accepts (require (payments_fit lane && payments_fit total) BoardTotalPassed received_place)
    (require (tariff_fits lane && tariff_fits total) BoardTotalPassed tariff_place) in (
      λ e.
          let o = older.0 (two.0 e).0 in
          let t = tariffs.0 (two.0 e).1 in
          ((fits_both lane).1 (o.0, t.0), (fits_both total).1 (o.1, t.1)),
      λ h.
          let l = (fits_both lane).0 h.0 in
          let t = (fits_both total).0 h.1 in
          two.1 (older.1 (l.0, t.0), tariffs.1 (l.1, t.1)),
    )
  where
    both_fit : (t u : Bool) (place : ℕ)
        → (require (t && u) BoardTotalPassed place ≡ Accepted) ↔ ((t ≡ true) × (u ≡ true))
    both_fit t u place =
        let one = require_accepts (t && u) BoardTotalPassed place in
        let both = and-eq-true_iff t u in
        (λ e. both.0 (one.0 e), λ h. one.1 (both.1 h))

-- the slot after a posting, put back: if the payment is refused, the board is as it was
pub put_back : (b : Board) (p : Lane) (at : ℕ) (e : SlotResult) → at ≡ index_of p.issuer (lanes_of b)
    → e ≡ slot_result_of (slot_at b at) p
    → ◌≡◌ {A = PostResult}
    (record { answer = e.answer; board = record { lanes = set b.lanes at e.slot.lane; used = e.slot.used; total = e.slot.total } })
    (post_result_of b p)
put_back b p at e i f =
    rw (f, i) (go (index_of p.issuer (lanes_of b)) (slot_answer (slot_at b (index_of p.issuer (lanes_of b))) p))
  where
    go : (k : ℕ) (a : Answer)
        → ◌≡◌ {A = PostResult}
        (record {
          answer = a;
          board = record {
            lanes = set b.lanes k (if_accepted a (grown_slot (slot_at b k) p) (slot_at b k)).lane;
            used = (if_accepted a (grown_slot (slot_at b k) p) (slot_at b k)).used;
            total = (if_accepted a (grown_slot (slot_at b k) p) (slot_at b k)).total;
          };
        })
        (record { answer = a; board = if_accepted a (with_slot b (grown_slot (slot_at b k) p)) b })
    go k Accepted = refl
    go k (Err refusal) =
        ap
        {B = PostResult} (λ (ls : List Lane). record { answer = Err refusal; board = record { lanes = ls; used = b.used; total = b.total } })
        (set-get_or b.lanes k blank)
