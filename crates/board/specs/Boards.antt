-- The board (SPEC.md, "Board"): the index of an issuer's lane, and what posting one payment leaves. Assumes nothing.
use Rattle.std.specs.Prelude.{ℕ, suc, ◌+◌, ◌≤◌, ◌<◌, true, false, cond, ◌&&◌, List, [], ◌∷◌, ◌++◌, ◌↔◌, ◌⊎◌, ◌≡◌, ltb, leb, length, get_or, set, take, replicate}
use Rattle.answer.specs.Refusals.{received_place, tariff_place, issuer_place}
use Rattle.answer.specs.declared.Reason.TheVariants.{BoardFull, BoardTotalPassed}
use Rattle.answer.specs.Answers.{Answer, Accepted, Refused}
use Rattle.answer.specs.Orders.{require, ◌then◌, if_accepted}
use Rattle.barcode.specs.declared.Issuer.{Issuer}
use Rattle.board.specs.declared.Tally.{Tally}
use Rattle.board.specs.declared.Lane.{Lane}
use Rattle.board.specs.declared.Board.{Board}
use Rattle.board.specs.declared.Slot.{Slot}
use Rattle.board.specs.Lanes.{most_lanes, empty_tally, plus, payments_fit, tariff_fits, fits, is_lane_of, grown_lane, placed, lanes_from, tally_sum, issuers_of, is_among, Distinct}

-- the array's entry where no lane is in use
abbrev pub blank : Lane
blank = record { issuer = record { segment = 0; number = 0 }; tally = empty_tally }

abbrev pub fresh_board : Board
fresh_board = record { lanes = replicate most_lanes blank; used = 0; total = empty_tally }

-- the lanes in use
abbrev pub lanes_of : Board → List Lane
lanes_of b = take b.used b.lanes

-- the index of the issuer's lane, counted from 0; the number of lanes if it has none
abbrev pub index_of : Issuer → List Lane → ℕ
index_of i [] = 0
index_of i (l ∷ ls) = cond (is_lane_of i l) 0 (suc (index_of i ls))

-- all that a payment at this index can change
abbrev pub slot_at : Board → ℕ → Slot
slot_at b at = record { at = at; lane = get_or b.lanes at blank; used = b.used; total = b.total }

abbrev pub slot_of : Board → Issuer → Slot
slot_of b i = slot_at b (index_of i (lanes_of b))

-- the board with a slot put back
abbrev pub with_slot : Board → Slot → Board
with_slot b s = record { lanes = set b.lanes s.at s.lane; used = s.used; total = s.total }

-- the tally of the lane at the slot's index; zeros if the index is not in use
unfoldable pub own_of : Slot → Tally
own_of s = cond (ltb s.at s.used) s.lane.tally empty_tally

-- how many lanes are in use once the slot's is
unfoldable pub used_after : Slot → ℕ
used_after s = cond (ltb s.at s.used) s.used (s.at + 1)

-- the slot with one more payment
abbrev pub grown_slot : Slot → Lane → Slot
grown_slot s p =
    record { at = s.at; lane = grown_lane (own_of s) p; used = used_after s; total = plus s.total p.tally }

-- 18: a number of the lane or of the total would pass the limit; payments or centavos at one place, tariffs behind them
-- at another
unfoldable pub sums_answer : Tally → Tally → Answer
sums_answer lane total =
    require (payments_fit lane && payments_fit total) BoardTotalPassed received_place
    then require (tariff_fits lane && tariff_fits total) BoardTotalPassed tariff_place

-- 17: a new issuer when all lanes are in use; 18
unfoldable pub slot_answer : Slot → Lane → Answer
slot_answer s p =
    require (ltb s.at most_lanes) BoardFull issuer_place
    then sums_answer (grown_slot s p).lane.tally (grown_slot s p).total

-- the answer to a payment and the slot after it; a refusal leaves the slot as it was
pub record SlotResult : Type 0 where
  pub answer : Answer
  pub slot : Slot

abbrev pub slot_result_of : Slot → Lane → SlotResult
slot_result_of s p = record { answer = slot_answer s p; slot = if_accepted (slot_answer s p) (grown_slot s p) s }

-- a payment posted to the slot of its issuer
abbrev pub post_answer : Board → Lane → Answer
post_answer b p = slot_answer (slot_of b p.issuer) p

abbrev pub board_with : Board → Lane → Board
board_with b p = with_slot b (grown_slot (slot_of b p.issuer) p)

-- the answer to a payment and the board after it; a refusal leaves the board as it was
pub record PostResult : Type 0 where
  pub answer : Answer
  pub board : Board

abbrev pub post_result_of : Board → Lane → PostResult
post_result_of b p = record { answer = post_answer b p; board = if_accepted (post_answer b p) (board_with b p) b }

-- payments one after the other, in order of arrival: the first refusal, and the board with them all
abbrev pub post_answers : Board → List Lane → Answer
post_answers b [] = Accepted
post_answers b (p ∷ ps) = post_answer b p then post_answers (board_with b p) ps

abbrev pub board_with_all : Board → List Lane → Board
board_with_all b [] = b
board_with_all b (p ∷ ps) = board_with_all (board_with b p) ps

-- the answer to a payment after others, with no board: 17: more issuers than lanes; 18: a sum that would pass the
-- limit, of payments or centavos, then of tariffs
abbrev pub answer_after : List Lane → Lane → Answer
answer_after ps p =
    require (leb (length (lanes_from (ps ++ (p ∷ [])))) most_lanes) BoardFull issuer_place
    then require (payments_fit (tally_sum (ps ++ (p ∷ [])))) BoardTotalPassed received_place
    then require (tariff_fits (tally_sum (ps ++ (p ∷ [])))) BoardTotalPassed tariff_place

-- what holds of every board that the methods return from a fresh one
pub record SoundBoard (b : Board) : Type 0 where
  pub full : length b.lanes ≡ most_lanes
  pub few : b.used ≤ most_lanes
  pub once : Distinct (issuers_of (lanes_of b))
  pub total : b.total ≡ tally_sum (lanes_of b)
  pub low : fits b.total ≡ true

-- Promises, of one payment: a refusal changes nothing, and an accepted payment is added to its lane; a sound board
-- stays sound, and accepts exactly if the issuer has a lane or one is free, and no total passes the limit. Of any
-- board, 18 points at the tariff exactly if there is a lane for the payment and only tariffs would pass the limit.

abbrev pub RefusalKeepsBoard : Type 0
RefusalKeepsBoard = (b : Board) (p : Lane) → ((post_result_of b p).answer ≡ Accepted → ⊥) → (post_result_of b p).board ≡ b

abbrev pub PostPlaces : Type 0
PostPlaces =
    (b : Board) (p : Lane) → SoundBoard b → post_answer b p ≡ Accepted → lanes_of (board_with b p) ≡ placed p (lanes_of b)

abbrev pub StaysSound : Type 0
StaysSound = SoundBoard fresh_board × ((b : Board) (p : Lane) → SoundBoard b → SoundBoard (post_result_of b p).board)

abbrev pub PostAccepts : Type 0
PostAccepts =
    (b : Board) (p : Lane) → SoundBoard b
    → (post_answer b p ≡ Accepted)
    ↔ (((is_among p.issuer (issuers_of (lanes_of b)) ≡ true) ⊎ (b.used < most_lanes))
    × (fits (plus b.total p.tally) ≡ true))

abbrev pub TariffsPassLast : Type 0
TariffsPassLast =
    (b : Board) (p : Lane)
    → let s = slot_of b p.issuer in let lane = (grown_slot s p).lane.tally in let total = (grown_slot s p).total in
    (post_answer b p ≡ Refused BoardTotalPassed tariff_place)
    ↔ ((s.at < most_lanes) × (payments_fit lane ≡ true) × (payments_fit total ≡ true)
    × ((tariff_fits lane && tariff_fits total) ≡ false))

-- Promises, of a board that holds some payments: its answers follow from them alone. A fresh board takes payments
-- exactly if they have at most 64 issuers and a sum within the limit; its lanes are then the payments grouped by
-- issuer, and its total is their sum.

abbrev pub AnswersAsPayments : Type 0
AnswersAsPayments =
    (b : Board) (ps : List Lane) (p : Lane) → SoundBoard b → lanes_of b ≡ lanes_from ps
    → post_answer b p ≡ answer_after ps p

abbrev pub FreshBoardTakes : Type 0
FreshBoardTakes =
    (ps : List Lane)
    → (post_answers fresh_board ps ≡ Accepted) ↔ ((length (lanes_from ps) ≤ most_lanes) × (fits (tally_sum ps) ≡ true))

abbrev pub FreshBoardHolds : Type 0
FreshBoardHolds =
    (ps : List Lane) → post_answers fresh_board ps ≡ Accepted
    → (lanes_of (board_with_all fresh_board ps) ≡ lanes_from ps) × ((board_with_all fresh_board ps).total ≡ tally_sum ps)
    × SoundBoard (board_with_all fresh_board ps)
