-- The board shown is the payment records of accepted files: by issuer, in order, each lane, the sums. Assumes nothing.
use Prim.Native.Nat.{ℕ}
use mathlib.Core.Bool.{Bool, true, false, cond, false≢true}
use mathlib.Core.List.{List, [], ◌∷◌}
use mathlib.Core.Path.{◌≡◌, refl, sym, ap, ap₂, ◌∙◌}
use native.Mathlib.Omega.{arith}
use Rattle.answer.specs.Orders.{Each}
use Rattle.answer.proofs.Orders.{each_map}
use Rattle.answer.proofs.Tests.{split}
use Rattle.barcode.specs.declared.Issuer.{Issuer}
use Rattle.board.specs.declared.Tally.{Tally}
use Rattle.board.specs.declared.Lane.{Lane}
use Rattle.board.specs.Lanes.{same_issuer, is_lane_of, lanes_from, sum_by, Adds, each, only, issuers_of, is_among, Distinct}
use Rattle.board.proofs.Tallies.{low, alike}
use Rattle.board.proofs.Lanes.{same_refl, same_is, payments_add, centavos_add, tariffs_add, sum_read, sums_agree, own_sums_agree, no_issuer_twice}
use Rattle.board.proofs.Posting.{length_lanes}
use Rattle.ledger.specs.Ledgers.{lane_of_record, lanes_of_records, of_issuer}
use Rattle.ledger.specs.Promises.{reached, shown_lanes, accepted_records, LanesAreThePayments, LanesInOrder, EachLaneIsExact, SumsAreTheRecords, TotalsAreTheRecords, NoIssuerHasTwoLanes, WithinLimits}
use Rattle.ledger.proofs.Records.{issuers_are_the_lanes, lanes_count, lanes_sum, lanes_tariff}
use Rattle.ledger.proofs.Agreement.{session_agrees}

pub lanes_are_the_payments : LanesAreThePayments
lanes_are_the_payments steps = (session_agrees steps).shown

pub lanes_in_order : LanesInOrder
lanes_in_order steps =
    ap issuers_of (lanes_are_the_payments steps) ∙ issuers_are_the_lanes (accepted_records steps)

pub no_issuer_has_two_lanes : NoIssuerHasTwoLanes
no_issuer_has_two_lanes steps =
    rw (lanes_are_the_payments steps) (no_issuer_twice (lanes_of_records (accepted_records steps)))

-- The sums.

pub sums_are_the_records : SumsAreTheRecords
sums_are_the_records steps =
    let recs = accepted_records steps in
    rw (lanes_are_the_payments steps) (
      sums_agree (λ t. t.payments) payments_add (lanes_of_records recs) ∙ lanes_count recs,
      sums_agree (λ t. t.centavos) centavos_add (lanes_of_records recs) ∙ lanes_sum recs,
      sums_agree (λ t. t.tariff) tariffs_add (lanes_of_records recs) ∙ lanes_tariff recs,
    )

pub totals_are_the_records : TotalsAreTheRecords
totals_are_the_records steps =
    let sums = sums_are_the_records steps in
    let sum = (session_agrees steps).sound_shown.total in
    alike
    (ap (λ (t : Tally). t.payments) sum ∙ sum_read (λ t. t.payments) payments_add (shown_lanes steps) ∙ sums.0)
    (ap (λ (t : Tally). t.centavos) sum ∙ sum_read (λ t. t.centavos) centavos_add (shown_lanes steps) ∙ sums.1)
    (ap (λ (t : Tally). t.tariff) sum ∙ sum_read (λ t. t.tariff) tariffs_add (shown_lanes steps) ∙ sums.2)

pub within_limits : WithinLimits
within_limits steps =
    let sound = (session_agrees steps).sound_shown in
    let totals = low (reached steps).shown.total sound.low in
    (omega (arith, length_lanes (reached steps).shown sound, sound.few), totals.payments, totals.centavos, totals.tariff)

-- Each lane.

differ : (i j : Issuer) → same_issuer i j ≡ false → same_issuer j i ≡ false
differ i j e = go (same_issuer j i) refl
  where
    go : (t : Bool) → same_issuer j i ≡ t → same_issuer j i ≡ false
    go true q = let s = same_is j i q in absurd (false≢true (sym e ∙ ap₂ same_issuer (sym s) s ∙ q))
    go false q = q

neither : (t u : Bool) → cond t true u ≡ false → (t ≡ false) × (u ≡ false)
neither true u e = absurd (false≢true (sym e))
neither false u e = (refl, e)

-- if no issuer has two lanes, an issuer's sum is what its lane shows
not_there : (w : Tally → ℕ) (i : Issuer) (ls : List Lane) → is_among i (issuers_of ls) ≡ false → sum_by (only i w) ls ≡ 0
not_there w i [] e = refl
not_there w i (l ∷ ls) e =
    let n = neither (same_issuer l.issuer i) (is_among i (issuers_of ls)) e in
    rw n.0 (omega (arith, not_there w i ls n.1))

behind_lane : (l : Lane) (ls ms : List Lane) → is_among l.issuer (issuers_of ms) ≡ false
    → Each (λ (m : Lane). (w : Tally → ℕ) → sum_by (only m.issuer w) ls ≡ w m.tally) ms
    → Each (λ (m : Lane). (w : Tally → ℕ) → sum_by (only m.issuer w) (l ∷ ls) ≡ w m.tally) ms
behind_lane l ls [] e h = tt
behind_lane l ls (m ∷ ms) e h =
    let n = neither (same_issuer m.issuer l.issuer) (is_among l.issuer (issuers_of ms)) e in
    (λ w. rw (differ m.issuer l.issuer n.0) (omega (arith, h.0 w)), behind_lane l ls ms n.1 h.1)

own_lanes : (ls : List Lane) → Distinct (issuers_of ls)
    → Each (λ (l : Lane). (w : Tally → ℕ) → sum_by (only l.issuer w) ls ≡ w l.tally) ls
own_lanes [] h = tt
own_lanes (l ∷ ls) h = (
  λ w. rw (same_refl l.issuer) (omega (arith, not_there w l.issuer ls h.0)),
  behind_lane l ls ls h.0 (own_lanes ls h.1),
)

-- an issuer's sum over records is that over its own records
own_sum : (w : Tally → ℕ) (i : Issuer) (recs : List (List ℕ))
    → sum_by (only i w) (lanes_of_records recs) ≡ sum_by (each w) (lanes_of_records (of_issuer i recs))
own_sum w i [] = refl
own_sum w i (rec ∷ recs) =
    split
    (λ (own : List (List ℕ)). sum_by (only i w) (lanes_of_records (rec ∷ recs)) ≡ sum_by (each w) (lanes_of_records own))
    (is_lane_of i (lane_of_record rec))
    (λ t. rw t (omega (arith, own_sum w i recs)))
    (λ t. rw t (omega (arith, own_sum w i recs)))

pub each_lane_is_exact : EachLaneIsExact
each_lane_is_exact steps =
    let recs = accepted_records steps in
    let lanes = lanes_from (lanes_of_records recs) in
    let own : (l : Lane) → ((w : Tally → ℕ) → sum_by (only l.issuer w) lanes ≡ w l.tally)
    → (w : Tally → ℕ) → Adds w → w l.tally ≡ sum_by (each w) (lanes_of_records (of_issuer l.issuer recs)) =
    λ l h w adds.
    sym (h w) ∙ own_sums_agree w adds l.issuer (lanes_of_records recs) ∙ own_sum w l.issuer recs in
    rw (lanes_are_the_payments steps)
    (each_map
    (λ l h.
    let its = of_issuer l.issuer recs in (
      own l h (λ t. t.payments) payments_add ∙ lanes_count its,
      own l h (λ t. t.centavos) centavos_add ∙ lanes_sum its,
      own l h (λ t. t.tariff) tariffs_add ∙ lanes_tariff its,
    ))
    lanes (own_lanes lanes (no_issuer_twice (lanes_of_records recs))))
