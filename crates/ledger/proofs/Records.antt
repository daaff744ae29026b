-- What the ledger reads off payment records is what the session and the board make of them. Assumes nothing.
use Prim.Native.Nat.{ℕ, ◌+◌, ◌*◌, ◌≤◌, ◌<◌}
use mathlib.Core.List.{List, [], ◌∷◌, ◌++◌, append_assoc}
use mathlib.Core.Path.{◌≡◌, refl, sym, ap, ◌∙◌}
use native.Mathlib.Omega.{arith}
use native.Mathlib.Nat.{pow-le-pow_right, lt_of_lt_of_le}
use lib.Dec.{lit<}
use lib.ListN.{length, take, drop, length-map, length-take}
use Rattle.decimal.proofs.Numbers.{number_fits}
use Rattle.barcode.specs.declared.Issuer.{Issuer}
use Rattle.layout.specs.Layouts.{layout_of, row_at, table}
use Rattle.board.specs.declared.Lane.{Lane}
use Rattle.board.specs.Lanes.{payments_fit, tariff_fits, lanes_from, tally_sum, sum_by, each, issuers_of, is_among, appearing}
use Rattle.board.proofs.Tallies.{alike}
use Rattle.board.proofs.Lanes.{payments_add, centavos_add, tariffs_add, sum_read, in_order_of_appearance}
use Rattle.ledger.specs.Ledgers.{Filed, payment_records, lane_of_record, lanes_of_records, received_by, received_in, tariff_of, tariff_in, is_seen, issuers_named}
use Rattle.ledger.specs.Records.{LaneIsTheSessions, EqualIsTheBoards, IssuersAreTheLanes, LimitsAreTheBoards}

-- Its lanes are the session's, its issuers the board's.

pub lane_is_the_sessions : LaneIsTheSessions
lane_is_the_sessions agreed rec = refl

pub equal_is_the_boards : EqualIsTheBoards
equal_is_the_boards i j = refl

seen_is : (i : Issuer) (is : List Issuer) → is_seen i is ≡ is_among i is
seen_is i [] = refl
seen_is i (j ∷ is) = rw (seen_is i is)

named_appear : (seen : List Issuer) (recs : List (List ℕ)) → issuers_named seen recs ≡ appearing seen (lanes_of_records recs)
named_appear seen [] = refl
named_appear seen (rec ∷ recs) =
    let i = (lane_of_record rec).issuer in
    rw (seen_is i seen, named_appear seen recs, named_appear (seen ++ (i ∷ [])) recs)

pub issuers_are_the_lanes : IssuersAreTheLanes
issuers_are_the_lanes recs = in_order_of_appearance (lanes_of_records recs) ∙ sym (named_appear [] recs)

-- The sums.

pub lanes_count : (recs : List (List ℕ)) → sum_by (each (λ t. t.payments)) (lanes_of_records recs) ≡ length recs
lanes_count [] = refl
lanes_count (rec ∷ recs) = omega (arith, lanes_count recs)

pub lanes_sum : (recs : List (List ℕ)) → sum_by (each (λ t. t.centavos)) (lanes_of_records recs) ≡ received_in recs
lanes_sum [] = refl
lanes_sum (rec ∷ recs) = omega (arith, lanes_sum recs)

pub lanes_tariff : (recs : List (List ℕ)) → sum_by (each (λ t. t.tariff)) (lanes_of_records recs) ≡ tariff_in recs
lanes_tariff [] = refl
lanes_tariff (rec ∷ recs) = omega (arith, lanes_tariff recs)

pub lanes_tally : (recs : List (List ℕ))
    → tally_sum (lanes_of_records recs) ≡ record { payments = length recs; centavos = received_in recs; tariff = tariff_in recs }
lanes_tally recs =
    alike (sum_read (λ t. t.payments) payments_add (lanes_of_records recs) ∙ lanes_count recs)
    (sum_read (λ t. t.centavos) centavos_add (lanes_of_records recs) ∙ lanes_sum recs)
    (sum_read (λ t. t.tariff) tariffs_add (lanes_of_records recs) ∙ lanes_tariff recs)

-- a tariff has seven digits, so its sum is far below the limit
tariff_small : (rec : List ℕ) → tariff_of rec < 10_000_000
unfolding row_at table layout_of
tariff_small rec =
    let few : length (take 7 (drop 93 rec)) ≤ 7 = omega (arith, length-take 7 (drop 93 rec)) in
    lt_of_lt_of_le (number_fits (take 7 (drop 93 rec))) (pow-le-pow_right (lit< tt) few)

pub tariffs_small : (recs : List (List ℕ)) → tariff_in recs ≤ length recs * 10_000_000
tariffs_small [] = omega arith
tariffs_small (rec ∷ recs) = let h = tariff_small rec in omega (arith, tariffs_small recs)

-- 17 and 18.

pub lanes_joined : (recs : List (List ℕ)) (rec : List ℕ)
    → lanes_of_records (recs ++ (rec ∷ [])) ≡ lanes_of_records recs ++ (lane_of_record rec ∷ [])
lanes_joined [] rec = refl
lanes_joined (r ∷ recs) rec = ap (λ (ps : List Lane). lane_of_record r ∷ ps) (lanes_joined recs rec)

few_issuers : (recs : List (List ℕ)) → length (lanes_from (lanes_of_records recs)) ≡ length (issuers_named [] recs)
few_issuers recs =
    let lanes = lanes_from (lanes_of_records recs) in
    let as_many : length (issuers_of lanes) ≡ length lanes = simp length-map in
    sym as_many ∙ ap length (issuers_are_the_lanes recs)

pub limits_are_the_boards : LimitsAreTheBoards
unfolding payments_fit tariff_fits
limits_are_the_boards recs rec =
    let all = recs ++ (rec ∷ []) in
    rw (← lanes_joined recs rec, few_issuers all, lanes_tally all)

-- More of them.

pub records_joined : (files more : List Filed) → payment_records (files ++ more) ≡ payment_records files ++ payment_records more
records_joined [] more = refl
records_joined (g ∷ files) more =
    ap (λ (recs : List (List ℕ)). g.payments ++ recs) (records_joined files more) ∙
    sym (append_assoc g.payments (payment_records files) (payment_records more))

pub received_joined : (recs : List (List ℕ)) (rec : List ℕ)
    → received_in (recs ++ (rec ∷ [])) ≡ received_in recs + received_by rec
received_joined [] rec = omega arith
received_joined (r ∷ recs) rec = omega (arith, received_joined recs rec)
