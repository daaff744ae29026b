-- Lanes, and payments grouped into lanes, with no board (SPEC.md, "Board"). Assumes nothing.
use Rattle.std.specs.Prelude.{ℕ, ◌+◌, Bool, true, false, cond, ◌&&◌, List, [], ◌∷◌, ◌++◌, map, ◌≡◌, eqb, leb, replicate}
use Rattle.barcode.specs.declared.Issuer.{Issuer}
use Rattle.board.specs.declared.Tally.{Tally}
use Rattle.board.specs.declared.Lane.{Lane}

-- the most lanes of a board, and the most that any of its numbers may reach: 10^18
abbrev pub most_lanes : ℕ
most_lanes = 64

abbrev pub limit : ℕ
limit = 1_000_000_000_000_000_000

-- no payments
abbrev pub empty_tally : Tally
empty_tally = record { payments = 0; centavos = 0; tariff = 0 }

abbrev pub plus : Tally → Tally → Tally
plus a b =
    record {
      payments = a.payments + b.payments;
      centavos = a.centavos + b.centavos;
      tariff = a.tariff + b.tariff;
    }

-- each number is within the limit: payments and centavos, for which 18 points at one place, and tariffs, which have
-- another
unfoldable pub payments_fit : Tally → Bool
payments_fit t = leb t.payments limit && leb t.centavos limit

unfoldable pub tariff_fits : Tally → Bool
tariff_fits t = leb t.tariff limit

unfoldable pub fits : Tally → Bool
fits t = payments_fit t && tariff_fits t

-- an issuer is the segment together with its number
abbrev pub same_issuer : Issuer → Issuer → Bool
same_issuer i j = eqb i.segment j.segment && eqb i.number j.number

abbrev pub is_lane_of : Issuer → Lane → Bool
is_lane_of i l = same_issuer l.issuer i

-- a payment of so many centavos, with this tariff, is a lane of one
abbrev pub lane_of_one : Issuer → ℕ → ℕ → Lane
lane_of_one i centavos tariff =
    record { issuer = i; tally = record { payments = 1; centavos = centavos; tariff = tariff } }

-- a payment's lane, with what its issuer had before
abbrev pub grown_lane : Tally → Lane → Lane
grown_lane before p = record { issuer = p.issuer; tally = plus before p.tally }

-- the lanes with a payment added to its issuer's, or as a new one at the end
abbrev pub placed : Lane → List Lane → List Lane
placed p [] = p ∷ []
placed p (l ∷ ls) = cond (is_lane_of p.issuer l) (grown_lane l.tally p ∷ ls) (l ∷ placed p ls)

-- the lanes with payments added one after the other, in order of arrival
abbrev pub placed_all : List Lane → List Lane → List Lane
placed_all ls [] = ls
placed_all ls (p ∷ ps) = placed_all (placed p ls) ps

-- the lanes of some payments, in the order in which their issuers first appear
abbrev pub lanes_from : List Lane → List Lane
lanes_from ps = placed_all [] ps

-- the sum of lanes or of payments
abbrev pub tally_sum : List Lane → Tally
tally_sum [] = empty_tally
tally_sum (l ∷ ls) = plus l.tally (tally_sum ls)

-- the sum of one number of each lane
abbrev pub sum_by : (Lane → ℕ) → List Lane → ℕ
sum_by w [] = 0
sum_by w (l ∷ ls) = w l + sum_by w ls

-- w is additive; its number of any lane, and of one issuer's lanes alone
abbrev pub Adds : (Tally → ℕ) → Type 0
Adds w = (a b : Tally) → w (plus a b) ≡ w a + w b

abbrev pub each : (Tally → ℕ) → Lane → ℕ
each w l = w l.tally

abbrev pub only : Issuer → (Tally → ℕ) → Lane → ℕ
only i w l = cond (is_lane_of i l) (w l.tally) 0

abbrev pub issuers_of : List Lane → List Issuer
issuers_of ls = map (λ (l : Lane). l.issuer) ls

abbrev pub is_among : Issuer → List Issuer → Bool
is_among i [] = false
is_among i (j ∷ js) = cond (same_issuer j i) true (is_among i js)

-- the issuers of payments, each at its first appearance, without those seen before
abbrev pub appearing : List Issuer → List Lane → List Issuer
appearing seen [] = []
appearing seen (p ∷ ps) =
    cond (is_among p.issuer seen) (appearing seen ps) (p.issuer ∷ appearing (seen ++ (p.issuer ∷ [])) ps)

-- no issuer twice
abbrev pub Distinct : List Issuer → Type 0
Distinct [] = Unit {0}
Distinct (i ∷ is) = (is_among i is ≡ false) × Distinct is

-- Promises, of the sums: an additive number has the same sum over the lanes as over the payments, of all issuers and of
-- each alone.

abbrev pub PaymentsAdd : Type 0
PaymentsAdd = Adds (λ t. t.payments)

abbrev pub CentavosAdd : Type 0
CentavosAdd = Adds (λ t. t.centavos)

abbrev pub TariffsAdd : Type 0
TariffsAdd = Adds (λ t. t.tariff)

abbrev pub SumsAgree : Type 0
SumsAgree = (w : Tally → ℕ) → Adds w → (ps : List Lane) → sum_by (each w) (lanes_from ps) ≡ sum_by (each w) ps

abbrev pub OwnSumsAgree : Type 0
OwnSumsAgree =
    (w : Tally → ℕ) → Adds w → (i : Issuer) (ps : List Lane) → sum_by (only i w) (lanes_from ps) ≡ sum_by (only i w) ps

abbrev pub SumIsKept : Type 0
SumIsKept = (ps : List Lane) → tally_sum (lanes_from ps) ≡ tally_sum ps

-- past 4,294,967,295, where sums of 32 bits would wrap: two payments' centavos, and 430 of the largest tariff
abbrev pub PastThirtyTwoBits : Type 0
PastThirtyTwoBits =
    (i : Issuer)
    → (lanes_from (lane_of_one i 4_294_967_295 0 ∷ lane_of_one i 1 0 ∷ [])
    ≡ record { issuer = i; tally = record { payments = 2; centavos = 4_294_967_296; tariff = 0 } } ∷ [])
    × (lanes_from (replicate 430 (lane_of_one i 1 9_999_999))
    ≡ record { issuer = i; tally = record { payments = 430; centavos = 430; tariff = 4_299_999_570 } } ∷ [])

-- Promises, of the lanes: no issuer has two; they are in order of first appearance; a later payment is added to the
-- lanes of those before it.

abbrev pub NoIssuerTwice : Type 0
NoIssuerTwice = (ps : List Lane) → Distinct (issuers_of (lanes_from ps))

abbrev pub InOrderOfAppearance : Type 0
InOrderOfAppearance = (ps : List Lane) → issuers_of (lanes_from ps) ≡ appearing [] ps

abbrev pub OnePaymentMore : Type 0
OnePaymentMore = (ps : List Lane) (p : Lane) → lanes_from (ps ++ (p ∷ [])) ≡ placed p (lanes_from ps)
