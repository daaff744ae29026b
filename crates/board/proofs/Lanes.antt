-- Laws of payments grouped into lanes: the sums, the issuers, their order. Assumes nothing.
use Prim.Native.Nat.{ℕ, zero, suc, ◌+◌, ◌*◌}
use mathlib.Core.Bool.{Bool, true, false, cond, ◌&&◌, and-eq-true_iff, false≢true}
use mathlib.Core.List.{List, [], ◌∷◌, ◌++◌, append_assoc, append-nil}
use mathlib.Core.Path.{◌≡◌, refl, sym, ap, ap₂, ◌∙◌}
use native.Mathlib.Omega.{arith}
use borrow.Author.Tests.{eqb-true, eq-eqb}
use lib.Dec.{eqb}
use lib.ListN.{replicate}
use Rattle.answer.proofs.Tests.{split, eqb_sym}
use Rattle.barcode.specs.declared.Issuer.{Issuer}
use Rattle.board.specs.declared.Tally.{Tally}
use Rattle.board.specs.declared.Lane.{Lane}
use Rattle.board.proofs.Tallies.{alike}
use Rattle.board.specs.Lanes.{plus, empty_tally, same_issuer, is_lane_of, lane_of_one, grown_lane, placed, placed_all, lanes_from, tally_sum, sum_by, Adds, each, only, issuers_of, is_among, appearing, Distinct, PaymentsAdd, CentavosAdd, TariffsAdd, SumsAgree, OwnSumsAgree, SumIsKept, PastThirtyTwoBits, NoIssuerTwice, InOrderOfAppearance, OnePaymentMore}

-- Issuers.

same_sym : (i j : Issuer) → same_issuer i j ≡ same_issuer j i
same_sym i j = ap₂ ◌&&◌ (eqb_sym i.segment j.segment) (eqb_sym i.number j.number)

pub same_refl : (i : Issuer) → same_issuer i i ≡ true
same_refl i = rw (eq-eqb i.segment i.segment refl, eq-eqb i.number i.number refl)

pub same_is : (i j : Issuer) → same_issuer i j ≡ true → i ≡ j
same_is i j e =
    let h = (and-eq-true_iff (eqb i.segment j.segment) (eqb i.number j.number)).0 e in
    ap₂ {C = Issuer} (λ (g n : ℕ). record { segment = g; number = n }) (eqb-true _ _ h.0) (eqb-true _ _ h.1)

-- The sums.

-- a number to which a payment adds its own, at its issuer's lane
module _ (v : Lane → ℕ)
    (grows : (l p : Lane) → is_lane_of p.issuer l ≡ true → v (grown_lane l.tally p) ≡ v l + v p) where
  placed_sum : (p : Lane) (ls : List Lane) → sum_by v (placed p ls) ≡ sum_by v ls + v p
  placed_sum p [] = omega arith
  placed_sum p (l ∷ ls) =
      split (λ (m : List Lane). sum_by v m ≡ v l + sum_by v ls + v p) (is_lane_of p.issuer l)
      (λ t. omega (arith, grows l p t))
      (λ t. omega (arith, placed_sum p ls))

  placed_all_sum : (ls ps : List Lane) → sum_by v (placed_all ls ps) ≡ sum_by v ls + sum_by v ps
  placed_all_sum ls [] = omega arith
  placed_all_sum ls (p ∷ ps) = omega (arith, placed_all_sum (placed p ls) ps, placed_sum p ls)

pub payments_add : PaymentsAdd
payments_add a b = refl

pub centavos_add : CentavosAdd
centavos_add a b = refl

pub tariffs_add : TariffsAdd
tariffs_add a b = refl

pub sums_agree : SumsAgree
sums_agree w adds ps = placed_all_sum (each w) (λ l p t. adds l.tally p.tally) [] ps ∙ omega arith

pub own_sums_agree : OwnSumsAgree
own_sums_agree w adds i ps = placed_all_sum (only i w) grows [] ps ∙ omega arith
  where
    both : (a b : Tally) (t u : Bool) → t ≡ u → cond u (w (plus a b)) 0 ≡ cond t (w a) 0 + cond u (w b) 0
    both a b true true e = adds a b
    both a b true false e = absurd (false≢true (sym e))
    both a b false true e = absurd (false≢true e)
    both a b false false e = omega arith

    grows : (l p : Lane) → is_lane_of p.issuer l ≡ true → only i w (grown_lane l.tally p) ≡ only i w l + only i w p
    grows l p t =
        both l.tally p.tally (is_lane_of i l) (is_lane_of i p)
        (ap (λ (j : Issuer). same_issuer j i) (same_is l.issuer p.issuer t))

-- a number of the sum is the sum of that number
pub sum_read : (w : Tally → ℕ) → Adds w → (ls : List Lane) → w (tally_sum ls) ≡ sum_by (each w) ls
sum_read w adds [] = let h = adds empty_tally empty_tally in omega arith
sum_read w adds (l ∷ ls) = omega (arith, adds l.tally (tally_sum ls), sum_read w adds ls)

-- two sums are equal if each of their numbers is
same_sum : (ls ms : List Lane) → ((w : Tally → ℕ) → Adds w → sum_by (each w) ls ≡ sum_by (each w) ms)
    → tally_sum ls ≡ tally_sum ms
same_sum ls ms h =
    alike (number (λ t. t.payments) payments_add) (number (λ t. t.centavos) centavos_add)
    (number (λ t. t.tariff) tariffs_add)
  where
    number : (w : Tally → ℕ) → Adds w → w (tally_sum ls) ≡ w (tally_sum ms)
    number w adds = sum_read w adds ls ∙ h w adds ∙ sym (sum_read w adds ms)

pub placed_kept : (p : Lane) (ls : List Lane) → tally_sum (placed p ls) ≡ tally_sum (p ∷ ls)
placed_kept p ls =
    same_sum (placed p ls) (p ∷ ls)
    (λ w adds. placed_sum (each w) (λ l q t. adds l.tally q.tally) p ls ∙ omega arith)

pub sum_is_kept : SumIsKept
sum_is_kept ps = same_sum (lanes_from ps) ps (λ w adds. sums_agree w adds ps)

-- one issuer's payments of 1 centavo, each with the largest tariff, behind its lane
all_added : (i : Issuer) (n : ℕ) (t : Tally)
    → placed_all (record { issuer = i; tally = t } ∷ []) (replicate n (lane_of_one i 1 9_999_999))
    ≡ record { issuer = i; tally = record { payments = t.payments + n; centavos = t.centavos + n; tariff = t.tariff + n * 9_999_999 } } ∷ []
all_added i zero t =
    ap (λ (u : Tally). record { issuer = i; tally = u } ∷ []) (alike (omega arith) (omega arith) (omega arith))
all_added i (suc n) t =
    let one = lane_of_one i 1 9_999_999 in
    rw (placed_all, placed, same_refl i)
    (all_added i n (plus t one.tally)
    ∙ ap (λ (u : Tally). record { issuer = i; tally = u } ∷ []) (alike (omega arith) (omega arith) (omega arith)))

pub past_thirty_two_bits : PastThirtyTwoBits
past_thirty_two_bits i = (
  rw (same_refl i),
  all_added i 429 (lane_of_one i 1 9_999_999).tally,
)

-- The issuers.

-- a payment adds its issuer at the end, unless it is there already
pub placed_issuers : (p : Lane) (ls : List Lane)
    → issuers_of (placed p ls)
    ≡ cond (is_among p.issuer (issuers_of ls)) (issuers_of ls) (issuers_of ls ++ (p.issuer ∷ []))
placed_issuers p [] = refl
placed_issuers p (l ∷ ls) = go (is_lane_of p.issuer l) refl (is_among p.issuer (issuers_of ls)) (placed_issuers p ls)
  where
    go : (t : Bool) → is_lane_of p.issuer l ≡ t → (u : Bool)
        → issuers_of (placed p ls) ≡ cond u (issuers_of ls) (issuers_of ls ++ (p.issuer ∷ []))
        → issuers_of (cond t (grown_lane l.tally p ∷ ls) (l ∷ placed p ls))
        ≡ cond (cond t true u) (l.issuer ∷ issuers_of ls) (l.issuer ∷ (issuers_of ls ++ (p.issuer ∷ [])))
    go true e u h = ap (λ (i : Issuer). i ∷ issuers_of ls) (sym (same_is l.issuer p.issuer e))
    go false e true h = ap (λ (is : List Issuer). l.issuer ∷ is) h
    go false e false h = ap (λ (is : List Issuer). l.issuer ∷ is) h

not_last : (i j : Issuer) (is : List Issuer) → is_among i is ≡ false → same_issuer j i ≡ false
    → is_among i (is ++ (j ∷ [])) ≡ false
not_last i j [] h e = rw e
not_last i j (k ∷ is) h e = go (same_issuer k i) h (λ q. not_last i j is q e)
  where
    go : (t : Bool) → cond t true (is_among i is) ≡ false → (is_among i is ≡ false → is_among i (is ++ (j ∷ [])) ≡ false)
        → cond t true (is_among i (is ++ (j ∷ []))) ≡ false
    go true q later = q
    go false q later = later q

last_distinct : (j : Issuer) (is : List Issuer) → is_among j is ≡ false → Distinct is → Distinct (is ++ (j ∷ []))
last_distinct j [] e h = (refl, tt)
last_distinct j (i ∷ is) e h = go (same_issuer i j) refl e (λ f. last_distinct j is f h.1)
  where
    go : (t : Bool) → same_issuer i j ≡ t → cond t true (is_among j is) ≡ false
        → (is_among j is ≡ false → Distinct (is ++ (j ∷ [])))
        → Distinct (i ∷ (is ++ (j ∷ [])))
    go true q f later = absurd (false≢true (sym f))
    go false q f later = (not_last i j is h.0 (same_sym j i ∙ q), later f)

pub placed_distinct : (p : Lane) (ls : List Lane) → Distinct (issuers_of ls) → Distinct (issuers_of (placed p ls))
placed_distinct p ls h =
    rw (placed_issuers p ls)
    (split Distinct (is_among p.issuer (issuers_of ls)) (λ t. h) (λ t. last_distinct p.issuer (issuers_of ls) t h))

placed_all_distinct : (ls ps : List Lane) → Distinct (issuers_of ls) → Distinct (issuers_of (placed_all ls ps))
placed_all_distinct ls [] h = h
placed_all_distinct ls (p ∷ ps) h = placed_all_distinct (placed p ls) ps (placed_distinct p ls h)

pub no_issuer_twice : NoIssuerTwice
no_issuer_twice ps = placed_all_distinct [] ps tt

placed_all_issuers : (ls ps : List Lane) → issuers_of (placed_all ls ps) ≡ issuers_of ls ++ appearing (issuers_of ls) ps
placed_all_issuers ls [] = sym (append-nil (issuers_of ls))
placed_all_issuers ls (p ∷ ps) =
    placed_all_issuers (placed p ls) ps
    ∙ rw (placed_issuers p ls) (go (issuers_of ls) (is_among p.issuer (issuers_of ls)))
  where
    go : (seen : List Issuer) (t : Bool)
        → cond t seen (seen ++ (p.issuer ∷ [])) ++ appearing (cond t seen (seen ++ (p.issuer ∷ []))) ps
        ≡ seen ++ cond t (appearing seen ps) (p.issuer ∷ appearing (seen ++ (p.issuer ∷ [])) ps)
    go seen true = refl
    go seen false = append_assoc seen (p.issuer ∷ []) (appearing (seen ++ (p.issuer ∷ [])) ps)

pub in_order_of_appearance : InOrderOfAppearance
in_order_of_appearance ps = placed_all_issuers [] ps

placed_all_joins : (ls ps qs : List Lane) → placed_all ls (ps ++ qs) ≡ placed_all (placed_all ls ps) qs
placed_all_joins ls [] qs = refl
placed_all_joins ls (p ∷ ps) qs = placed_all_joins (placed p ls) ps qs

pub one_payment_more : OnePaymentMore
one_payment_more ps p = placed_all_joins [] ps (p ∷ [])
