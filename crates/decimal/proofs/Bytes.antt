-- Laws of a part whose bytes must pass a test. They hold for every test. Assumes nothing.
use Prim.Native.Nat.{ℕ, zero, suc, ◌+◌, ◌-◌, ◌<◌, ◌≤◌}
use mathlib.Core.Bool.{Bool, true, false, cond, ◌&&◌, and-eq-true_iff, and_assoc, and-false}
use mathlib.Core.List.{List, [], ◌∷◌, ◌++◌, append_assoc}
use mathlib.Core.Path.{◌≡◌, refl, sym, ap, ◌∙◌}
use native.Mathlib.Nat.{add-suc, suc-add, add-zero}
use native.Mathlib.Numerals.{add-one}
use native.Mathlib.Omega.{arith}
use borrow.Author.Tests.{leb-true, ne_eqb}
use lib.Bits.{bit_or, or_zero_r, or_add_and, and_le_l}
use lib.Dec.{leb, eqb}
use lib.ListN.{length, get_or, set, take, drop, length-drop, take-append-drop, length-append}
use lib.Seq.{drop-cons, take_all, take-take, take-add, length-take-le, take-append_seam}
use Rattle.answer.specs.declared.Reason.{Reason}
use Rattle.answer.specs.Refusals.{reason_number, answer_number, answer_place}
use Rattle.answer.specs.Orders.{require, moved_by}
use Rattle.answer.proofs.Orders.{require_accepts, then_accepts, moved_then, require_place, then_place, require_number, then_number}
use Rattle.decimal.specs.Bytes.{within, all, each_is, AllJoins, AllOfPart, EachAccepts, EachRefuses, EachMoves}

pub within_bounds : (lo hi b : ℕ) → within lo hi b ≡ true → (lo ≤ b) × (b ≤ hi)
within_bounds lo hi b t = let both = (and-eq-true_iff (leb lo b) (leb b hi)).0 t in (leb-true lo b both.0, leb-true b hi both.1)

-- a list of length 0 has nothing in it
pub length_zero : (l : List ℕ) → length l ≡ 0 → l ≡ []
length_zero [] h = refl
length_zero (b ∷ l) h = absurd (omega arith)

pub all_joins : AllJoins
all_joins ok [] ys = refl
all_joins ok (b ∷ xs) ys = ap (λ (t : Bool). ok b && t) (all_joins ok xs ys) ∙ sym (and_assoc (ok b) (all ok xs) (all ok ys))

pub all_of_part : AllOfPart
all_of_part ok from count bs h =
    let whole : (n : ℕ) (l : List ℕ) → all ok l ≡ true → (all ok (take n l) ≡ true) × (all ok (drop n l) ≡ true) = λ n l t.
    (and-eq-true_iff (all ok (take n l)) (all ok (drop n l))).0 (sym (all_joins ok (take n l) (drop n l)) ∙ ap (all ok) (take-append-drop n l) ∙ t) in
    (whole count (drop from bs) (whole from bs h).1).0

-- at one byte, and with one byte set
pub all_at : (ok : ℕ → Bool) (bs : List ℕ) (i : ℕ) → all ok bs ≡ true → i < length bs → ok (get_or bs i 0) ≡ true
all_at ok [] i h l = absurd (omega arith)
all_at ok (b ∷ bs) zero h l = ((and-eq-true_iff (ok b) (all ok bs)).0 h).0
all_at ok (b ∷ bs) (suc i) h l = all_at ok bs i ((and-eq-true_iff (ok b) (all ok bs)).0 h).1 (omega arith)

pub all_set : (ok : ℕ → Bool) (bs : List ℕ) (i d : ℕ) → all ok bs ≡ true → ok d ≡ true → all ok (set bs i d) ≡ true
all_set ok [] i d h e = refl
all_set ok (b ∷ bs) zero d h e = rw (e, ((and-eq-true_iff (ok b) (all ok bs)).0 h).1)
all_set ok (b ∷ bs) (suc i) d h e = let both = (and-eq-true_iff (ok b) (all ok bs)).0 h in rw (both.0, all_set ok bs i d both.1 e)

pub each_accepts : EachAccepts
each_accepts ok why p [] = (λ e. refl, λ e. refl)
each_accepts ok why p (b ∷ bs) =
    let here = require_accepts (ok b) why p in
    let row = then_accepts (require (ok b) why p) (each_is ok why (suc p) bs) in
    let rest = each_accepts ok why (suc p) bs in
    let both = and-eq-true_iff (ok b) (all ok bs) in
    (λ e. both.1 (here.0 (row.0 e).0, rest.0 (row.0 e).1), λ h. row.1 (here.1 (both.0 h).0, rest.1 (both.0 h).1))

pub each_refuses : EachRefuses
each_refuses ok why p i [] h a e = absurd (omega arith)
each_refuses ok why p zero (b ∷ bs) h a e = rw (e, add-zero)
each_refuses ok why p (suc i) (b ∷ bs) h a e =
    let both = (and-eq-true_iff (ok b) (all ok (take i bs))).0 a in
    let later = each_refuses ok why (suc p) i bs (omega arith) both.1 e in
    rw (both.0, later, add-suc, suc-add)

require_moves : (t : Bool) (why : Reason) (p by : ℕ) → require t why (p + by) ≡ moved_by (λ q. q + by) (require t why p)
require_moves true why p by = refl
require_moves false why p by = refl

pub each_moves : EachMoves
each_moves ok why p by [] = refl
each_moves ok why p by (b ∷ bs) =
    let rest = each_moves ok why (suc p) by bs in
    let e : suc (p + by) ≡ suc p + by = sym (suc-add p by) in
    rw (e, rest, require_moves (ok b) why p by) (sym (moved_then (λ q. q + by) (require (ok b) why p) (each_is ok why (suc p) bs)))

pub each_place : (ok : ℕ → Bool) (why : Reason) (p : ℕ) (bs : List ℕ) → answer_place (each_is ok why p bs) ≤ p + length bs
each_place ok why p [] = omega arith
each_place ok why p (b ∷ bs) =
    then_place (p + suc (length bs)) (require (ok b) why p) (each_is ok why (suc p) bs) (require_place (p + suc (length bs)) (ok b) why p (omega arith))
    (omega (arith, each_place ok why (suc p) bs))

pub each_number : (n : ℕ) (ok : ℕ → Bool) (why : Reason) (p : ℕ) (bs : List ℕ) → reason_number why ≤ n → answer_number (each_is ok why p bs) ≤ n
each_number n ok why p [] h = omega arith
each_number n ok why p (b ∷ bs) h =
    then_number n (require (ok b) why p) (each_is ok why (suc p) bs) (require_number n (ok b) why p h) (each_number n ok why (suc p) bs h)

-- The flag of a loop over all bytes: 0 as long as none failed.
or_one : (n : ℕ) → eqb (bit_or n 1) 0 ≡ false
or_one n = ne_eqb _ _ (λ (e : bit_or n 1 ≡ 0). omega (arith, or_add_and n 1, and_le_l n 1))

pub flag_on : (t : Bool) (n : ℕ) (rest : Bool) → (eqb (bit_or n (cond t 0 1)) 0 && rest) ≡ (eqb n 0 && (t && rest))
flag_on true n rest = rw or_zero_r
flag_on false n rest = rw (or_one, and-false)

-- two flags are one
pub two_flags : (t u : Bool) → bit_or (cond t 0 1) (cond u 0 1) ≡ cond (t && u) 0 1
two_flags true true = refl
two_flags true false = refl
two_flags false true = refl
two_flags false false = refl

pub flag_step : (ok : ℕ → Bool) (bs : List ℕ) (i n : ℕ) {f : ℕ} {r : Bool} → i < length bs
    → f ≡ cond (ok (get_or bs i 0)) 0 1 → (eqb n 0 && all ok (drop i bs)) ≡ r
    → (eqb (bit_or n f) 0 && all ok (drop (i + 1) bs)) ≡ r
flag_step ok bs i n h e q = rw (e, add-one, flag_on (ok (get_or bs i 0)) n (all ok (drop (suc i) bs))) (rw (drop-cons bs i 0 h) at q)

-- A part checked in rows: the bytes before i have passed, and the last row may start before i.
module _ (ok : ℕ → Bool) (bs : List ℕ) (i : ℕ) where
  pub row_fails : (n : ℕ) {t : Bool} → t ≡ all ok (take n (drop i bs)) → t ≡ false → false ≡ all ok bs
  row_fails n e f = go (all ok bs) refl
    where
      go : (u : Bool) → all ok bs ≡ u → false ≡ all ok bs
      go true h = sym f ∙ e ∙ all_of_part ok i n bs h ∙ sym h
      go false h = sym h

  pub row_passes : (n : ℕ) {t : Bool} → t ≡ all ok (take n (drop i bs)) → t ≡ true → all ok (take i bs) ≡ true
      → all ok (take (i + n) bs) ≡ true
  row_passes n e f p = rw (take-add i n bs, all_joins ok (take i bs) (take n (drop i bs)), p) (sym e ∙ f)

  pub last_row : (w : ℕ) {t : Bool} → w ≤ length bs → length bs - w ≤ i → all ok (take i bs) ≡ true
      → t ≡ all ok (take (length bs - (length bs - w)) (drop (length bs - w) bs)) → t ≡ all ok bs
  last_row w h k p e =
      let s = length bs - w in
      let front : all ok (take s bs) ≡ true = ap (all ok) (sym (take-take s i bs k)) ∙ all_of_part ok 0 s (take i bs) p in
      let whole : take (length bs - s) (drop s bs) ≡ drop s bs = take_all (length bs - s) (drop s bs) (omega (arith, length-drop s bs)) in
      e ∙ ap (all ok) whole ∙ sym (rw front at (sym (ap (all ok) (take-append-drop s bs)) ∙ all_joins ok (take s bs) (drop s bs)))

-- Rows taken off a list: those before the rest have passed. The last row covers a rest that fills no row of its size.
pub record RowsPassed (ok : ℕ → Bool) (xs rest : List ℕ) : Type 0 where
  pub front : List ℕ
  pub whole : front ++ rest ≡ xs
  pub passed : all ok front ≡ true

module _ (ok : ℕ → Bool) (bs : List ℕ) (n : ℕ) {rest : List ℕ} (h : RowsPassed ok (take n bs) rest) where
  module _ (row next : List ℕ) {t : Bool} (e : rest ≡ row ++ next) (a : t ≡ all ok row) where
    pub one_more_passed : t ≡ true → RowsPassed ok (take n bs) next
    one_more_passed f = record {
      front = h.front ++ row;
      whole = append_assoc h.front row next ∙ (rw e at h.whole);
      passed = rw (all_joins ok h.front row, h.passed) (sym a ∙ f);
    }

    pub one_failed : t ≡ false → false ≡ all ok bs
    one_failed f =
        let joined : all ok (take n bs) ≡ (all ok row && all ok next) =
        ap (all ok) (rw e at (sym h.whole)) ∙ rw (all_joins ok h.front (row ++ next), h.passed) (all_joins ok row next) in
        row_fails ok bs 0 n refl (joined ∙ rw (sym a ∙ f))

  pub rest_covered : (w : ℕ) {t : Bool} → length rest < w → n + 1 ≡ length bs → w ≤ length bs
      → t ≡ all ok (take (length bs - (length bs - w)) (drop (length bs - w) bs)) → t ≡ all ok bs
  rest_covered w few whole long e =
      let i = length h.front in
      let l : i + length rest ≡ n = sym (length-append h.front rest) ∙ ap length h.whole ∙ length-take-le n bs (omega arith) in
      let same : take i bs ≡ h.front = sym (take-take i n bs (omega arith)) ∙ ap (take i) (sym h.whole) ∙ take-append_seam h.front rest in
      last_row ok bs i w long (omega arith) (ap (all ok) same ∙ h.passed) e
