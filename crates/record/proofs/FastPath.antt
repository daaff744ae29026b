-- Laws of the fast path's checks, row by row and part by part. Assumes nothing.
use Rattle.std.specs.Prelude.{None, Option, Some}
use Rattle.layout.specs.declared.Record.{Record}
use Prim.Native.Nat.{ℕ, ◌+◌, ◌-◌, ◌≤◌, ◌<◌}
use mathlib.Core.Bool.{Bool, true, false, cond, ◌&&◌, and-eq-true_iff}
use mathlib.Core.List.{List, [], ◌∷◌}
use mathlib.Core.Path.{◌≡◌, refl, sym, ap, ◌∙◌}
use native.Mathlib.Numerals.{add-one}
use native.Mathlib.Omega.{arith}
use borrow.Author.Tests.{eqb-true}
use lib.Bits.{bit_or}
use lib.Dec.{eqb}
use lib.ListN.{length, get_or, take, drop, length-drop}
use lib.Seq.{take_all, drop-cons}
use Rattle.decimal.specs.declared.Class.TheVariants.{Digit, Blank, Text}
use Rattle.decimal.specs.Bytes.{is_of, all}
use Rattle.decimal.proofs.Bytes.{flag_on, row_fails, last_row, two_flags}
use Rattle.layout.specs.Layouts.{row_at, account_row, received_row, number_row, branch_row, capture_row, authentication_row, form_row, payment_blank_row, named_by}
use Rattle.layout.specs.declared.Record.TheVariants.{Header, Payment, Trailer}
use Rattle.kinds.specs.Kinds.{is_capture, is_form}
use Rattle.record.specs.FastPath.{column_holds, SixteenEach, rows_hold, parts_hold, span_of, is_plain, is_coded}
use Rattle.record.specs.Records.{field_bytes}

-- The flags of six bytes are one flag.

pub six_flags : (a b c d e f : Bool) {u v w x y z : ℕ} → u ≡ cond a 0 1 → v ≡ cond b 0 1 → w ≡ cond c 0 1 → x ≡ cond d 0 1 → y ≡ cond e 0 1 → z ≡ cond f 0 1
    → bit_or (bit_or u v) (bit_or (bit_or w x) (bit_or y z)) ≡ cond ((a && b) && ((c && d) && (e && f))) 0 1
six_flags a b c d e f eu ev ew ex ey ez =
    rw (eu, ev, ew, ex, ey, ez, two_flags a b, two_flags c d, two_flags e f, two_flags (c && d) (e && f), two_flags (a && b) ((c && d) && (e && f)))

-- Six rows at column i.

weave : (t r u s : Bool) → ((t && r) && (u && s)) ≡ ((t && u) && (r && s))
weave false r u s = refl
weave true false false s = refl
weave true false true s = refl
weave true true u s = refl

abbrev pub from : ℕ → List ℕ → List ℕ → List ℕ → List ℕ → List ℕ → List ℕ → Bool
from i a b c d e f = rows_hold (drop i a) (drop i b) (drop i c) (drop i d) (drop i e) (drop i f)

module _ (a b c d e f : List ℕ) (six : SixteenEach a b c d e f) (i n : ℕ) where
  next : (ok : ℕ → Bool) (l : List ℕ) → length l ≡ 16 → i < 16 → all ok (drop i l) ≡ (ok (get_or l i 0) && all ok (drop (i + 1) l))
  next ok l g h = rw (add-one, drop-cons l i 0 (omega arith))

  pub rows_step : {x : ℕ} {r : Bool} → i < 16
      → x ≡ cond (column_holds (get_or a i 0) (get_or b i 0) (get_or c i 0) (get_or d i 0) (get_or e i 0) (get_or f i 0)) 0 1
      → (eqb n 0 && from i a b c d e f) ≡ r → (eqb (bit_or n x) 0 && from (i + 1) a b c d e f) ≡ r
  rows_step h g q =
      let ta = is_of Text (get_or a i 0) in
      let tb = is_of Text (get_or b i 0) in
      let tc = is_of Text (get_or c i 0) in
      let td = is_of Text (get_or d i 0) in
      let te = is_of Digit (get_or e i 0) in
      let tf = is_of Digit (get_or f i 0) in
      let ra = all (is_of Text) (drop (i + 1) a) in
      let rb = all (is_of Text) (drop (i + 1) b) in
      let rc = all (is_of Text) (drop (i + 1) c) in
      let rd = all (is_of Text) (drop (i + 1) d) in
      let re = all (is_of Digit) (drop (i + 1) e) in
      let rf = all (is_of Digit) (drop (i + 1) f) in
      let front : from i a b c d e f ≡ ((ta && tb) && ((tc && td) && (te && tf))) && from (i + 1) a b c d e f =
      rw (next (is_of Text) a six.0 h, next (is_of Text) b six.1 h, next (is_of Text) c six.2 h, next (is_of Text) d six.3 h, next (is_of Digit) e six.4 h, next (is_of Digit) f six.5 h, weave ta ra tb rb, weave tc rc td rd, weave te re tf rf, weave (tc && td) (rc && rd) (te && tf) (re && rf))
      (weave (ta && tb) (ra && rb) ((tc && td) && (te && tf)) ((rc && rd) && (re && rf))) in
      rw (g, flag_on ((ta && tb) && ((tc && td) && (te && tf))) n (from (i + 1) a b c d e f), ← front) q

-- a part of 16 to 32 bytes is its first sixteen and its last
pub last_sixteen : (bs : List ℕ) → 16 ≤ length bs
    → (take (length bs - (length bs - 16)) (drop (length bs - 16) bs) ≡ drop (length bs - 16) bs) × (length (drop (length bs - 16) bs) ≡ 16)
last_sixteen bs h =
    let n : length (drop (length bs - 16) bs) ≡ 16 = length-drop (length bs - 16) bs ∙ omega arith in
    (take_all (length bs - (length bs - 16)) (drop (length bs - 16) bs) (omega arith), n)

pub two_rows : (ok : ℕ → Bool) (bs : List ℕ) → 16 ≤ length bs → length bs ≤ 32 → (all ok (take 16 bs) && all ok (drop (length bs - 16) bs)) ≡ all ok bs
two_rows ok bs h k = go (all ok (take 16 bs)) refl
  where
    go : (t : Bool) → all ok (take 16 bs) ≡ t → (t && all ok (drop (length bs - 16) bs)) ≡ all ok bs
    go false e = row_fails ok bs 0 16 (sym e) refl
    go true e = last_row ok bs 16 16 h (omega arith) e (ap (all ok) (sym (last_sixteen bs h).0))

-- its checks of a record, in its order
module _ (rec : List ℕ) where
  abbrev texts : Bool
  texts = parts_hold (field_bytes (row_at account_row) rec) (span_of (row_at branch_row) (row_at authentication_row) rec) (span_of (row_at received_row) (row_at number_row) rec)

  pub parts_fail : {t : Bool} → t ≡ texts → t ≡ false → false ≡ is_plain rec
  unfolding is_plain
  parts_fail e f = rw (sym e ∙ f)

  pub blanks_are : {t v : Bool} → t ≡ texts → t ≡ true → v ≡ all (is_of Blank) (field_bytes (row_at payment_blank_row) rec) → v ≡ is_plain rec
  unfolding is_plain
  blanks_are e f k = rw (sym e ∙ f, k)

  pub capture_fails : (version : ℕ) {u : Bool} → u ≡ is_capture version (get_or (field_bytes (row_at capture_row) rec) 0 0) → u ≡ false → false ≡ is_coded version rec
  unfolding is_coded
  capture_fails version e f = rw (sym e ∙ f)

  pub form_is : (version : ℕ) {u v : Bool} → u ≡ is_capture version (get_or (field_bytes (row_at capture_row) rec) 0 0) → u ≡ true
      → v ≡ is_form version (get_or (field_bytes (row_at form_row) rec) 0 0) → v ≡ is_coded version rec
  unfolding is_coded
  form_is version e f g = rw (sym e ∙ f, g)

pub named_payment : (b : ℕ) → named_by b ≡ Some Payment → b ≡ 71
unfolding named_by
named_payment b e = go (eqb b 65) (eqb b 71) (eqb b 90) refl e
  where
    go : (t u v : Bool) → eqb b 71 ≡ u → ◌≡◌ {A = Option Record} (cond t (Some Header) (cond u (Some Payment) (cond v (Some Trailer) None))) (Some Payment) → b ≡ 71
    go true u v f q = let z : ◌≡◌ {A = ℕ} 0 1 = cc in absurd (omega arith)
    go false true v f q = eqb-true b 71 f
    go false false true f q = let z : ◌≡◌ {A = ℕ} 0 1 = cc in absurd (omega arith)
    go false false false f q = let z : ◌≡◌ {A = ℕ} 0 1 = cc in absurd (omega arith)

pub one_byte : (bs : List ℕ) → length bs ≡ 1 → is_of Text (get_or bs 0 0) ≡ true → all (is_of Text) bs ≡ true
one_byte [] n t = absurd (omega arith)
one_byte (b ∷ []) n t = (and-eq-true_iff (is_of Text b) true).1 (t, refl)
one_byte (b ∷ c ∷ bs) n t = absurd (omega arith)
