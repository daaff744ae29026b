-- Laws of digits and numbers. Assumes nothing.
use Prim.Native.Nat.{ℕ, zero, suc, ◌+◌, ◌-◌, ◌*◌, ◌/◌, ◌%◌, ◌^◌, ◌<◌, ◌≤◌}
use mathlib.Core.Bool.{Bool, true, false, cond, ◌&&◌, and-eq-true_iff, and-true}
use mathlib.Core.List.{List, [], ◌∷◌, ◌++◌, append_assoc}
use mathlib.Core.Path.{◌≡◌, refl, ap, sym, ◌∙◌, subst}
use native.Mathlib.Omega.{arith}
use native.Mathlib.Numerals.{add-one}
use native.Mathlib.Nat.{le_refl, le_trans, lt_of_lt_of_le, not-suc-le-zero, pow-suc, pow-succ', pow-le-pow_right, mul-le-mul_right, mul_assoc, min-le_right, one-le-pow}
use borrow.Author.Tests.{leb-true, leb-false, le-leb, lt-ltb, le-ltb, ltb-true, ltb-false}
use lib.Dec.{lit<, leb, ltb}
use lib.ListN.{length, take, drop, get_or, set, length-append}
use lib.Seq.{take_all, take-suc, length-take-le, drop-cons}
use Rattle.std.proofs.lemmas.List.{drop-set}
use Rattle.answer.specs.declared.Reason.TheVariants.{WrongLength, TooWide}
use Rattle.answer.specs.Answers.{Answer}
use Rattle.answer.specs.Orders.{if_accepted}
use Rattle.answer.proofs.Orders.{require_accepts}
use Rattle.answer.proofs.Steps.{passed}
use Rattle.decimal.specs.declared.Class.TheVariants.{Digit}
use Rattle.decimal.specs.Bytes.{is_of, all}
use Rattle.decimal.specs.Places.{put_at}
use Rattle.decimal.proofs.Bytes.{within_bounds, all_joins}
use Rattle.decimal.proofs.Places.{put_fits}
use Rattle.decimal.specs.Numbers.{value_of, number_from, number_of, largest_number, capped, digits_of, width_answer, put_number_answer, NumberOfDigits, DigitsOfNumber, DigitsFill, AcceptedIsWritten, NumberFits, NineteenFit}
use Rattle.decimal.specs.LowHalves.{low_from, low_number_of, LowOfDigits}

-- Digits.

pub value_small : (b : ℕ) → value_of b ≤ 9
unfolding value_of is_of
value_small b = go (leb 48 b) (leb b 57) refl
  where
    go : (t u : Bool) → leb b 57 ≡ u → cond (t && u) (b - 48) 0 ≤ 9
    go true true e = omega (arith, leb-true b 57 e)
    go true false e = omega arith
    go false u e = omega arith

pub digit_range : (b : ℕ) → is_of Digit b ≡ true → (48 ≤ b) × (b ≤ 57)
unfolding is_of
digit_range b e = within_bounds 48 57 b e

pub range_digit : (b : ℕ) → 48 ≤ b → b ≤ 57 → is_of Digit b ≡ true
unfolding is_of
range_digit b lo hi = rw (le-leb 48 b lo, le-leb b 57 hi)

pub value_digit : (b : ℕ) → is_of Digit b ≡ true → value_of b ≡ b - 48
unfolding value_of
value_digit b e = rw e

pub value_other : (b : ℕ) → is_of Digit b ≡ false → value_of b ≡ 0
unfolding value_of
value_other b e = rw e

-- Numbers read.

pub from_grows : (n : ℕ) (bs : List ℕ) → n ≤ number_from n bs
from_grows n [] = le_refl n
from_grows n (b ∷ bs) = let h = from_grows (n * 10 + value_of b) bs in omega arith

from_below : (n : ℕ) (bs : List ℕ) → number_from n bs < (n + 1) * 10 ^ length bs
from_below n [] = omega arith
from_below n (b ∷ bs) =
    let ih : number_from (n * 10 + value_of b) bs < (n * 10 + value_of b + 1) * 10 ^ length bs = from_below (n * 10 + value_of b) bs in
    let v : n * 10 + value_of b + 1 ≤ (n + 1) * 10 = omega (arith, value_small b) in
    let m : (n * 10 + value_of b + 1) * 10 ^ length bs ≤ (n + 1) * 10 * 10 ^ length bs = mul-le-mul_right (10 ^ length bs) v in
    rw (pow-succ' 10 (length bs), ← mul_assoc (n + 1) 10 (10 ^ length bs)) (lt_of_lt_of_le ih m)

pub number_fits : NumberFits
number_fits bs = let h = from_below 0 bs in let e : (0 + 1) * 10 ^ length bs ≡ 10 ^ length bs = omega arith in rw e at h

capped_small : (n : ℕ) → n ≤ largest_number → capped n ≡ n
capped_small n h = omega arith

capped_large : (n : ℕ) → largest_number ≤ n → capped n ≡ largest_number
capped_large n h = omega arith

pub nineteen_fit : NineteenFit
nineteen_fit bs h =
    let p : 10 ^ length bs ≤ 10 ^ 19 = pow-le-pow_right (lit< tt) h in
    capped_small (number_of bs) (omega (arith, number_fits bs))

-- a number that is capped on the way is capped to the same in the end
capped_on : (n : ℕ) (bs : List ℕ) → capped (number_from (capped n) bs) ≡ capped (number_from n bs)
capped_on n bs = go (leb n largest_number) refl
  where
    go : (t : Bool) → leb n largest_number ≡ t → capped (number_from (capped n) bs) ≡ capped (number_from n bs)
    go true e = rw (capped_small n (leb-true n largest_number e))
    go false e =
        let l : largest_number < n = leb-false n largest_number e in
        let m : capped n ≡ largest_number = capped_large n (omega arith) in
        let a : largest_number ≤ number_from largest_number bs = from_grows largest_number bs in
        let b : n ≤ number_from n bs = from_grows n bs in
        rw m (capped_large (number_from largest_number bs) a ∙ sym (capped_large (number_from n bs) (omega arith)))

-- A turn of the loop that reads.
pub read_step : (bs : List ℕ) (i n : ℕ) {m v r : ℕ} → i < length bs → v ≡ value_of (get_or bs i 0)
    → m ≡ capped (n * 10 + v) → capped (number_from n (drop i bs)) ≡ r
    → (m ≤ largest_number) × (capped (number_from m (drop (i + 1) bs)) ≡ r)
read_step bs i n h e f q =
    let next = n * 10 + value_of (get_or bs i 0) in
    rw (f, e, add-one) (min-le_right next largest_number, capped_on next (drop (suc i) bs) ∙ (rw (drop-cons bs i 0 h) at q))

-- Numbers read by low halves.

pub low_value : (b : ℕ) → is_of Digit b ≡ true → b % 16 ≡ value_of b
low_value b t = let r = digit_range b t in let v = value_digit b t in omega arith

low_digits : (n : ℕ) (bs : List ℕ) → all (is_of Digit) bs ≡ true → low_from n bs ≡ number_from n bs
low_digits n [] t = refl
low_digits n (b ∷ bs) t =
    let both = (and-eq-true_iff (is_of Digit b) (all (is_of Digit) bs)).0 t in
    rw (low_value b both.0) (low_digits (n * 10 + value_of b) bs both.1)

pub low_of_digits : LowOfDigits
unfolding low_number_of
low_of_digits bs t h = rw (le-leb (length bs) 19 h) (low_digits 0 bs t)

low_grows : (n : ℕ) (bs : List ℕ) → n ≤ low_from n bs
low_grows n [] = le_refl n
low_grows n (b ∷ bs) = let h = low_grows (n * 10 + b % 16) bs in omega arith

-- a low half is 15 at the most, so that n of them come to at most 5/3 of 10 ^ n
low_below : (n : ℕ) (bs : List ℕ) → 3 * low_from n bs + 5 ≤ (3 * n + 5) * 10 ^ length bs
low_below n [] = omega arith
low_below n (b ∷ bs) =
    let ih : 3 * low_from (n * 10 + b % 16) bs + 5 ≤ (3 * (n * 10 + b % 16) + 5) * 10 ^ length bs = low_below (n * 10 + b % 16) bs in
    let v : 3 * (n * 10 + b % 16) + 5 ≤ (3 * n + 5) * 10 = omega arith in
    let m : (3 * (n * 10 + b % 16) + 5) * 10 ^ length bs ≤ (3 * n + 5) * 10 * 10 ^ length bs = mul-le-mul_right (10 ^ length bs) v in
    rw (pow-succ' 10 (length bs), ← mul_assoc (3 * n + 5) 10 (10 ^ length bs)) (le_trans ih m)

pub low_fit : (bs : List ℕ) (i n : ℕ) → length bs ≤ 19 → i < length bs → low_from n (drop i bs) ≡ low_from 0 bs
    → n * 10 + get_or bs i 0 % 16 ≤ largest_number
low_fit bs i n l h q =
    let p : 10 ^ length bs ≤ 10 ^ 19 = pow-le-pow_right (lit< tt) l in
    let next : low_from (n * 10 + get_or bs i 0 % 16) (drop (suc i) bs) ≡ low_from 0 bs = rw (drop-cons bs i 0 h) at q in
    omega (arith, low_below 0 bs, next, low_grows (n * 10 + get_or bs i 0 % 16) (drop (suc i) bs))

-- The loop that counts a number's digits: the number has none left, or it has more.
pub width_zero : (n k : ℕ) {r : Bool} → n ≡ 0 → ltb n (10 ^ k) ≡ r → true ≡ r
width_zero n k e q = sym (lt-ltb n (10 ^ k) (omega (arith, one-le-pow k 10 (lit< tt)))) ∙ q

pub width_step : (n w i : ℕ) {r : Bool} → i < w → ltb n (10 ^ (w - i)) ≡ r → ltb (n / 10) (10 ^ (w - (i + 1))) ≡ r
width_step n w i h q =
    let k = w - (i + 1) in
    let e : w - i ≡ suc k = omega arith in
    go (10 ^ k) (10 ^ (w - i)) (ap (λ (x : ℕ). 10 ^ x) e ∙ pow-suc 10 k) (ltb n (10 ^ (w - i))) refl ∙ q
  where
    go : (a b : ℕ) → b ≡ a * 10 → (t : Bool) → ltb n b ≡ t → ltb (n / 10) a ≡ ltb n b
    go a b p true e = rw e (lt-ltb (n / 10) a (omega (arith, ltb-true n b e)))
    go a b p false e = rw e (le-ltb (n / 10) a (omega (arith, ltb-false n b e)))

-- Numbers written.

-- The loop that writes from the right: what is still to be written, then what is written.
pub write_step : (out : List ℕ) (i n : ℕ) → 0 < i → i ≤ length out
    → digits_of (i - 1) (n / 10) ++ drop (i - 1) (set out (i - 1) (48 + n % 10)) ≡ digits_of i n ++ drop i out
unfolding digits_of
write_step out zero n h k = absurd (not-suc-le-zero h)
write_step out (suc j) n h k =
    let e : suc j - 1 ≡ j = omega arith in
    rw (e, drop-set out j (48 + n % 10) k, add-one, append_assoc)

pub write_end : (out : List ℕ) (i n : ℕ) {l : List ℕ} → i ≤ 0 → digits_of i n ++ drop i out ≡ l → out ≡ l
unfolding digits_of
write_end out zero n h q = q
write_end out (suc j) n h q = absurd (not-suc-le-zero h)

-- The round trips, over the last digit.

number_snoc : (n : ℕ) (bs : List ℕ) (b : ℕ) → number_from n (bs ++ (b ∷ [])) ≡ number_from n bs * 10 + value_of b
number_snoc n [] b = refl
number_snoc n (a ∷ bs) b = number_snoc (n * 10 + value_of a) bs b

pub digit_back : (d : ℕ) → d ≤ 9 → (is_of Digit (48 + d) ≡ true) × (value_of (48 + d) ≡ d)
digit_back d h =
    let t = range_digit (48 + d) (omega arith) (omega arith) in
    (t, value_digit (48 + d) t ∙ omega arith)

pub number_of_digits : NumberOfDigits
unfolding digits_of
number_of_digits zero n h = omega (arith, h)
number_of_digits (suc w) n h =
    let ih : number_of (digits_of w (n / 10)) ≡ n / 10 = number_of_digits w (n / 10) (omega (arith, rw pow-suc at h)) in
    number_snoc 0 (digits_of w (n / 10)) (48 + n % 10) ∙ rw (ih, (digit_back (n % 10) (omega arith)).1) (omega arith)

all_snoc : (ok : ℕ → Bool) (bs : List ℕ) (b : ℕ) → all ok (bs ++ (b ∷ [])) ≡ (all ok bs && ok b)
all_snoc ok bs b = rw (all_joins, and-true)

pub digits_fill : DigitsFill
unfolding digits_of
digits_fill zero n = (refl, refl)
digits_fill (suc w) n =
    let ih = digits_fill w (n / 10) in
    let d = (digit_back (n % 10) (omega arith)).0 in
    (rw (length-append, ih.0) (omega arith), all_snoc (is_of Digit) (digits_of w (n / 10)) (48 + n % 10) ∙ rw (ih.1, d))

digits_snoc : (w : ℕ) (bs : List ℕ) (b : ℕ) → is_of Digit b ≡ true → digits_of w (number_of bs) ≡ bs
    → digits_of (suc w) (number_of (bs ++ (b ∷ []))) ≡ bs ++ (b ∷ [])
unfolding digits_of
digits_snoc w bs b t e =
    let d = digit_range b t in
    let v = value_digit b t in
    let q : (number_of bs * 10 + value_of b) / 10 ≡ number_of bs = omega arith in
    let r : 48 + (number_of bs * 10 + value_of b) % 10 ≡ b = omega arith in
    rw (number_snoc 0 bs b, q, r, e)

digits_back : (w : ℕ) (bs : List ℕ) → length bs ≡ w → all (is_of Digit) bs ≡ true → digits_of w (number_of bs) ≡ bs
unfolding digits_of
digits_back zero [] h t = refl
digits_back zero (a ∷ bs) h t = absurd (omega arith)
digits_back (suc w) bs h t =
    let s : bs ≡ take w bs ++ (get_or bs w 0 ∷ []) = sym (take_all (suc w) bs (omega arith)) ∙ take-suc bs w 0 (omega arith) in
    let a : (all (is_of Digit) (take w bs) && is_of Digit (get_or bs w 0)) ≡ true =
    sym (all_snoc (is_of Digit) (take w bs) (get_or bs w 0)) ∙ sym (ap (all (is_of Digit)) s) ∙ t in
    let both = (and-eq-true_iff (all (is_of Digit) (take w bs)) (is_of Digit (get_or bs w 0))).0 a in
    let ih = digits_back w (take w bs) (length-take-le w bs (omega arith)) both.0 in
    subst (λ (l : List ℕ). digits_of (suc w) (number_of l) ≡ l) (sym s) (digits_snoc w (take w bs) (get_or bs w 0) both.1 ih)

pub digits_of_number : DigitsOfNumber
digits_of_number bs t = digits_back (length bs) bs refl t

-- Numbers put into a buffer: where it has room, the width decides; a number that fits is written.

pub room_answer : (size at w n : ℕ) → at + w ≤ size → put_number_answer size at w n ≡ width_answer w n
room_answer size at w n h = rw (le-leb (at + w) size h)

pub number_put : (at w n : ℕ) (l : List ℕ) {r : Answer} {q : List ℕ} → at + w ≤ length l → n < 10 ^ w
    → r ≡ put_number_answer (length l) at w n → q ≡ if_accepted r (put_at at (digits_of w n) l) l
    → q ≡ put_at at (digits_of w n) l
number_put at w n l h k e f = f ∙ rw (e ∙ room_answer (length l) at w n h, lt-ltb n (10 ^ w) k)

pub accepted_is_written : AcceptedIsWritten
accepted_is_written at w n l e =
    let both = passed (leb (at + w) (length l)) WrongLength 0 e in
    let fits = leb-true (at + w) (length l) both.0 in
    let small = ltb-true n (10 ^ w) ((require_accepts (ltb n (10 ^ w)) TooWide 1).0 both.1) in
    let d = (digits_fill w n).0 in
    let within : at + length (digits_of w n) ≤ length l = rw d fits in (
      (rw d at (put_fits at (digits_of w n) l within)),
      number_of_digits w n small,
    )
