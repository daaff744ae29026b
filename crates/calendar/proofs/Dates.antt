-- Laws of dates and of the bytes that spell them. Assumes nothing.
use Rattle.std.specs.Bool.{then_some}
use Rattle.std.specs.Prelude.{None, Some}
use Prim.Native.Nat.{ℕ, suc, ◌+◌, ◌-◌, ◌*◌, ◌^◌, ◌≤◌, ◌<◌}
use mathlib.Core.Bool.{Bool, true, false, cond, ◌&&◌, and-eq-true_iff}
use mathlib.Core.List.{List, [], ◌∷◌, ◌++◌}
use mathlib.Core.Path.{◌∙◌, ◌≡◌, refl, sym}
use native.Mathlib.Numerals.{add-one}
use native.Mathlib.Omega.{arith}
use borrow.Author.Tests.{eq-eqb, ne_eqb, le-leb, eqb-true, leb-true, leb-false}
use lib.Dec.{eqb, leb}
use lib.ListN.{length, get_or, take, drop, length-append, length-drop, take-append-drop}
use lib.Seq.{take_all, take_at, drop_at, drop-drop, drop-cons}
use Rattle.decimal.specs.declared.Class.TheVariants.{Digit}
use Rattle.decimal.specs.Bytes.{within, is_of, all}
use Rattle.decimal.specs.Places.{places}
use Rattle.decimal.specs.Numbers.{value_of, number_of, digits_of}
use Rattle.decimal.proofs.Bytes.{within_bounds, all_joins, all_of_part, all_at}
use Rattle.decimal.proofs.Finite.{below, at}
use Rattle.decimal.proofs.Numbers.{digit_range, value_digit, number_of_digits, digits_of_number, digits_fill}
use Rattle.decimal.proofs.Places.{length_piece}
use Rattle.calendar.specs.declared.Date.{Date}
use Rattle.calendar.specs.Dates.{is_leap, months, days_in, is_date, spelled, date_of, spelling, DateIsItsSpelling, SpellingIsItsDate}
use Rattle.calendar.proofs.Months.{no_month}

-- what is left to check of a date whose year and day are in range
pub by_days : (d : Date) {n : ℕ} → 1900 ≤ d.year → d.year ≤ 2199 → 1 ≤ d.day → n ≡ days_in d.year d.month
    → leb d.day n ≡ is_date d
unfolding is_date
by_days d lo hi one e = rw (e, le-leb 1900 d.year lo, le-leb d.year 2199 hi, le-leb 1 d.day one)

-- a digit of a list, and the numbers of two and four
pub digit_at_holds : (bs : List ℕ) (i : ℕ) → all (is_of Digit) bs ≡ true → i < length bs
    → (48 ≤ get_or bs i 0) × (get_or bs i 0 ≤ 57) × (value_of (get_or bs i 0) ≡ get_or bs i 0 - 48)
digit_at_holds bs i a h =
    let t = all_at (is_of Digit) bs i a h in
    let range = digit_range (get_or bs i 0) t in
    (range.0, range.1, value_digit (get_or bs i 0) t)

pub two : (bs : List ℕ) (at : ℕ) → at + 2 ≤ length bs
    → number_of (take 2 (drop at bs)) ≡ value_of (get_or bs at 0) * 10 + value_of (get_or bs (at + 1) 0)
two bs at h = rw (drop-cons bs at 0 (omega arith), drop-cons bs (suc at) 0 (omega arith), add-one) (omega arith)

four : (bs : List ℕ) → 4 ≤ length bs → 100 * number_of (take 2 bs) + number_of (take 2 (drop 2 bs)) ≡ number_of (take 4 bs)
four (a ∷ b ∷ c ∷ d ∷ bs) h = omega arith
four (a ∷ b ∷ c ∷ []) h = absurd (omega arith)
four (a ∷ b ∷ []) h = absurd (omega arith)
four (a ∷ []) h = absurd (omega arith)
four [] h = absurd (omega arith)

-- the library's `then_some` is a choice
then_some_cond : (t : Bool) (d : Date) → then_some t d ≡ cond t (Some d) None
then_some_cond true d = refl
then_some_cond false d = refl

-- The answers of a reader of dates, in its order.
module _ (bs : List ℕ) where
  pub no_eight : (length bs ≡ 8 → ⊥) → None ≡ date_of bs
  unfolding date_of
  no_eight h = rw (ne_eqb (length bs) 8 h)

  pub no_digits : length bs ≡ 8 → all (is_of Digit) bs ≡ false → None ≡ date_of bs
  unfolding date_of
  no_digits n a = rw (eq-eqb (length bs) 8 n, a)

  pub as_spelled : {c y m d : ℕ} → length bs ≡ 8 → c ≡ number_of (take 2 bs) → y ≡ number_of (places 3 4 bs)
      → m ≡ number_of (places 5 6 bs)
      → d ≡ number_of (places 7 8 bs) → ◌≡◌ {A = Date} (record { year = 100 * c + y; month = m; day = d }) (spelled bs)
  as_spelled n ec ey em ed = rw (ec, ey, em, ed, four bs (omega arith))

  pub judged : {d : Date} {t : Bool} → length bs ≡ 8 → all (is_of Digit) bs ≡ true → d ≡ spelled bs → t ≡ is_date d
      → then_some t d ≡ date_of bs
  unfolding date_of
  judged {d} {t} n a e f = then_some_cond t d ∙ rw (f, e, eq-eqb (length bs) 8 n, a)

-- Bytes that are a date are its spelling.

module _ (bs : List ℕ) (n : length bs ≡ 8) (a : all (is_of Digit) bs ≡ true) where
  part_spelled : (from count : ℕ) → from + count ≤ 8
      → digits_of count (number_of (take count (drop from bs))) ≡ take count (drop from bs)
  part_spelled from count fits =
      let l : length (take count (drop from bs)) ≡ count = length_piece from count bs (omega arith) in
      rw l at (digits_of_number (take count (drop from bs)) (all_of_part (is_of Digit) from count bs a))

  spelled_back : spelling (spelled bs) ≡ bs
  spelled_back =
      let l : length (drop 6 bs) ≤ 2 = omega (arith, length-drop 6 bs) in
      let e : take 2 (drop 4 bs) ++ take 2 (drop 6 bs) ≡ drop 4 bs =
      cc (take_all 2 (drop 6 bs) l, drop-drop 2 4 bs, take-append-drop 2 (drop 4 bs)) in
      rw (part_spelled 0 4 (omega arith), part_spelled 4 2 (omega arith), part_spelled 6 2 (omega arith), e) (take-append-drop 4 bs)

pub date_is_its_spelling : DateIsItsSpelling
unfolding date_of
date_is_its_spelling bs d e = go (eqb (length bs) 8 && (all (is_of Digit) bs && is_date (spelled bs))) refl e
  where
    go : (t : Bool) → (eqb (length bs) 8 && (all (is_of Digit) bs && is_date (spelled bs))) ≡ t
        → cond t (Some (spelled bs)) None ≡ Some d
        → (is_date d ≡ true) × (spelling d ≡ bs)
    go true h q =
        let s : spelled bs ≡ d = cc in
        let l = (and-eq-true_iff (eqb (length bs) 8) (all (is_of Digit) bs && is_date (spelled bs))).0 h in
        let k = (and-eq-true_iff (all (is_of Digit) bs) (is_date (spelled bs))).0 l.1 in
        rw (← s) (k.1, spelled_back bs (eqb-true (length bs) 8 l.0) k.0)
    go false h q = let z : ◌≡◌ {A = ℕ} 0 1 = cc in absurd (omega arith)

-- The spelling of a date is that date.

-- a month has at most 31 days, and none past the twelfth has any
small : ℕ → Bool
small m = leb (get_or months m 0) 31

smalls : below 13 small ≡ true
unfolding small
smalls = refl

module _ (y m : ℕ) where
  few_months : 1 ≤ days_in y m → m ≤ 12
  few_months h = go (leb m 12) refl
    where
      go : (t : Bool) → leb m 12 ≡ t → m ≤ 12
      go true e = leb-true m 12 e
      go false e = absurd (omega (arith, no_month y m (leb-false m 12 e)))

  few_days : m ≤ 12 → days_in y m ≤ 31
  unfolding days_in small
  few_days h = go (eqb m 2 && is_leap y)
    where
      go : (t : Bool) → cond t 29 (get_or months m 0) ≤ 31
      go true = omega arith
      go false = leb-true (get_or months m 0) 31 (at 13 small smalls m (omega arith))

in_range : (d : Date) → is_date d ≡ true → (d.year < 10 ^ 4) × (d.month < 10 ^ 2) × (d.day < 10 ^ 2)
unfolding is_date
in_range d h =
    let n = days_in d.year d.month in
    let both = (and-eq-true_iff (within 1900 2199 d.year) (within 1 n d.day)).0 h in
    let year = within_bounds 1900 2199 d.year both.0 in
    let days = within_bounds 1 n d.day both.1 in
    let month = few_months d.year d.month (omega arith) in
    let most = few_days d.year d.month month in
    (omega arith, omega arith, omega arith)

-- three stretches of digits, read back
module _ (a b c : List ℕ) (la : length a ≡ 4) (lb : length b ≡ 2) (lc : length c ≡ 2) where
  all_three : all (is_of Digit) a ≡ true → all (is_of Digit) b ≡ true → all (is_of Digit) c ≡ true
      → all (is_of Digit) (a ++ (b ++ c)) ≡ true
  all_three da db dc = rw (all_joins (is_of Digit) a (b ++ c), da, all_joins (is_of Digit) b c, db, dc)

  spelled_three : spelled (a ++ (b ++ c)) ≡ record { year = number_of a; month = number_of b; day = number_of c }
  spelled_three =
      let e : drop 6 (a ++ (b ++ c)) ≡ c = cc (drop-drop 2 4 (a ++ (b ++ c)), drop_at a (b ++ c) 4 la, drop_at b c 2 lb) in
      rw (take_at a (b ++ c) 4 la, drop_at a (b ++ c) 4 la, take_at b c 2 lb, e, take_all 2 c (omega arith))

pub spelling_is_its_date : SpellingIsItsDate
spelling_is_its_date d h =
    let y = digits_fill 4 d.year in
    let m = digits_fill 2 d.month in
    let t = digits_fill 2 d.day in
    let range = in_range d h in
    let a = digits_of 4 d.year in
    let b = digits_of 2 d.month in
    let c = digits_of 2 d.day in
    let n : length (a ++ (b ++ c)) ≡ 8 = omega (arith, length-append a (b ++ c), length-append b c) in
    let e : d ≡ spelled (a ++ (b ++ c)) =
    rw (spelled_three a b c y.0 m.0 t.0, number_of_digits 4 d.year range.0, number_of_digits 2 d.month range.1, number_of_digits 2 d.day range.2) in
    sym (judged (a ++ (b ++ c)) n (all_three a b c y.0 m.0 t.0 y.1 m.1 t.1) e (sym h))
