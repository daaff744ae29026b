-- Laws of the numbers that a page shows. Assumes nothing.
use Prim.Native.Nat.{ℕ, zero, suc, ◌+◌, ◌*◌, ◌/◌, ◌%◌, ◌^◌, ◌≤◌, ◌<◌, max}
use mathlib.Core.List.{[], ◌∷◌}
use mathlib.Core.Path.{◌≡◌, refl, ap, sym, ◌∙◌}
use native.Mathlib.Omega.{arith}
use native.Mathlib.Nat.{le-max_right, max-le, max-eq_left, max-eq_right, pow-suc, pow-le-pow_right, lt_of_lt_of_le}
use lib.Dec.{lit<}
use lib.ListN.{length, get_or, get_or-append}
use Rattle.decimal.specs.Numbers.{largest_number, digits_of}
use Rattle.decimal.proofs.Numbers.{number_of_digits, digits_fill}
use Rattle.page.specs.Plain.{needed_in, needed, shown, plain, ShownReadsBack, NoLeadingZero, ShownKeepsZeros}
use Rattle.page.specs.Pieces.{most_digits, ShownFits}

in_zero : (turns : ℕ) → needed_in turns 0 ≡ 0
unfolding needed_in
in_zero zero = refl
in_zero (suc turns) = refl

-- more divisions than enough count the same digits
in_enough : (s t n : ℕ) → n ≤ s → n ≤ t → needed_in s n ≡ needed_in t n
unfolding needed_in
in_enough zero t n h k = let e : n ≡ 0 = omega arith in rw e (sym (in_zero t))
in_enough (suc s) zero n h k = let e : n ≡ 0 = omega arith in rw e
in_enough (suc s) (suc t) zero h k = refl
in_enough (suc s) (suc t) (suc n) h k = ap suc (in_enough s t (suc n / 10) (omega arith) (omega arith))

pub needed_more : (n : ℕ) → (n ≡ 0 → ⊥) → needed n ≡ suc (needed (n / 10))
unfolding needed_in
needed_more zero h = absurd (h refl)
needed_more (suc n) h = ap suc (in_enough n (suc n / 10) (suc n / 10) (omega arith) (omega arith))

pub needed_none : (n : ℕ) → n ≡ 0 → needed n ≡ 0
needed_none n e = ap (λ (m : ℕ). needed_in m m) e ∙ in_zero 0

-- a number of k digits is below 10 ^ k, and a number below 10 ^ k has at most k digits
in_holds : (turns n : ℕ) → n ≤ turns → n < 10 ^ needed_in turns n
unfolding needed_in
in_holds zero n h = omega arith
in_holds (suc turns) zero h = lit< tt
in_holds (suc turns) (suc n) h = let below = in_holds turns (suc n / 10) (omega arith) in rw pow-suc (omega arith)

in_few : (turns n k : ℕ) → n < 10 ^ k → needed_in turns n ≤ k
unfolding needed_in
in_few zero n k h = omega arith
in_few (suc turns) zero k h = omega arith
in_few (suc turns) (suc n) zero h = absurd (omega arith)
in_few (suc turns) (suc n) (suc k) h =
    let few = in_few turns (suc n / 10) k (omega (arith, rw pow-suc at h)) in
    omega arith

-- the width that is shown is enough for the number
pub shown_holds : (w n : ℕ) → n < 10 ^ max w (needed n)
shown_holds w n =
    lt_of_lt_of_le (in_holds n n (omega arith)) (pow-le-pow_right (lit< tt) (le-max_right w (needed n)))

-- a number between two powers of 10 has one digit more than the lower one says
pub needed_log : (n log : ℕ) → 10 ^ log ≤ n → n < 10 * 10 ^ log → log + 1 ≡ needed n
needed_log n log low high =
    let few : needed n ≤ suc log = in_few n n (suc log) (rw pow-suc (omega arith)) in
    let holds = in_holds n n (omega arith) in
    let less : needed n ≤ log → 10 ^ needed n ≤ 10 ^ log = λ h. pow-le-pow_right (lit< tt) h in
    grind arith

pub needed_few : (n : ℕ) → n ≤ largest_number → needed n ≤ most_digits
needed_few n h = in_few n n most_digits (omega arith)

pub length_shown : (w n : ℕ) → length (shown w n) ≡ max w (needed n)
length_shown w n = (digits_fill (max w (needed n)) n).0

pub shown_fits : ShownFits
shown_fits w n h k = rw (length_shown w n) (max-le h (needed_few n k))

pub shown_reads_back : ShownReadsBack
shown_reads_back w n = number_of_digits (max w (needed n)) n (shown_holds w n)

pub shown_keeps_zeros : ShownKeepsZeros
shown_keeps_zeros w n h = ap (λ (k : ℕ). digits_of k n) (max-eq_left (in_few n n w h))

-- The first digit of a number in its own width is not 0.

first_more : (w n : ℕ) → get_or (digits_of (suc (suc w)) n) 0 0 ≡ get_or (digits_of (suc w) (n / 10)) 0 0
unfolding digits_of
first_more w n =
    let l : 0 < length (digits_of (suc w) (n / 10)) = omega (arith, (digits_fill (suc w) (n / 10)).0) in
    get_or-append (digits_of (suc w) (n / 10)) ((48 + n % 10) ∷ []) 0 0 l

first_one : (n : ℕ) → get_or (digits_of 1 n) 0 0 ≡ 48 + n % 10
unfolding digits_of
first_one n = refl

first_zero :
    (turns n w : ℕ) → n ≤ turns → needed_in turns n ≡ suc w → get_or (digits_of (suc w) n) 0 0 ≡ 48 → ⊥
unfolding needed_in
first_zero zero n w h e f = omega arith
first_zero (suc turns) zero w h e f = omega arith
first_zero (suc turns) (suc n) zero h e f =
    let z : needed_in turns (suc n / 10) ≡ 0 = omega arith in
    let below = rw z at (in_holds turns (suc n / 10) (omega arith)) in
    omega (arith, first_one (suc n))
first_zero (suc turns) (suc n) (suc w) h e f =
    first_zero turns (suc n / 10) w (omega arith) (omega arith) (sym (first_more w (suc n)) ∙ f)

no_zero : (n : ℕ) → get_or (plain n) 0 0 ≡ 48 → n ≡ 0
no_zero zero f = refl
no_zero (suc n) f =
    let m = needed_more (suc n) (λ e. omega arith) in
    let w : max 1 (needed (suc n)) ≡ suc (needed (suc n / 10)) = max-eq_right (omega arith) ∙ m in
    absurd (first_zero (suc n) (suc n) (needed (suc n / 10)) (omega arith) m (rw w at f))

pub no_leading_zero : NoLeadingZero
unfolding needed_in digits_of
no_leading_zero = (no_zero, refl)
