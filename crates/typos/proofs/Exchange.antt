-- Under modulo 10 two unequal neighbours that change places pass exactly when they are 0 and 9 among the eleven digits of
-- one box. Assumes nothing.
use Prim.Native.Nat.{ℕ, ◌+◌, ◌-◌, ◌*◌, ◌/◌, ◌%◌, ◌≤◌, ◌<◌}
use mathlib.Core.Bool.{true}
use mathlib.Core.List.{List}
use mathlib.Core.Logic.{◌≢◌, ◌↔◌, inr, ⊎_elim}
use mathlib.Core.Path.{◌≡◌, sym, ap, ◌∙◌}
use native.Mathlib.Nat.{eq-or-lt_of_le}
use native.Mathlib.Omega.{arith}
use lib.ListN.{length, get_or, set, length-set}
use lib.Seq.{get_or-set_same, get_or-set_other}
use Rattle.decimal.specs.declared.Class.TheVariants.{Digit}
use Rattle.decimal.specs.Bytes.{is_of}
use Rattle.decimal.specs.Places.{part_at}
use Rattle.decimal.proofs.Places.{part_beside}
use Rattle.modulus.specs.declared.Modulus.TheVariants.{Ten}
use Rattle.modulus.specs.Checks.{remainder_of, check_of, digit_of_remainder, exchanged, ZeroAndNine}
use Rattle.modulus.proofs.Typos.{sum_set, exchange_keeps, check_shows_ten}
use Rattle.barcode.proofs.Codes.{first_three_same}
use Rattle.typos.specs.Typos.{Names, box_at, box_of, InOneBox, whole_of, ExchangeOfNeighbours}
use Rattle.decimal.proofs.Bytes.{all_at, all_set}
use Rattle.typos.proofs.Accepted.{Right, BoxRight, Passed, apart, together}
use Rattle.typos.proofs.Moves.{same_check, right_again, alone, moves, other_box, boxes_again}
use Rattle.typos.proofs.Pieces.{SameByte, in_box, seat, next_seat, in_whole, whole_beside, whole_fourth}
use Rattle.typos.proofs.ZeroNine.{turned, past_the_first_three}

module _ (line : List ℕ) (i : ℕ) (f : Passed Ten line) (h : i + 1 < 48) (ne : get_or line i 0 ≢ get_or line (i + 1) 0) where
  abbrev b : ℕ
  b = get_or line i 0

  abbrev x : ℕ
  x = get_or line (i + 1) 0

  left : is_of Digit b ≡ true
  left = all_at (is_of Digit) line i f.digits (omega arith)

  right : is_of Digit x ≡ true
  right = all_at (is_of Digit) line (i + 1) f.digits (omega arith)

  once : length (set line i x) ≡ 48
  once = length-set line i x ∙ f.long

  other : (j : ℕ) → j ≢ i → j ≢ i + 1 → get_or (exchanged line i) j 0 ≡ get_or line j 0
  other j n o = get_or-set_other (set line i x) (i + 1) j b 0 o ∙ get_or-set_other line i j x 0 n

  first_now : get_or (exchanged line i) i 0 ≡ x
  first_now =
      get_or-set_other (set line i x) (i + 1) i b 0 (λ e. omega arith)
      ∙ get_or-set_same line i x 0 (omega arith)

  -- if a piece has both, its remainder stays exactly when they are 0 and 9
  keeps : (piece : List ℕ → List ℕ) (j : ℕ) → SameByte 48 piece i j → SameByte 48 piece (i + 1) (j + 1)
      → (remainder_of Ten (piece (exchanged line i)) ≡ remainder_of Ten (piece line)) ↔ ZeroAndNine b x
  keeps piece j s t =
      let eb = s.byte line f.long in
      let ex = t.byte line f.long in
      let e : piece (exchanged line i) ≡ set (set (piece line) j x) (j + 1) b
      = cc (t.sets (set line i x) b once, s.sets line x f.long) in
      rw e (rw (eb, ex) at (exchange_keeps 0 (piece line) j (t.inside line f.long) (rw eb left) (rw ex right) (rw (eb, ex) ne)))

  box_keeps : (r : i % 12 < 10)
      → (remainder_of Ten (part_at (box_of i) (exchanged line i)) ≡ remainder_of Ten (part_at (box_of i) line)) ↔ ZeroAndNine b x
  box_keeps r =
      let n = i / 12 in
      let j : i + 1 - 12 * n ≡ i - 12 * n + 1 = omega arith in
      keeps (part_at (box_at n)) (i - 12 * n) (in_box n i (omega arith) (omega arith, omega arith)) (rw j at (in_box n (i + 1) (omega arith) (omega arith, omega arith)))

  whole_keeps : (r : i % 12 < 10) → 4 ≤ i → (remainder_of Ten (whole_of (exchanged line i)) ≡ remainder_of Ten (whole_of line)) ↔ ZeroAndNine b x
  whole_keeps r l =
      keeps whole_of (seat i) (in_whole i (omega arith) (omega arith) (λ e. omega arith))
      (rw (next_seat i (omega arith) (omega arith)) at (in_whole (i + 1) (omega arith) (omega arith) (λ e. omega arith)))

  -- the first of the two is no check of a box: it would change alone
  first_is_digit : Passed Ten (exchanged line i) → i % 12 ≢ 11
  first_is_digit g check =
      let n = i / 12 in
      let at : 12 * n + 11 ≡ i = omega arith in
      let w = part_beside (box_at n) (set line i x) (i + 1) b (inr (omega arith)) ∙ part_beside (box_at n) line i x (inr (omega arith)) in
      let c = alone Ten (part_at (box_at n)) line (12 * n + 11) (exchanged line i) w (f.boxed n (omega arith)) (g.boxed n (omega arith)) in
      ne (cc first_now)

  -- nor is the second: the first would change alone in the whole code
  second_is_digit : Passed Ten (exchanged line i) → i % 12 ≢ 10
  second_is_digit g last =
      let w = whole_beside (set line i x) (i + 1) b (omega arith) in
      let c = same_check Ten whole_of line 3 (exchanged line i) (other 3 (λ e. omega arith) (λ e. omega arith)) f.general g.general in
      let same = in_whole i (omega arith) (omega arith) (λ e. omega arith) in
      ne (sym (moves Ten whole_of line i (seat i) x same f.long left right (check_shows_ten _ _ (omega arith) (omega arith) (rw w at c))))

  only : Passed Ten (exchanged line i) → ZeroAndNine b x × InOneBox i
  only g =
      let n = i / 12 in
      let r : i % 12 < 10 = omega (arith, first_is_digit g, second_is_digit g) in
      let stays = other (12 * n + 11) (λ e. omega arith) (λ e. omega arith) in
      let c = same_check Ten (part_at (box_at n)) line (12 * n + 11) (exchanged line i) stays (f.boxed n (omega arith)) (g.boxed n (omega arith)) in
      ((box_keeps r).0 (check_shows_ten _ _ (omega arith) (omega arith) c), omega arith)

  -- the general check itself and the digit behind it
  fourth : i ≡ 3 → ZeroAndNine b x → Right Ten whole_of 3 (exchanged line i)
  fourth e z =
      let s = in_whole (i + 1) (omega arith) (omega arith) (λ o. omega arith) in
      let k = length (whole_of line) - 1 - seat (i + 1) in
      let w : whole_of (set line i x) ≡ whole_of line = rw e (whole_fourth line (get_or line 4 0) f.long) in
      let q : whole_of (exchanged line i) ≡ set (whole_of line) (seat (i + 1)) b = cc (s.sets (set line i x) b once) in
      let moved = rw (s.byte line f.long) at (sum_set Ten 0 (whole_of line) (seat (i + 1)) b k (omega (arith, s.inside line f.long))) in
      let was = ap (λ (n : ℕ). get_or line n 0) e ∙ f.general in
      ap (λ (n : ℕ). get_or (exchanged line i) n 0) (sym e) ∙ first_now ∙ turned b x _ _ (0 + k) z moved was ∙ ap (λ (l : List ℕ). 48 + check_of Ten l) (sym q)

  when : Names Ten line → ZeroAndNine b x → i % 12 < 10 → Passed Ten (exchanged line i)
  when t z r =
      let n = i / 12 in
      let past = past_the_first_three line i f.first_three t z in
      let same : (j : ℕ) → j < 3 → get_or (exchanged line i) j 0 ≡ get_or line j 0 = λ j l. other j (λ e. omega arith) (λ e. omega arith) in
      let others : (q : ℕ) → q ≢ n → BoxRight Ten q line → BoxRight Ten q (exchanged line i) = λ q ne o.
      other_box Ten (set line i x) (i + 1) b q (λ e. ne (omega arith)) (other_box Ten line i x q ne o) in
      let stays = other (12 * n + 11) (λ e. omega arith) (λ e. omega arith) in
      let own = right_again Ten (part_at (box_at n)) line (12 * n + 11) (exchanged line i) stays (ap (digit_of_remainder Ten) ((box_keeps r).1 z)) (f.boxed n (omega arith)) in
      let later : 3 < i → Right Ten whole_of 3 (exchanged line i) = λ l.
      right_again Ten whole_of line 3 (exchanged line i) (other 3 (λ e. omega arith) (λ e. omega arith)) (ap (digit_of_remainder Ten) ((whole_keeps r l).1 z)) f.general in
      record {
        long = length-set (set line i x) (i + 1) b ∙ once;
        digits = all_set (is_of Digit) (set line i x) (i + 1) b (all_set (is_of Digit) line i x f.digits right) left;
        first_three = first_three_same (exchanged line i) line (same 0 (omega arith)) (same 1 (omega arith)) (same 2 (omega arith)) ∙ f.first_three;
        boxed = boxes_again Ten line (exchanged line i) n others own f.boxed;
        general = ⊎_elim {A = 3 ≡ i} {B = 3 < i} (λ e. fourth (sym e) z) later (eq-or-lt_of_le past);
      }

pub exchange_of_neighbours : ExchangeOfNeighbours
exchange_of_neighbours line i p t h ne t' =
    let f = apart Ten line t p in
    (λ p'. only line i f h ne (apart Ten (exchanged line i) t' p'), λ w. together Ten (exchanged line i) t' (when line i f h ne t w.0 (omega (arith, w.1))))
