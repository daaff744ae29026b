-- Under modulo 11 one changed digit passes exactly when it is none of the five checks and both its remainders move
-- between 0 and 1. Assumes nothing.
use Prim.Native.Nat.{ℕ, ◌+◌, ◌-◌, ◌*◌, ◌/◌, ◌%◌, ◌≤◌, ◌<◌}
use mathlib.Core.Bool.{Bool, true, false, cond}
use mathlib.Core.List.{List}
use mathlib.Core.Logic.{◌≢◌, ◌↔◌, inr, ⊎_elim}
use mathlib.Core.Path.{◌≡◌, refl, sym, ◌∙◌}
use native.Mathlib.Omega.{arith}
use borrow.Author.Tests.{leb-false, le-leb}
use lib.Dec.{leb}
use lib.ListN.{get_or, set, length-set}
use lib.Seq.{get_or-set_same, get_or-set_other}
use Rattle.decimal.specs.declared.Class.TheVariants.{Digit}
use Rattle.decimal.specs.Bytes.{is_of}
use Rattle.decimal.specs.Places.{part_at}
use Rattle.decimal.proofs.Numbers.{value_small}
use Rattle.modulus.specs.declared.Modulus.TheVariants.{Ten, Eleven}
use Rattle.modulus.specs.Checks.{remainder_of, BetweenZeroAndOne}
use Rattle.modulus.proofs.Typos.{check_shows_eleven}
use Rattle.barcode.specs.Codes.{digit_at, is_kind, modulus_of}
use Rattle.barcode.proofs.Codes.{first_three_accepts}
use Rattle.typos.specs.Typos.{box_of, whole_of, box_remainder, code_remainder, NoCheck, BothMove, OneChangedDigitUnderEleven}
use Rattle.decimal.proofs.Bytes.{all_at, all_set}
use Rattle.typos.proofs.Accepted.{Right, BoxRight, Passed, apart, together}
use Rattle.typos.proofs.Moves.{same_check, right_again, alone, moves, in_its_box, other_box, boxes_again}
use Rattle.typos.proofs.Pieces.{SameByte, in_box, seat, in_whole, whole_fourth}

-- a digit that names modulo 11 is a value kind
kind_of_eleven : (k : ℕ) → k ≤ 9 → modulus_of k ≡ Eleven → is_kind k ≡ true
kind_of_eleven k h e = go (leb k 7) refl e
  where
    go : (t : Bool) → leb k 7 ≡ t → cond t Ten Eleven ≡ Eleven → is_kind k ≡ true
    go true q f = let z : ◌≡◌ {A = ℕ} 0 1 = cc in absurd (omega arith)
    go false q f = let l = leb-false k 7 q in rw (le-leb 6 k (omega arith), le-leb k 9 h)

module _ (line : List ℕ) (i d : ℕ) (f : Passed Eleven line) (h : i < 48) (ne : d ≢ get_or line i 0) (hd : is_of Digit d ≡ true) where
  digit : is_of Digit (get_or line i 0) ≡ true
  digit = all_at (is_of Digit) line i f.digits (omega arith)

  -- the check of a piece that has the digit holds again exactly when the piece's remainder moves between 0 and 1
  holds_again : (piece : List ℕ → List ℕ) (at j : ℕ) → at ≢ i → SameByte 48 piece i j → Right Eleven piece at line
      → Right Eleven piece at (set line i d) ↔ BetweenZeroAndOne (remainder_of Eleven (piece line)) (remainder_of Eleven (piece (set line i d)))
  holds_again piece at j other s r =
      let stays : get_or (set line i d) at 0 ≡ get_or line at 0 = get_or-set_other line i at d 0 other in
      let shows = check_shows_eleven (remainder_of Eleven (piece line)) (remainder_of Eleven (piece (set line i d))) (omega arith) (omega arith) in (
        λ r'.
            ⊎_elim (λ e. absurd (ne (moves Eleven piece line i j d s f.long digit hd (sym e)))) (λ z. z)
            (shows.0 (sym (same_check Eleven piece line at (set line i d) stays r r'))),
        λ z. right_again Eleven piece line at (set line i d) stays (sym (shows.1 (inr z))) r,
      )

  in_the_box : (r : i % 12 < 11) → BoxRight Eleven (i / 12) (set line i d) ↔ BetweenZeroAndOne (box_remainder Eleven i line) (box_remainder Eleven i (set line i d))
  in_the_box r =
      holds_again (part_at (box_of i)) (12 * (i / 12) + 11) (i - 12 * (i / 12)) (λ e. omega arith) (in_box (i / 12) i (omega arith) (omega arith, omega arith))
      (f.boxed (i / 12) (omega arith))

  in_the_whole : (r : i % 12 < 11) → i ≢ 3 → Right Eleven whole_of 3 (set line i d) ↔ BetweenZeroAndOne (code_remainder Eleven line) (code_remainder Eleven (set line i d))
  in_the_whole r three = holds_again whole_of 3 (seat i) (λ e. three (sym e)) (in_whole i h r three) f.general

  only : Passed Eleven (set line i d) → NoCheck i × BothMove i line (set line i d)
  only g =
      let r = in_its_box Eleven line i d f g h ne in
      let three : i ≢ 3 = λ e. ne (
      cc (
        alone Eleven whole_of line 3 (set line i d) (rw e (whole_fourth line d f.long)) f.general g.general,
        get_or-set_same line i d 0 (omega arith),
      )
      ) in
      ((three, omega arith), ((in_the_box r).0 (g.boxed (i / 12) (omega arith)), (in_the_whole r three).0 g.general))

pub one_changed_digit_under_eleven : OneChangedDigitUnderEleven
one_changed_digit_under_eleven line i d p t h ne hd first second t' =
    let f = apart Eleven line t p in (
      λ p'. only line i d f h ne hd (apart Eleven (set line i d) t' p'),
      λ w.
          let r : i % 12 < 11 = omega (arith, w.0) in
          together Eleven (set line i d) t' (record {
            long = length-set line i d ∙ f.long;
            digits = all_set (is_of Digit) line i d f.digits hd;
            first_three = (first_three_accepts (set line i d)).1 (first, second, kind_of_eleven (digit_at 3 (set line i d)) (value_small _) t');
            boxed = boxes_again Eleven line (set line i d) (i / 12) (other_box Eleven line i d) ((in_the_box line i d f h ne hd r).1 w.1.0) f.boxed;
            general = (in_the_whole line i d f h ne hd r w.0.0).1 w.1.1;
          }),
    )
