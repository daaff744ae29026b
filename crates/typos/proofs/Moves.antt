-- What one changed byte does to a check, over the modulus and over the piece that is checked. Assumes nothing.
use Prim.Native.Nat.{ℕ, ◌+◌, ◌*◌, ◌/◌, ◌%◌, ◌≤◌, ◌<◌}
use mathlib.Core.Bool.{Bool, true, false}
use mathlib.Core.List.{List}
use mathlib.Core.Logic.{◌≢◌, inl, inr, ⊎_elim}
use mathlib.Core.Path.{◌≡◌, refl, ap, ◌∙◌}
use native.Mathlib.Omega.{arith}
use borrow.Author.Tests.{eqb-true, eqb-false}
use lib.Dec.{eqb}
use lib.ListN.{length, get_or, set}
use lib.Seq.{get_or-set_same, get_or-set_other}
use Rattle.decimal.specs.declared.Class.TheVariants.{Digit}
use Rattle.decimal.specs.Bytes.{is_of, all}
use Rattle.decimal.specs.OneByte.{Beside}
use Rattle.decimal.specs.Places.{part_at}
use Rattle.answer.proofs.Tests.{lt_or_le}
use Rattle.decimal.proofs.Places.{part_beside}
use Rattle.modulus.specs.declared.Modulus.{Modulus}
use Rattle.modulus.specs.Checks.{remainder_of, check_of}
use Rattle.modulus.proofs.Typos.{one_digit_moves}
use Rattle.typos.specs.Typos.{box_at}
use Rattle.typos.proofs.Accepted.{Right, BoxRight, Passed}
use Rattle.typos.proofs.Pieces.{SameByte}

module _ (m : Modulus) (piece : List ℕ → List ℕ) (line : List ℕ) where
  -- a check digit that stays is the check of both lines, or of neither
  pub same_check : (at : ℕ) (k : List ℕ) → get_or k at 0 ≡ get_or line at 0 → Right m piece at line → Right m piece at k → check_of m (piece k) ≡ check_of m (piece line)
  same_check at k e r r' = omega arith

  pub right_again : (at : ℕ) (k : List ℕ) → get_or k at 0 ≡ get_or line at 0 → check_of m (piece k) ≡ check_of m (piece line) → Right m piece at line → Right m piece at k
  right_again at k e c r = rw (e, c) r

  -- a check digit never changes alone
  pub alone : (at : ℕ) (k : List ℕ) → piece k ≡ piece line → Right m piece at line → Right m piece at k → get_or k at 0 ≡ get_or line at 0
  alone at k e r r' = cc

  -- a changed digit moves the remainder of each piece that has it
  pub moves : (i j d : ℕ) → SameByte 48 piece i j → length line ≡ 48 → is_of Digit (get_or line i 0) ≡ true → is_of Digit d ≡ true
      → remainder_of m (piece (set line i d)) ≡ remainder_of m (piece line) → d ≡ get_or line i 0
  moves i j d s n hb hd e =
      one_digit_moves m 0 (piece line) j d (s.inside line n) (rw (s.byte line n) hb) hd (rw (s.sets line d n) at e) ∙ s.byte line n

-- a box that does not hold the byte
pub other_box : (m : Modulus) (line : List ℕ) (i d n : ℕ) → n ≢ i / 12 → BoxRight m n line → BoxRight m n (set line i d)
other_box m line i d n ne r =
    let beside : Beside (box_at n) i = ⊎_elim (λ (a : i < 12 * n). inl (omega arith)) (λ (a : 12 * n ≤ i). inr (omega arith)) (lt_or_le i (12 * n)) in
    right_again m (part_at (box_at n)) line (12 * n + 11) (set line i d) (get_or-set_other line i (12 * n + 11) d 0 (λ e. omega arith))
    (ap (check_of m) (part_beside (box_at n) line i d beside)) r

-- where one box is right again, and the others were left as they are, all are
pub boxes_again : (m : Modulus) (line k : List ℕ) (q : ℕ) → ((n : ℕ) → n ≢ q → BoxRight m n line → BoxRight m n k) → BoxRight m q k
    → ((n : ℕ) → n < 4 → BoxRight m n line) → (n : ℕ) → n < 4 → BoxRight m n k
boxes_again m line k q others own all n h = go (eqb n q) refl
  where
    go : (t : Bool) → eqb n q ≡ t → BoxRight m n k
    go true e = rw (eqb-true n q e) own
    go false e = others n (eqb-false n q e) (all n h)

-- a digit that changes in a line that passes again is no check of a box
pub in_its_box : (m : Modulus) (line : List ℕ) (i d : ℕ) → Passed m line → Passed m (set line i d) → i < 48 → d ≢ get_or line i 0 → i % 12 < 11
in_its_box m line i d f g h ne =
    ⊎_elim (λ (a : i % 12 < 11). a)
    (λ (a : 11 ≤ i % 12).
    let n = i / 12 in
    let e : 12 * n + 11 ≡ i = omega arith in
    let same = alone m (part_at (box_at n)) line (12 * n + 11) (set line i d) (part_beside (box_at n) line i d (inr (omega arith))) (f.boxed n (omega arith)) (g.boxed n (omega arith)) in
    absurd (ne (cc (get_or-set_same line i d 0 (omega (arith, f.long))))))
    (lt_or_le (i % 12) 11)
