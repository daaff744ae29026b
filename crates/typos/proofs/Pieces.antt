-- The index that a byte of a line has in its box, in its code and in its whole code. Assumes nothing.
use Prim.Native.Nat.{ℕ, ◌+◌, ◌-◌, ◌*◌, ◌/◌, ◌%◌, ◌≤◌, ◌<◌, min}
use mathlib.Core.List.{List}
use mathlib.Core.Logic.{◌≢◌, inl, inr, ⊎_elim}
use mathlib.Core.Path.{◌≡◌, refl, ap, ◌∙◌}
use native.Mathlib.Omega.{arith}
use lib.ListN.{length, get_or, set}
use Rattle.decimal.specs.OneByte.{Lies, Beside, InPlan}
use Rattle.decimal.specs.Places.{Stretch, part_at, gather}
use Rattle.answer.proofs.Tests.{lt_or_le}
use Rattle.decimal.proofs.Places.{length_part, part_within, part_byte, gather_outside, gather_within}
use Rattle.barcode.specs.Codes.{checked}
use Rattle.line.specs.Lines.{boxes, code_of}
use Rattle.line.proofs.Lines.{code_length_holds}
use Rattle.typos.specs.Typos.{box_at, Among, whole_of, BoxesAreNumbered}

pub boxes_are_numbered : BoxesAreNumbered
boxes_are_numbered = (refl, λ i h. omega arith)

-- in every list of n bytes, the byte at index i is the byte at index j of a piece
pub record SameByte (n : ℕ) (piece : List ℕ → List ℕ) (i j : ℕ) : Type 0 where
  pub inside : (l : List ℕ) → length l ≡ n → j < length (piece l)
  pub byte : (l : List ℕ) → length l ≡ n → get_or (piece l) j 0 ≡ get_or l i 0
  pub sets : (l : List ℕ) (d : ℕ) → length l ≡ n → piece (set l i d) ≡ set (piece l) j d

pub in_box : (n i : ℕ) → n < 4 → Among (box_at n) i → SameByte 48 (part_at (box_at n)) i (i - 12 * n)
in_box n i h a =
    let j : i + 1 - (12 * n + 1) ≡ i - 12 * n = omega arith in
    record {
      inside = λ l e. omega (arith, length_part (box_at n) l (omega arith) (omega arith) (omega arith));
      byte = λ l e. rw j at (part_byte (box_at n) l i (omega arith) a.0 a.1);
      sets = λ l d e. rw j at (part_within (box_at n) l i d (omega arith) a.0 a.1);
    }

-- Plans.

planned : (n : ℕ) (plan : List Stretch) (i j : ℕ) → Lies n plan → InPlan plan i j → SameByte n (gather plan) i j
planned n plan i j lies within = record {
  inside = λ l e. (gather_within plan l i j 0 (rw e lies) within).2;
  byte = λ l e. (gather_within plan l i j 0 (rw e lies) within).1;
  sets = λ l d e. (gather_within plan l i j d (rw e lies) within).0;
}

-- The code: a digit of a box is in it, a box's check is not.

boxes_lie : Lies 48 boxes
boxes_lie = omega arith

within_boxes : (i : ℕ) → i < 48 → i % 12 < 11 → InPlan boxes i (i - i / 12)
within_boxes i h r =
    ⊎_elim (λ (a : i < 12). inl (omega arith, omega arith, omega arith, (inl (omega arith), (inl (omega arith), (inl (omega arith), tt))))) (λ (a : 12 ≤ i). inr (
      inr (omega arith),
      omega arith,
      ⊎_elim (λ (b : i < 24). inl (omega arith, omega arith, omega arith, (inl (omega arith), (inl (omega arith), tt)))) (λ (b : 24 ≤ i). inr (
        inr (omega arith),
        omega arith,
        ⊎_elim (λ (c : i < 36). inl (omega arith, omega arith, omega arith, (inl (omega arith), tt))) (λ (c : 36 ≤ i). inr (
          inr (omega arith),
          omega arith,
          inl (omega arith, omega arith, omega arith, tt),
        )) (lt_or_le i 36),
      )) (lt_or_le i 24),
    )) (lt_or_le i 12)

pub in_code : (i : ℕ) → i < 48 → i % 12 < 11 → SameByte 48 code_of i (i - i / 12)
in_code i h r = planned 48 boxes i (i - i / 12) boxes_lie (within_boxes i h r)

beside_check : (n i : ℕ) → i % 12 ≡ 11 → Beside (box_at n) i
beside_check n i r = ⊎_elim (λ (a : i + 1 < 12 * n + 1). inl a) (λ (a : 12 * n + 1 ≤ i + 1). inr (omega arith)) (lt_or_le (i + 1) (12 * n + 1))

-- The whole code: those digits but the fourth.

within_checked : (j : ℕ) → j < 44 → j ≢ 3 → InPlan checked j (j - min 1 (j / 3))
within_checked j h ne =
    ⊎_elim (λ (a : j < 3). inl (omega arith, omega arith, omega arith, (inl (omega arith), tt)))
    (λ (a : 3 ≤ j). inr (inr a, omega arith, inl (omega arith, omega arith, omega arith, tt))) (lt_or_le j 3)

-- the index that a digit of a box has in it
unfoldable pub seat : ℕ → ℕ
seat i = i - i / 12 - min 1 (i / 3)

pub next_seat : (i : ℕ) → 3 ≤ i → i % 12 < 11 → seat (i + 1) ≡ seat i + 1
unfolding seat
next_seat i h r =
    let q : (i + 1) / 12 ≡ i / 12 = omega arith in
    let a : min 1 ((i + 1) / 3) ≡ 1 = omega arith in
    let b : min 1 (i / 3) ≡ 1 = omega arith in
    rw (q, a, b) (omega arith)

pub in_whole : (i : ℕ) → i < 48 → i % 12 < 11 → i ≢ 3 → SameByte 48 whole_of i (seat i)
unfolding seat
in_whole i h r ne =
    let j = i - i / 12 in
    let k : j - min 1 (j / 3) ≡ i - i / 12 - min 1 (i / 3) = omega arith in
    let c = in_code i h r in
    let w = rw k at (planned 44 checked j (j - min 1 (j / 3)) (omega arith) (within_checked j (omega arith) (λ e. omega arith))) in
    record {
      inside = λ l e. w.inside (code_of l) (code_length_holds l e);
      byte = λ l e. w.byte (code_of l) (code_length_holds l e) ∙ c.byte l e;
      sets = λ l d e. ap (gather checked) (c.sets l d e) ∙ w.sets (code_of l) d (code_length_holds l e);
    }

pub whole_beside : (line : List ℕ) (i d : ℕ) → i % 12 ≡ 11 → whole_of (set line i d) ≡ whole_of line
whole_beside line i d r =
    ap (gather checked) (gather_outside boxes line i d (beside_check 0 i r, (beside_check 1 i r, (beside_check 2 i r, (beside_check 3 i r, tt)))))

pub whole_fourth : (line : List ℕ) (d : ℕ) → length line ≡ 48 → whole_of (set line 3 d) ≡ whole_of line
whole_fourth line d e = ap (gather checked) ((in_code 3 (omega arith) (omega arith)).sets line d e) ∙ gather_outside checked (code_of line) 3 d (inr (omega arith), (inl (omega arith), tt))
