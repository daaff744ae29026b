-- A line, its boxes and the code that they hold. Assumes nothing.
use Prim.Native.Nat.{ℕ, ◌+◌, ◌*◌, ◌≤◌, ◌<◌}
use mathlib.Core.Bool.{Bool, true, false, and-eq-true_iff}
use mathlib.Core.List.{List, [], ◌∷◌, ◌++◌, append-nil, append_assoc}
use mathlib.Core.Path.{◌≡◌, refl, sym, ap, ◌∙◌}
use native.Mathlib.Omega.{arith}
use borrow.Author.Tests.{eqb-true, eq-eqb}
use lib.Dec.{eqb}
use lib.ListN.{length, get_or, take, drop, length-drop, take-append-drop, get_or-append}
use lib.Seq.{length-take-le, take_all, take_at, drop_at, drop-drop, get_or_at, get_or-take, get_or-drop, take-suc}
use Rattle.answer.specs.declared.Reason.TheVariants.{WrongLength, WrongGeneralCheck}
use Rattle.answer.specs.Answers.{Answer, Accepted}
use Rattle.answer.specs.Orders.{require, ◌then◌, first_refusal, moved_by}
use Rattle.answer.proofs.Orders.{then_accepts, moved_accepts}
use Rattle.answer.proofs.Steps.{passed}
use Rattle.decimal.specs.declared.Class.TheVariants.{Digit}
use Rattle.decimal.specs.Bytes.{is_of, all}
use Rattle.decimal.specs.Places.{Stretch, part_at, gather}
use Rattle.decimal.proofs.Places.{joins, all_gathered}
use Rattle.decimal.proofs.Bytes.{all_joins}
use Rattle.modulus.specs.declared.Modulus.{Modulus}
use Rattle.modulus.specs.Checks.{check_of}
use Rattle.modulus.proofs.Sums.{check_is_a_digit}
use Rattle.barcode.specs.Codes.{digit_at, modulus_of, first_three_answer, prefix_answer, general_right, full_length_answer, barcode_answer}
use Rattle.barcode.proofs.Codes.{first_three_same, prefix_accepts, good}
use Rattle.line.specs.Lines.{boxes, code_of, in_line, box_right, box_answer, boxes_then, checks_answer, checked_box, quarters, with_checks}
use Rattle.line.specs.RoundTrips.{SoundLine, LineIsBoxesAndCode, OnlySevenBehindBoxes}
use Rattle.line.proofs.Lines.{boxes_accept, code_body, line_body_holds}

-- Four pieces of one width, joined and cut again.
module _ (w : ℕ) (p q r s : List ℕ) (lp : length p ≡ w) (lq : length q ≡ w) (lr : length r ≡ w) where
  pub second : drop w (p ++ (q ++ (r ++ (s ++ [])))) ≡ q ++ (r ++ (s ++ []))
  second = drop_at p (q ++ (r ++ (s ++ []))) w lp

  pub third : drop (2 * w) (p ++ (q ++ (r ++ (s ++ [])))) ≡ r ++ (s ++ [])
  third =
      let n : 2 * w ≡ w + w = omega arith in
      rw (n, ← drop-drop w w (p ++ (q ++ (r ++ (s ++ [])))), second) (drop_at q (r ++ (s ++ [])) w lq)

  pub fourth : drop (3 * w) (p ++ (q ++ (r ++ (s ++ [])))) ≡ s ++ []
  fourth =
      let n : 3 * w ≡ 2 * w + w = omega arith in
      rw (n, ← drop-drop w (2 * w) (p ++ (q ++ (r ++ (s ++ [])))), third) (drop_at r (s ++ []) w lr)

pub cut : (w : ℕ) (l : List ℕ) → length l ≡ 4 * w
    → take w l ++ (take w (drop w l) ++ (take w (drop (2 * w) l) ++ (take w (drop (3 * w) l) ++ []))) ≡ l
cut w l n =
    let a : 2 * w ≡ w + w = omega arith in
    let b : 3 * w ≡ 2 * w + w = omega arith in
    let d : take w (drop (3 * w) l) ++ [] ≡ drop (3 * w) l = append-nil (take w (drop (3 * w) l)) ∙ take_all w (drop (3 * w) l) (omega (arith, length-drop (3 * w) l)) in
    let c : take w (drop (2 * w) l) ++ drop (3 * w) l ≡ drop (2 * w) l = ap (λ (x : ℕ). take w (drop (2 * w) l) ++ drop x l) b ∙ ap (λ (t : List ℕ). take w (drop (2 * w) l) ++ t) (sym (drop-drop w (2 * w) l)) ∙ take-append-drop w (drop (2 * w) l) in
    let e : take w (drop w l) ++ drop (2 * w) l ≡ drop w l = ap (λ (x : ℕ). take w (drop w l) ++ drop x l) a ∙ ap (λ (t : List ℕ). take w (drop w l) ++ t) (sym (drop-drop w w l)) ∙ take-append-drop w (drop w l) in
    rw (d, c, e) (take-append-drop w l)

-- a box of eleven and its check, before other bytes
module _ (a rest : List ℕ) (x : ℕ) (n : length a ≡ 11) where
  pub box_part : take 11 ((a ++ x ∷ []) ++ rest) ≡ a
  box_part = ap (take 11) (append_assoc a (x ∷ []) rest) ∙ take_at a (x ∷ rest) 11 n

  pub box_check : get_or ((a ++ x ∷ []) ++ rest) 11 0 ≡ x
  box_check = ap (λ (l : List ℕ). get_or l 11 0) (append_assoc a (x ∷ []) rest) ∙ get_or_at a x rest 0 11 n

-- the parts of a line and of its code
abbrev pub at : ℕ → List ℕ → List ℕ
at from l = take 11 (drop from l)

pub at_length : (from : ℕ) (l : List ℕ) → from + 11 ≤ length l → length (at from l) ≡ 11
at_length from l h = length-take-le 11 (drop from l) (omega (arith, length-drop from l))

-- the first eleven places are those of the code
pub code_byte : (line : List ℕ) (j : ℕ) → length line ≡ 48 → j < 11 → get_or (code_of line) j 0 ≡ get_or line j 0
code_byte line j n h =
    get_or-append (at 0 line) (at 12 line ++ (at 24 line ++ (at 36 line ++ []))) 0 j (omega (arith, at_length 0 line (omega arith))) ∙ get_or-take 11 line j 0 h

pub same_first_three : (line : List ℕ) → length line ≡ 48 → first_three_answer (code_of line) ≡ first_three_answer line
same_first_three line n =
    first_three_same (code_of line) line (code_byte line 0 n (omega arith)) (code_byte line 1 n (omega arith)) (code_byte line 2 n (omega arith))

-- Twelve bytes of a line are a box and its check.
twelve : (line : List ℕ) (from : ℕ) → from + 12 ≤ length line → take 12 (drop from line) ≡ at from line ++ get_or line (from + 11) 0 ∷ []
twelve line from h = take-suc (drop from line) 11 0 (omega (arith, length-drop from line)) ∙ rw (get_or-drop from line 11 0)

-- a right box is followed by the byte of its check
right_byte : (m : Modulus) (line : List ℕ) (box : Stretch) → box_right m line box ≡ true → get_or line box.last 0 ≡ 48 + check_of m (part_at box line)
unfolding box_right
right_byte m line box h = eqb-true _ _ h

right_twelve : (m : Modulus) (line : List ℕ) (from : ℕ) → from + 12 ≤ length line → get_or line (from + 11) 0 ≡ 48 + check_of m (at from line)
    → checked_box m (at from line) ≡ take 12 (drop from line)
right_twelve m line from h e = rw (← e) (sym (twelve line from h))

checked_digits : (m : Modulus) (a : List ℕ) → all (is_of Digit) a ≡ true → all (is_of Digit) (checked_box m a) ≡ true
checked_digits m a h =
    all_joins (is_of Digit) a ((48 + check_of m a) ∷ []) ∙ rw (h, check_is_a_digit m a)

-- a sound line is its boxes with their checks
pub sound_boxes : (line : List ℕ) → SoundLine line → with_checks (modulus_of (digit_at 3 line)) boxes line ≡ line
sound_boxes line s =
    let n = s.long in
    let c = s.checks in
    let m = modulus_of (digit_at 3 line) in
    let b0 = right_twelve m line 0 (omega arith) (right_byte m line (record { first = 1; last = 11 }) c.0) in
    let b1 = right_twelve m line 12 (omega arith) (right_byte m line (record { first = 13; last = 23 }) c.1.0) in
    let b2 = right_twelve m line 24 (omega arith) (right_byte m line (record { first = 25; last = 35 }) c.1.1.0) in
    let b3 = right_twelve m line 36 (omega arith) (right_byte m line (record { first = 37; last = 47 }) c.1.1.1.0) in
    joins b0 (joins b1 (joins b2 (joins b3 refl))) ∙ cut 12 line n

-- the quarters of a line's code are its boxes
pub code_quarters : (m : Modulus) (line : List ℕ) → length line ≡ 48 → with_checks m quarters (code_of line) ≡ with_checks m boxes line
code_quarters m line n =
    let a = at 0 line in
    let b = at 12 line in
    let c = at 24 line in
    let d = at 36 line in
    let la = at_length 0 line (omega arith) in
    let lb = at_length 12 line (omega arith) in
    let lc = at_length 24 line (omega arith) in
    let ld = at_length 36 line (omega arith) in
    let q0 : take 11 (code_of line) ≡ a = take_at a (b ++ (c ++ (d ++ []))) 11 la in
    let q1 : take 11 (drop 11 (code_of line)) ≡ b = ap (take 11) (second 11 a b c d la lb lc) ∙ take_at b (c ++ (d ++ [])) 11 lb in
    let q2 : take 11 (drop 22 (code_of line)) ≡ c = ap (take 11) (third 11 a b c d la lb lc) ∙ take_at c (d ++ []) 11 lc in
    let q3 : take 11 (drop 33 (code_of line)) ≡ d = ap (take 11) (fourth 11 a b c d la lb lc) ∙ take_at d [] 11 ld in
    let box : (x y : List ℕ) → x ≡ y → checked_box m x ≡ checked_box m y = λ x y e. ap (checked_box m) e in
    joins (box _ _ q0) (joins (box _ _ q1) (joins (box _ _ q2) (joins (box _ _ q3) refl)))

-- the digits of a sound line
sound_digits : (line : List ℕ) → SoundLine line → all (is_of Digit) line ≡ true
sound_digits line s =
    let m = modulus_of (digit_at 3 line) in
    let g = good (code_of line) s.code in
    let parts : (plan : List Stretch) → all (is_of Digit) (gather plan line) ≡ true → all (is_of Digit) (with_checks m plan line) ≡ true = plan_digits m line in
    ap (all (is_of Digit)) (sym (sound_boxes line s)) ∙ parts boxes g.digits
  where
    plan_digits : (m : Modulus) (line : List ℕ) (plan : List Stretch) → all (is_of Digit) (gather plan line) ≡ true → all (is_of Digit) (with_checks m plan line) ≡ true
    plan_digits m line [] h = refl
    plan_digits m line (b ∷ plan) h =
        let both = (and-eq-true_iff (all (is_of Digit) (part_at b line)) (all (is_of Digit) (gather plan line))).0 (sym (all_joins (is_of Digit) (part_at b line) (gather plan line)) ∙ h) in
        all_joins (is_of Digit) (checked_box m (part_at b line)) (with_checks m plan line)
        ∙ rw (checked_digits m (part_at b line) both.0, plan_digits m line plan both.1)

-- a line whose check digits are right is sound
pub checks_sound : (line : List ℕ) → length line ≡ 48 → checks_answer line ≡ Accepted → SoundLine line
checks_sound line n e =
    let body = full_length_answer (code_of line) in
    let both = (then_accepts (first_refusal (box_answer line) boxes) (moved_by in_line body)).0 e in
    record { long = n; checks = (boxes_accept line boxes).0 both.0; code = code_body line n ∙ (moved_accepts in_line body).0 both.1 }

pub line_is_boxes_and_code : LineIsBoxesAndCode
line_is_boxes_and_code line = (
  λ e.
      let l = passed (eqb (length line) 48) WrongLength 0 e in
      checks_sound line (eqb-true (length line) 48 l.0) ((then_accepts (prefix_answer line) (checks_answer line)).0 l.1).1,
  λ s.
      let n = s.long in
      let first_three = sym (same_first_three line n) ∙ (good (code_of line) s.code).first_three in
      let prefix = (prefix_accepts line).1 (sound_digits line s, first_three) in
      let boxed = (boxes_accept line boxes).1 s.checks in
      let body = (moved_accepts in_line (full_length_answer (code_of line))).1 (sym (code_body line n) ∙ s.code) in
      rw (eq-eqb (length line) 48 n, prefix, boxed, body),
)

pub only_seven_behind_boxes : OnlySevenBehindBoxes
only_seven_behind_boxes line n prefix right =
    let first = (prefix_accepts line).0 prefix in
    let digits = all_gathered (is_of Digit) boxes line first.0 in
    let code = (prefix_accepts (code_of line)).1 (digits, same_first_three line n ∙ first.1) in
    let boxed = (boxes_accept line boxes).1 right in
    line_body_holds line n ∙ rw (prefix, boxed, code) (in_place (general_right (code_of line)))
  where
    in_place : (t : Bool) → moved_by in_line (require t WrongGeneralCheck 4) ≡ require t WrongGeneralCheck 4
    in_place true = refl
    in_place false = refl

-- a line whose check digits are right, and whose code is accepted, passes what comes before them
pub checks_decide : (line : List ℕ) (code : Answer) → length line ≡ 48 → (code ≡ Accepted → barcode_answer (code_of line) ≡ Accepted)
    → boxes_then line code ≡ Accepted → Accepted ≡ prefix_answer line then boxes_then line code
checks_decide line code n told e =
    let both = (then_accepts (first_refusal (box_answer line) boxes) (moved_by in_line code)).0 e in
    let sound : SoundLine line = record { long = n; checks = (boxes_accept line boxes).0 both.0; code = told ((moved_accepts in_line code).0 both.1) } in
    let passes = sym (line_body_holds line n) ∙ (line_is_boxes_and_code line).1 sound in
    rw ((then_accepts (prefix_answer line) (checks_answer line)).0 passes).0 (sym e)
