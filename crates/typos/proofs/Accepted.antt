-- The facts that an accepted line consists of, and the line accepted from them. Assumes nothing.
use Prim.Native.Nat.{ℕ, zero, suc, ◌+◌, ◌<◌}
use mathlib.Core.Bool.{true}
use mathlib.Core.List.{List}
use mathlib.Core.Logic.{◌↔◌}
use mathlib.Core.Path.{◌≡◌, ◌∙◌}
use native.Mathlib.Omega.{arith}
use borrow.Author.Tests.{eqb-true, eq-eqb}
use lib.Dec.{eqb}
use lib.ListN.{length, get_or}
use Rattle.answer.specs.declared.Reason.TheVariants.{WrongLength}
use Rattle.answer.specs.Answers.{Accepted}
use Rattle.answer.specs.Orders.{Each}
use Rattle.answer.proofs.Orders.{then_accepts}
use Rattle.answer.proofs.Steps.{passed}
use Rattle.decimal.specs.declared.Class.TheVariants.{Digit}
use Rattle.decimal.specs.Bytes.{is_of, all}
use Rattle.decimal.specs.Places.{Stretch, part_at}
use Rattle.decimal.proofs.Places.{all_gathered}
use Rattle.modulus.specs.declared.Modulus.{Modulus}
use Rattle.modulus.specs.Checks.{check_of}
use Rattle.barcode.specs.Codes.{digit_at, modulus_of, first_three_answer, prefix_answer, general_right}
use Rattle.barcode.proofs.Codes.{prefix_accepts, good, accepted}
use Rattle.line.specs.Lines.{boxes, code_of, box_right, checks_answer}
use Rattle.line.proofs.Lines.{code_length_holds}
use Rattle.line.proofs.Boxes.{code_byte, same_first_three, line_is_boxes_and_code}
use Rattle.typos.specs.Typos.{Passes, Names, box_at, whole_of, PassesByChecks}

pub passes_by_checks : PassesByChecks
passes_by_checks line = (
  λ e.
      let s = (line_is_boxes_and_code line).0 e in
      let body = (passed (eqb (length line) 48) WrongLength 0 e).1 in
      let prefix = ((then_accepts (prefix_answer line) (checks_answer line)).0 body).0 in
      (s.long, prefix, (s.checks, (good (code_of line) s.code).general)),
  λ h.
      let n = h.0 in
      let prefix = (prefix_accepts line).0 h.1 in
      let code = accepted (code_of line) (record {
        long = code_length_holds line n;
        digits = all_gathered (is_of Digit) boxes line prefix.0;
        first_three = same_first_three line n ∙ prefix.1;
        general = h.2.1;
      }) in
      (line_is_boxes_and_code line).1 (record { long = n; checks = h.2.0; code = code }),
)

-- A check: the byte at an index is the check of a piece.

abbrev pub Right : Modulus → (List ℕ → List ℕ) → ℕ → List ℕ → Type 0
Right m piece at line = get_or line at 0 ≡ 48 + check_of m (piece line)

abbrev pub BoxRight : Modulus → ℕ → List ℕ → Type 0
BoxRight m n line = Right m (part_at (box_at n)) (box_at n).last line

box_equal : (m : Modulus) (line : List ℕ) (box : Stretch) → (box_right m line box ≡ true) ↔ Right m (part_at box) box.last line
unfolding box_right
box_equal m line box = (eqb-true _ _, eq-eqb _ _)

general_equal : (line : List ℕ) → length line ≡ 48 → (general_right (code_of line) ≡ true) ↔ Right (modulus_of (digit_at 3 line)) whole_of 3 line
unfolding general_right
general_equal line n =
    rw (code_byte line 2 n (omega arith), code_byte line 3 n (omega arith)) (eqb-true _ _, eq-eqb _ _)

-- boxes by their number
boxes_equal : (m : Modulus) (line : List ℕ)
    → Each (λ box. box_right m line box ≡ true) boxes ↔ ((n : ℕ) → n < 4 → BoxRight m n line)
boxes_equal m line = (
  λ h n l. (box_equal m line (box_at n)).0 (numbered h n l),
  λ r.
      let right : (n : ℕ) → n < 4 → box_right m line (box_at n) ≡ true = λ n l. (box_equal m line (box_at n)).1 (r n l) in
      (right 0 (omega arith), (right 1 (omega arith), (right 2 (omega arith), (right 3 (omega arith), tt)))),
)
  where
    numbered : Each (λ box. box_right m line box ≡ true) boxes → (n : ℕ) → n < 4 → box_right m line (box_at n) ≡ true
    numbered h zero l = h.0
    numbered h (suc zero) l = h.1.0
    numbered h (suc (suc zero)) l = h.1.1.0
    numbered h (suc (suc (suc zero))) l = h.1.1.1.0
    numbered h (suc (suc (suc (suc n)))) l = absurd (omega arith)

-- what a line that names modulus m is when it passes
pub record Passed (m : Modulus) (line : List ℕ) : Type 0 where
  pub long : length line ≡ 48
  pub digits : all (is_of Digit) line ≡ true
  pub first_three : first_three_answer line ≡ Accepted
  pub boxed : (n : ℕ) → n < 4 → BoxRight m n line
  pub general : Right m whole_of 3 line

module _ (m : Modulus) (line : List ℕ) (names : Names m line) where
  pub apart : Passes line → Passed m line
  apart e =
      let p = (passes_by_checks line).0 e in
      let f = (prefix_accepts line).0 p.1 in
      record {
        long = p.0;
        digits = f.0;
        first_three = f.1;
        boxed = rw names at ((boxes_equal (modulus_of (digit_at 3 line)) line).0 p.2.0);
        general = rw names at ((general_equal line p.0).0 p.2.1);
      }

  pub together : Passed m line → Passes line
  together p =
      (passes_by_checks line).1 (
        p.long,
        (prefix_accepts line).1 (p.digits, p.first_three),
        ((boxes_equal (modulus_of (digit_at 3 line)) line).1 (rw names p.boxed), (general_equal line p.long).1 (rw names p.general)),
      )
