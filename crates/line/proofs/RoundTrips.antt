-- Lines and their barcodes, both ways. Assumes nothing.
use Prim.Native.Nat.{ℕ, ◌+◌, ◌-◌, ◌≤◌}
use mathlib.Core.Bool.{true}
use mathlib.Core.List.{List, [], ◌++◌}
use mathlib.Core.Path.{◌≡◌, refl, sym, ap, ◌∙◌}
use native.Mathlib.Omega.{arith}
use borrow.Author.Tests.{eq-eqb}
use lib.ListN.{length, get_or, take, drop, length-append}
use lib.Seq.{get_or-drop}
use Rattle.answer.specs.Answers.{Answer, Accepted}
use Rattle.answer.proofs.Orders.{refusal_keeps}
use Rattle.decimal.specs.Numbers.{value_of}
use Rattle.decimal.proofs.Places.{joins}
use Rattle.modulus.specs.declared.Modulus.{Modulus}
use Rattle.modulus.specs.Checks.{check_of}
use Rattle.barcode.specs.Codes.{digit_at, modulus_of}
use Rattle.barcode.specs.Agreed.{barcode_check}
use Rattle.barcode.specs.Shown.{fields_of, decoded}
use Rattle.barcode.proofs.RoundTrips.{check_tells, decoded_answers, fields_within_ranges_build, code_is_its_fields, built_is_read}
use Rattle.barcode.proofs.Codes.{accepted_length}
use Rattle.barcode.specs.Building.{built_of}
use Rattle.barcode.specs.RoundTrips.{answer_of_barcode}
use Rattle.line.specs.Lines.{code_of, box_right, checked_box, quarters, with_checks, line_of, to_line_check, to_code_check}
use Rattle.line.specs.RoundTrips.{AcceptedLine, CodeToLineAndBack, LineToCodeAndBack, LineIsItsFields, FieldsGiveALine, RefusedConversionsKeep}
use Rattle.line.proofs.Lines.{checked_length}
use Rattle.line.proofs.Boxes.{second, third, fourth, cut, box_part, box_check, at, at_length, code_byte, sound_boxes, code_quarters, line_is_boxes_and_code}
use Rattle.line.proofs.UnderLists.{line_tells, line_code, accepted_is_boxes_and_code}

pub refused_conversions_keep : RefusedConversionsKeep
refused_conversions_keep agreed out line code = (
  refusal_keeps (to_code_check agreed (length out) line) (code_of line) out,
  refusal_keeps (to_line_check agreed (length out) code) (line_of code) out,
)

pub line_to_code_and_back : LineToCodeAndBack
line_to_code_and_back agreed line e =
    let s = (line_is_boxes_and_code line).0 (line_tells agreed line e).1 in
    let n = s.long in
    let m : modulus_of (digit_at 3 (code_of line)) ≡ modulus_of (digit_at 3 line) = ap (λ (x : ℕ). modulus_of (value_of x)) (code_byte line 2 n (omega arith)) in
    (line_code agreed line e, ap (λ (m : Modulus). with_checks m quarters (code_of line)) m ∙ code_quarters (modulus_of (digit_at 3 line)) line n ∙ sound_boxes line s)

-- The line of a code: what is behind its boxes, and what each box shows.
module _ (code : List ℕ) (n : length code ≡ 44) where
  abbrev box : ℕ → List ℕ
  box from = checked_box (modulus_of (digit_at 3 code)) (at from code)

  part_long : (from : ℕ) → from + 11 ≤ 44 → length (at from code) ≡ 11
  part_long from h = at_length from code (omega arith)

  box_long : (from : ℕ) → from + 11 ≤ 44 → length (box from) ≡ 12
  box_long from h = checked_length (modulus_of (digit_at 3 code)) (at from code) (part_long from h)

  line_long : length (line_of code) ≡ 48
  line_long =
      omega (
        arith,
        box_long 0 (omega arith),
        box_long 11 (omega arith),
        box_long 22 (omega arith),
        box_long 33 (omega arith),
        length-append (box 0) (box 11 ++ (box 22 ++ (box 33 ++ []))),
        length-append (box 11) (box 22 ++ (box 33 ++ [])),
        length-append (box 22) (box 33 ++ []),
        length-append (box 33) [],
      )

  -- the box that starts at an index of the line shows the eleven digits from an index of the code, and their check
  pub record Shows (here there : ℕ) : Type 0 where
    pub part : at here (line_of code) ≡ at there code
    pub byte : get_or (line_of code) (here + 11) 0 ≡ 48 + check_of (modulus_of (digit_at 3 code)) (at there code)

  shows : (here there : ℕ) (rest : List ℕ) → there + 11 ≤ 44 → drop here (line_of code) ≡ box there ++ rest → Shows here there
  shows here there rest h e =
      let x = 48 + check_of (modulus_of (digit_at 3 code)) (at there code) in
      record {
        part = ap (take 11) e ∙ box_part (at there code) rest x (part_long there h);
        byte = sym (get_or-drop here (line_of code) 11 0) ∙ ap (λ (l : List ℕ). get_or l 11 0) e ∙ box_check (at there code) rest x (part_long there h);
      }

  all_shown : Shows 0 0 × Shows 12 11 × Shows 24 22 × Shows 36 33
  all_shown =
      let l0 = box_long 0 (omega arith) in
      let l1 = box_long 11 (omega arith) in
      let l2 = box_long 22 (omega arith) in (
        shows 0 0 (box 11 ++ (box 22 ++ (box 33 ++ []))) (omega arith) refl,
        shows 12 11 (box 22 ++ (box 33 ++ [])) (omega arith) (second 12 (box 0) (box 11) (box 22) (box 33) l0 l1 l2),
        shows 24 22 (box 33 ++ []) (omega arith) (third 12 (box 0) (box 11) (box 22) (box 33) l0 l1 l2),
        shows 36 33 [] (omega arith) (fourth 12 (box 0) (box 11) (box 22) (box 33) l0 l1 l2),
      )

  pub code_back : code_of (line_of code) ≡ code
  code_back =
      let s = all_shown in
      joins s.0.part (joins s.1.part (joins s.2.part (joins s.3.part refl))) ∙ cut 11 code n

  same_modulus : modulus_of (digit_at 3 (line_of code)) ≡ modulus_of (digit_at 3 code)
  same_modulus =
      ap (λ (x : ℕ). modulus_of (value_of x)) (sym (code_byte (line_of code) 2 line_long (omega arith)) ∙ ap (λ (l : List ℕ). get_or l 2 0) code_back)

  box_shown : (here there : ℕ) → Shows here there → box_right (modulus_of (digit_at 3 (line_of code))) (line_of code) (record { first = here + 1; last = here + 11 }) ≡ true
  unfolding box_right
  box_shown here there s =
      let a : here + 1 - 1 ≡ here = omega arith in
      let b : here + 11 - here ≡ 11 = omega arith in
      rw (same_modulus, a, b) (eq-eqb _ _ (s.byte ∙ ap (λ (l : List ℕ). 48 + check_of (modulus_of (digit_at 3 code)) l) (sym s.part)))

pub code_to_line_and_back : CodeToLineAndBack
code_to_line_and_back agreed code e =
    let told = check_tells agreed code e in
    let n = accepted_length code told.1 in
    let s = all_shown code n in
    let back = code_back code n in
    let accepted : AcceptedLine agreed (line_of code) = record {
      long = line_long code n;
      checks = (box_shown code n 0 0 s.0, (box_shown code n 12 11 s.1, (box_shown code n 24 22 s.2, (box_shown code n 36 33 s.3, tt))));
      code = ap (barcode_check agreed) back ∙ e;
    } in
    ((accepted_is_boxes_and_code agreed (line_of code)).1 accepted, back)

pub line_is_its_fields : LineIsItsFields
line_is_its_fields agreed line e =
    let back = line_to_code_and_back agreed line e in
    let built = code_is_its_fields agreed (code_of line) back.0 in
    (built.0, ap line_of built.1 ∙ back.1)

pub fields_give_a_line : FieldsGiveALine
fields_give_a_line agreed i kind amount rest right w due =
    let code = built_of i kind amount rest in
    let read = (built_is_read agreed i kind amount rest ((fields_within_ranges_build agreed i kind amount rest right).1 (w, due))).0 in
    let e : barcode_check agreed code ≡ Accepted = sym (decoded_answers agreed code) ∙ ap answer_of_barcode read in
    let there = code_to_line_and_back agreed code e in
    rw (there.0, there.1) (sym (ap (λ (x : Answer). decoded x (fields_of agreed code)) e) ∙ read)
