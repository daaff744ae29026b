-- Laws of the line's boxes and of the bytes that are put together. Assumes nothing.
use Rattle.std.specs.Prelude.{Err}
use Prim.Native.Nat.{ℕ, ◌+◌, ◌-◌, ◌*◌, ◌≤◌}
use mathlib.Core.Bool.{true}
use mathlib.Core.List.{List, [], ◌∷◌, ◌++◌, append_assoc, append-nil}
use mathlib.Core.Logic.{◌↔◌}
use mathlib.Core.Path.{◌≡◌, refl, sym, ap, ◌∙◌}
use native.Mathlib.Nat.{le_of_eq}
use native.Mathlib.Omega.{arith}
use borrow.Author.Tests.{eq-eqb}
use lib.Dec.{eqb}
use lib.ListN.{length, get_or, set, take, drop, length-append, length-drop, drop_of_length-le}
use lib.Seq.{length-take-le, drop-cons, set_at}
use Rattle.answer.specs.declared.Refusal.{Refusal}
use Rattle.answer.specs.declared.Reason.TheVariants.{WrongBoxCheck}
use Rattle.answer.specs.Answers.{Answer, Accepted}
use Rattle.answer.specs.Orders.{◌then◌, first_refusal, moved_by, Each}
use Rattle.answer.proofs.Orders.{require_accepts, then_accepts, then_groups, moved_then}
use Rattle.decimal.specs.Places.{Stretch, put_at}
use Rattle.decimal.proofs.Places.{put_next}
use Rattle.modulus.specs.declared.Modulus.{Modulus}
use Rattle.modulus.specs.Checks.{check_of}
use Rattle.barcode.specs.declared.Fields.{Fields}
use Rattle.barcode.specs.Codes.{digit_at, modulus_of, prefix_answer, full_length_answer, barcode_answer}
use Rattle.barcode.specs.Agreed.{due_answer, barcode_under}
use Rattle.barcode.specs.Shown.{decoded}
use Rattle.line.specs.Lines.{boxes, code_of, in_line, box_right, box_answer, boxes_then, checked_box, line_body, line_answer, line_under}

-- a box that starts at an index
pub box_from : (m : Modulus) (line : List ℕ) (from : ℕ) {c : ℕ} → c ≡ 48 + check_of m (take (from + 11 - from) (drop from line))
    → eqb (get_or line (from + 11) 0) c ≡ box_right m line (record { first = from + 1; last = from + 11 })
unfolding box_right
box_from m line from e =
    let a : from + 1 - 1 ≡ from = omega arith in
    rw (e, a)

-- a row of boxes accepts exactly when each is right
pub boxes_accept : (line : List ℕ) (plan : List Stretch)
    → (first_refusal (box_answer line) plan ≡ Accepted) ↔ Each (λ box. box_right (modulus_of (digit_at 3 line)) line box ≡ true) plan
boxes_accept line [] = (λ e. tt, λ h. refl)
boxes_accept line (b ∷ plan) =
    let here = require_accepts (box_right (modulus_of (digit_at 3 line)) line b) WrongBoxCheck (b.last + 1) in
    let both = then_accepts (box_answer line b) (first_refusal (box_answer line) plan) in
    let rest = boxes_accept line plan in
    (λ e. (here.0 (both.0 e).0, rest.0 (both.0 e).1), λ h. both.1 (here.1 h.0, rest.1 h.1))

-- four pieces of one width, one behind the other, fill the caller's buffer
pub four_pieces : (w : ℕ) (a b c d old : List ℕ) → length a ≡ w → length b ≡ w → length c ≡ w → length d ≡ w → length old ≡ 4 * w
    → {one two three four : List ℕ} → one ≡ put_at 0 a old → two ≡ put_at w b one → three ≡ put_at (2 * w) c two → four ≡ put_at (3 * w) d three
    → four ≡ a ++ (b ++ (c ++ (d ++ [])))
four_pieces w a b c d old la lb lc ld lo e1 e2 e3 e4 =
    let lab : 2 * w ≡ length (a ++ b) = omega (arith, length-append a b) in
    let labc : 3 * w ≡ length ((a ++ b) ++ c) = omega (arith, length-append (a ++ b) c) in
    let past : length old ≤ length (((a ++ b) ++ c) ++ d) = omega (arith, length-append ((a ++ b) ++ c) d) in
    let f1 = e1 ∙ put_next old [] a refl (omega arith) refl in
    let f2 = e2 ∙ put_next old a b (sym la) (omega arith) f1 in
    let f3 = e3 ∙ put_next old (a ++ b) c lab (omega arith) f2 in
    let f4 = e4 ∙ put_next old ((a ++ b) ++ c) d labc (omega arith) f3 in
    f4 ∙ rw (drop_of_length-le old past, append-nil (((a ++ b) ++ c) ++ d), append_assoc (a ++ b) c d, append_assoc a b (c ++ d), append-nil d)

-- the eleven bytes from an index on
pub eleven : (l : List ℕ) (from : ℕ) → from + 11 ≤ length l → length (take 11 (drop from l)) ≡ 11
eleven l from h = length-take-le 11 (drop from l) (omega (arith, length-drop from l))

-- a box and its check in twelve bytes
pub boxed : (part blank : List ℕ) (c : ℕ) → length part ≡ 11 → length blank ≡ 12 → {q : List ℕ} → q ≡ put_at 0 part blank → set q 11 c ≡ part ++ c ∷ []
boxed part blank c n l {q} e =
    let rest : drop 11 blank ≡ get_or blank 11 0 ∷ [] = drop-cons blank 11 0 (omega arith) ∙ ap (λ (t : List ℕ). get_or blank 11 0 ∷ t) (drop_of_length-le blank (le_of_eq l)) in
    let f : q ≡ part ++ get_or blank 11 0 ∷ [] = e ∙ put_next blank [] part refl (omega arith) refl ∙ rw (n, rest) in
    rw f (set_at part (get_or blank 11 0) [] c 11 n)

pub checked_length : (m : Modulus) (part : List ℕ) → length part ≡ 11 → length (checked_box m part) ≡ 12
checked_length m part n = omega (arith, length-append part ((48 + check_of m part) ∷ []))

pub code_length_holds : (line : List ℕ) → length line ≡ 48 → length (code_of line) ≡ 44
code_length_holds line n =
    let a = take 11 line in
    let b = take 11 (drop 12 line) in
    let c = take 11 (drop 24 line) in
    let d = take 11 (drop 36 line) in
    omega (
      arith,
      eleven line 0 (omega arith),
      eleven line 12 (omega arith),
      eleven line 24 (omega arith),
      eleven line 36 (omega arith),
      length-append a (b ++ (c ++ (d ++ []))),
      length-append b (c ++ (d ++ [])),
      length-append c (d ++ []),
      length-append d [],
    )

-- The answers, once the lengths are known.

pub code_body : (line : List ℕ) → length line ≡ 48 → barcode_answer (code_of line) ≡ full_length_answer (code_of line)
code_body line n = rw (eq-eqb _ _ (code_length_holds line n))

pub line_body_holds : (line : List ℕ) → length line ≡ 48 → line_answer line ≡ line_body line
line_body_holds line n = rw (eq-eqb _ _ n)

-- behind the boxes comes the answer of the code under the same list
pub line_under_holds : (agreed line : List ℕ) → length line ≡ 48
    → line_under agreed line ≡ prefix_answer line then boxes_then line (barcode_under agreed (code_of line))
line_under_holds agreed line n =
    let prefix = prefix_answer line in
    let boxed = first_refusal (box_answer line) boxes in
    let code = full_length_answer (code_of line) in
    let due = due_answer agreed (code_of line) in
    let checks : (a b : Answer) → (prefix then boxed then moved_by in_line a) then moved_by in_line b ≡ prefix then boxed then moved_by in_line (a then b) =
    λ a b. then_groups prefix (boxed then moved_by in_line a) (moved_by in_line b) ∙ rw (then_groups boxed (moved_by in_line a) (moved_by in_line b), ← moved_then in_line a b) in
    rw (line_body_holds line n, code_body line n) (checks code due)

-- what a decoder shows
pub shown_refused : {a b : Answer} {refusal : Refusal} (f : Fields) → a ≡ b → a ≡ Err refusal → Err refusal ≡ decoded b f
shown_refused {a} {b} {refusal} f e g = let h : b ≡ Err refusal = cc in rw h
