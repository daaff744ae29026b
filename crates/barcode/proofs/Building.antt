-- Laws of the builder: the pieces it writes, and what its answer tells. Assumes nothing.
use Prim.Native.Nat.{ℕ, ◌+◌, ◌-◌, ◌^◌, ◌≤◌, ◌<◌}
use mathlib.Core.Logic.{◌↔◌}
use mathlib.Core.List.{List, [], ◌∷◌, ◌++◌, append_assoc, append-nil}
use mathlib.Core.Path.{◌≡◌, refl, ap, ◌∙◌}
use native.Mathlib.Omega.{arith}
use borrow.Author.Tests.{lt-ltb, ltb-true, eqb-true, eq-eqb}
use lib.Dec.{ltb, eqb}
use lib.ListN.{length, set, take, drop, length-append, length-drop, drop_of_length-le}
use lib.Seq.{take_all}
use Rattle.answer.specs.Answers.{Answer, Accepted}
use Rattle.answer.specs.declared.Reason.TheVariants.{WrongLength, NoDigit, UnknownSegment, UnknownKind, TooWide}
use Rattle.answer.specs.Orders.{behind, if_accepted}
use Rattle.answer.proofs.Orders.{moved_accepts}
use Rattle.answer.proofs.Steps.{passed}
use Rattle.decimal.specs.declared.Class.TheVariants.{Digit}
use Rattle.decimal.specs.Bytes.{is_of, each_is}
use Rattle.decimal.specs.Numbers.{digits_of, put_number_answer}
use Rattle.decimal.specs.Places.{width_of, put_at, gather}
use Rattle.modulus.specs.Checks.{check_of}
use Rattle.decimal.proofs.Numbers.{digits_fill, digit_back, number_put}
use Rattle.decimal.proofs.Bytes.{each_accepts}
use Rattle.decimal.proofs.Places.{put_next}
use Rattle.barcode.specs.declared.Issuer.{Issuer}
use Rattle.barcode.specs.Codes.{code_length, is_segment, is_kind, value, issuer_end, issuer, free, general_check, checked, modulus_of}
use Rattle.barcode.specs.Building.{head_of, tail_of, check_for, code_with, built_of, build_answer}
use Rattle.barcode.specs.RoundTrips.{WithinRanges}
use Rattle.barcode.proofs.Codes.{issuer_end_range, kind_small}

pub four_set : (l : List ℕ) (a b c d : ℕ) → length l ≡ 44 → set (set (set (set l 0 a) 1 b) 2 c) 3 d ≡ a ∷ b ∷ c ∷ d ∷ drop 4 l
four_set [] a b c d h = absurd (omega arith)
four_set (p ∷ []) a b c d h = absurd (omega arith)
four_set (p ∷ q ∷ []) a b c d h = absurd (omega arith)
four_set (p ∷ q ∷ r ∷ []) a b c d h = absurd (omega arith)
four_set (p ∷ q ∷ r ∷ s ∷ l) a b c d h = refl

pub build_accepts : (i : Issuer) (kind amount : ℕ) (rest : List ℕ)
    → (build_answer code_length i kind amount rest ≡ Accepted) ↔ WithinRanges i kind amount rest
unfolding build_answer
build_accepts i kind amount rest =
    let end = issuer_end i.segment in
    let free-digits = each_accepts (is_of Digit) NoDigit 1 rest in
    let moved = moved_accepts (behind end) (each_is (is_of Digit) NoDigit 1 rest) in (
      λ e.
          let s = passed (is_segment i.segment) UnknownSegment 2 e in
          let k = passed (is_kind kind) UnknownKind 3 s.1 in
          let r = passed (eqb (length rest) (width_of (free i.segment))) WrongLength 0 k.1 in
          let a = passed (ltb amount (10 ^ width_of value)) TooWide 5 r.1 in
          let n = passed (ltb i.number (10 ^ width_of (issuer i.segment))) TooWide 16 a.1 in
          record {
            segment = s.0;
            kinds = k.0;
            amounts = ltb-true _ _ a.0;
            number = ltb-true _ _ n.0;
            long = eqb-true _ _ r.0;
            digits = free-digits.0 (moved.0 n.1);
          },
      λ w.
          let digits = moved.1 (free-digits.1 w.digits) in
          rw (w.segment, w.kinds, eq-eqb _ _ w.long, lt-ltb _ _ w.amounts, lt-ltb _ _ w.number, digits),
    )

pub ranges_of : (i : Issuer) (kind amount : ℕ) (rest : List ℕ) → build_answer code_length i kind amount rest ≡ Accepted → WithinRanges i kind amount rest
ranges_of i kind amount rest = (build_accepts i kind amount rest).0

-- The pieces, one behind the other.

number_next :
    (old xs : List ℕ) (w n : ℕ) {at : ℕ} {r : Answer} {q new : List ℕ}
    → at ≡ length xs → length xs + w ≤ length old → n < 10 ^ w → q ≡ xs ++ drop (length xs) old
    → r ≡ put_number_answer (length q) at w n → new ≡ if_accepted r (put_at at (digits_of w n) q) q
    → new ≡ (xs ++ digits_of w n) ++ drop (length (xs ++ digits_of w n)) old
number_next old xs w n {at} {r} {q} {new} behind fits small e f g =
    let rest = drop (length xs) old in
    let whole : length q ≡ length old
    = ap length e ∙ length-append xs rest ∙ omega (arith, length-drop (length xs) old) in
    number_put at w n q (omega arith) small f g
    ∙ put_next old xs (digits_of w n) behind (omega (arith, (digits_fill w n).0)) e

pub pieces : (i : Issuer) (kind amount : ℕ) (rest old : List ℕ) → WithinRanges i kind amount rest → length old ≡ 44
    → {w : ℕ} {r s : Answer} {one two three four : List ℕ} → w ≡ width_of (issuer i.segment) → one ≡ head_of i.segment kind ++ 48 ∷ drop 4 old
    → r ≡ put_number_answer (length one) 4 11 amount → two ≡ if_accepted r (put_at 4 (digits_of 11 amount) one) one
    → s ≡ put_number_answer (length two) 15 w i.number → three ≡ if_accepted s (put_at 15 (digits_of w i.number) two) two
    → four ≡ put_at (15 + w) rest three → four ≡ code_with 0 i kind amount rest
pieces i kind amount rest old fit n {w} {r} {s} {one} {two} {three} {four} ew e1 er e2 es e3 e4 =
    let range = issuer_end_range i.segment in
    let h = head_of i.segment kind ++ (48 ∷ []) in
    let d = digits_of 11 amount in
    let k = digits_of w i.number in
    let ld = (digits_fill 11 amount).0 in
    let lk = (digits_fill w i.number).0 in
    let left : length rest ≡ 29 - w = fit.long ∙ omega arith in
    let small : i.number < 10 ^ w = rw ew fit.number in
    let lhd : 15 ≡ length (h ++ d) = omega (arith, length-append h d) in
    let lhdk : 15 + w ≡ length ((h ++ d) ++ k) = omega (arith, length-append (h ++ d) k) in
    let all : length (((h ++ d) ++ k) ++ rest) ≡ 44 = omega (arith, length-append ((h ++ d) ++ k) rest) in
    let f2 = number_next old h 11 amount refl (omega arith) fit.amounts e1 er e2 in
    let f3 = number_next old (h ++ d) w i.number lhd (omega arith) small f2 es e3 in
    let f4 = e4 ∙ put_next old ((h ++ d) ++ k) rest lhdk (omega arith) f3 in
    let past : length old ≤ length (((h ++ d) ++ k) ++ rest) = omega arith in
    let end : drop (length (((h ++ d) ++ k) ++ rest)) old ≡ [] = drop_of_length-le old past in
    f4 ∙ rw (end, append-nil (((h ++ d) ++ k) ++ rest), append_assoc (h ++ d) k rest, append_assoc h d (k ++ rest), ew)

-- The code that was written.
module _ (i : Issuer) (kind amount : ℕ) (rest : List ℕ) (fit : WithinRanges i kind amount rest) where
  pub tail_length : length (tail_of i amount rest) ≡ 40
  tail_length =
      let w = width_of (issuer i.segment) in
      let range = issuer_end_range i.segment in
      let d = digits_of 11 amount in
      let k = digits_of w i.number in
      omega (arith, fit.long, (digits_fill 11 amount).0, (digits_fill w i.number).0, length-append d (k ++ rest), length-append k rest)

  pub written_check : (x : ℕ) → general_check (code_with x i kind amount rest) ≡ check_for i kind amount rest
  written_check x =
      let t : take 40 (tail_of i amount rest) ++ [] ≡ tail_of i amount rest = append-nil (take 40 (tail_of i amount rest)) ∙ take_all 40 (tail_of i amount rest) (omega (arith, tail_length)) in
      ap (λ (k : ℕ). check_of (modulus_of k) (gather checked (code_with x i kind amount rest))) (digit_back kind (kind_small kind fit.kinds)).1
      ∙ ap (λ (l : List ℕ). check_of (modulus_of kind) (head_of i.segment kind ++ l)) t

  pub code_length_holds : (x : ℕ) → length (code_with x i kind amount rest) ≡ 44
  code_length_holds x = omega (arith, tail_length)

  -- written with 0 for the check, then with the check
  pub finished : {x : ℕ} {code : List ℕ} → code ≡ code_with 0 i kind amount rest → x ≡ general_check code
      → set code 3 (48 + x) ≡ built_of i kind amount rest
  finished {x} {code} ec ex =
      let check : x ≡ check_for i kind amount rest = ex ∙ ap general_check ec ∙ written_check 0 in
      rw (ec, check)
