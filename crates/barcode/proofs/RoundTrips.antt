-- Barcodes are their fields, both ways. Assumes nothing.
use Rattle.std.specs.Prelude.{Err}
use Prim.Native.Nat.{ℕ, ◌+◌, ◌-◌, ◌^◌, ◌≤◌, ◌<◌}
use mathlib.Core.Bool.{true}
use mathlib.Core.List.{List, [], ◌∷◌, ◌++◌, append-nil}
use mathlib.Core.Path.{◌≡◌, refl, sym, ap, ◌∙◌}
use native.Mathlib.Omega.{arith}
use borrow.Author.Tests.{eqb-true, eq-eqb}
use lib.Dec.{eqb}
use lib.ListN.{length, get_or, take, drop, length-drop, take-append-drop}
use lib.Seq.{length-take-le, take_all, take_at, drop_at, drop-drop}
use Rattle.answer.specs.Answers.{Answer, Accepted}
use Rattle.answer.specs.Orders.{◌then◌}
use Rattle.answer.specs.declared.Reason.TheVariants.{WrongLength}
use Rattle.answer.proofs.Orders.{then_accepts, refusal_keeps}
use Rattle.answer.proofs.Steps.{passed}
use Rattle.decimal.specs.declared.Class.TheVariants.{Digit}
use Rattle.decimal.specs.Bytes.{is_of, all}
use Rattle.decimal.specs.Numbers.{value_of, number_of, digits_of}
use Rattle.decimal.specs.Places.{width_of, part_at, gather}
use Rattle.decimal.proofs.Bytes.{all_at, all_joins, all_of_part}
use Rattle.decimal.proofs.Places.{joins}
use Rattle.decimal.proofs.Numbers.{digit_range, value_digit, digit_back, digits_fill, number_of_digits, digits_of_number, number_fits}
use Rattle.modulus.specs.Checks.{check_of}
use Rattle.modulus.proofs.Sums.{check_is_a_digit}
use Rattle.barcode.specs.declared.Fields.{Fields}
use Rattle.barcode.specs.declared.Issuer.{Issuer}
use Rattle.barcode.specs.Codes.{digit_at, product, modulus_of, checked, value, issuer_end, issuer, free, issuer_of, free_of, general_check, general_right, barcode_answer}
use Rattle.barcode.specs.Agreed.{list_answer, free_answer, due_answer, barcode_under, barcode_check}
use Rattle.barcode.specs.Shown.{fields_of, decoded}
use Rattle.barcode.specs.Building.{head_of, tail_of, check_for, built_of, build_answer, build_check}
use Rattle.barcode.specs.RoundTrips.{answer_of_barcode, ShowsItsPlaces, DecodedAnswers, DueIsShown, FieldsAreItsPlaces, CodeIsItsFields, BuiltIsRead, WithinRanges, FieldsWithinRangesBuild, RefusedBuildKeeps}
use Rattle.barcode.proofs.Codes.{issuer_end_range, first_three_accepts, Good, good, accepted, segment_small, kind_small}
use Rattle.barcode.proofs.Lists.{free_accepts, shows_due}
use Rattle.barcode.proofs.Building.{build_accepts, ranges_of, written_check, code_length_holds}

pub decoded_answer : (a : Answer) (f : Fields) → answer_of_barcode (decoded a f) ≡ a
decoded_answer Accepted f = refl
decoded_answer (Err refusal) f = refl

pub decoded_answers : DecodedAnswers
decoded_answers agreed code = decoded_answer (barcode_check agreed code) (fields_of agreed code)

pub refused_build_keeps : RefusedBuildKeeps
refused_build_keeps agreed out i kind amount rest h =
    refusal_keeps (build_check agreed (length out) i kind amount rest) (built_of i kind amount rest) out h

-- Under a list: what the public answers tell.

pub check_tells : (agreed code : List ℕ) → barcode_check agreed code ≡ Accepted → (list_answer agreed ≡ Accepted) × (barcode_answer code ≡ Accepted) × (due_answer agreed code ≡ Accepted)
check_tells agreed code e =
    let list = (then_accepts (list_answer agreed) (barcode_under agreed code)).0 e in
    let code = (then_accepts (barcode_answer code) (due_answer agreed code)).0 list.1 in
    (list.0, code.0, code.1)

pub build_tells : (agreed : List ℕ) (i : Issuer) (kind amount : ℕ) (rest : List ℕ) → build_check agreed 44 i kind amount rest ≡ Accepted
    → (list_answer agreed ≡ Accepted) × (build_answer 44 i kind amount rest ≡ Accepted) × (free_answer agreed i rest ≡ Accepted)
build_tells agreed i kind amount rest e =
    let list = (then_accepts (list_answer agreed) (build_answer 44 i kind amount rest then free_answer agreed i rest)).0 e in
    let fields = (then_accepts (build_answer 44 i kind amount rest) (free_answer agreed i rest)).0 list.1 in
    (list.0, fields.0, fields.1)

-- what an accepting builder knows of the buffer and of the fields
pub build_length : (agreed : List ℕ) (size : ℕ) (i : Issuer) (kind amount : ℕ) (rest : List ℕ) → build_check agreed size i kind amount rest ≡ Accepted
    → (size ≡ 44) × (build_answer 44 i kind amount rest ≡ Accepted)
unfolding build_answer
build_length agreed size i kind amount rest e =
    let list = (then_accepts (list_answer agreed) (build_answer size i kind amount rest then free_answer agreed i rest)).0 e in
    let fields = ((then_accepts (build_answer size i kind amount rest) (free_answer agreed i rest)).0 list.1).0 in
    let same = eqb-true size 44 (passed (eqb size 44) WrongLength 0 fields).0 in
    (same, rw same at fields)

pub due_is_shown : DueIsShown
due_is_shown agreed code e = rw e (shows_due agreed (issuer_of code) (free_of code) (check_tells agreed code e).2)

pub fields_within_ranges_build : FieldsWithinRangesBuild
fields_within_ranges_build agreed i kind amount rest right =
    let ranges = build_accepts i kind amount rest in
    let due = free_accepts agreed i rest in (
      λ e. let told = build_tells agreed i kind amount rest e in (ranges.0 told.1, due.0 told.2),
      λ h. rw (right, ranges.1 h.0, due.1 h.1),
    )

-- Of an accepted barcode.

-- a digit is its value's byte
byte_back : (b : ℕ) → is_of Digit b ≡ true → 48 + value_of b ≡ b
byte_back b h = let r = digit_range b h in let v = value_digit b h in omega arith

heads : {a b : ℕ} {c d : List ℕ} → a ≡ b → c ≡ d → ◌≡◌ {A = List ℕ} (a ∷ c) (b ∷ d)
heads p q = cc

module _ (code : List ℕ) (g : Good code) where
  part_digits : (from count : ℕ) → from + count ≤ 44 → digits_of count (number_of (take count (drop from code))) ≡ take count (drop from code)
  part_digits from count fits =
      let l : length (take count (drop from code)) ≡ count = length-take-le count (drop from code) (omega (arith, g.long, length-drop from code)) in
      rw l at (digits_of_number (take count (drop from code)) (all_of_part (is_of Digit) from count code g.digits))

  seams : (e : ℕ) → 19 ≤ e → e ≤ 23
      → take 11 (drop 4 code) ++ (take (e - 15) (drop 15 code) ++ take (44 - e) (drop e code)) ≡ drop 4 code
  seams e lo hi =
      let n : 15 + (e - 15) ≡ e = omega arith in
      let all : take (44 - e) (drop e code) ≡ drop e code = take_all (44 - e) (drop e code) (omega (arith, g.long, length-drop e code)) in
      let two : take (e - 15) (drop 15 code) ++ take (44 - e) (drop e code) ≡ drop 15 code =
      cc (drop-drop (e - 15) 15 code, take-append-drop (e - 15) (drop 15 code)) in
      cc (drop-drop 11 4 code, take-append-drop 11 (drop 4 code))

  tail_back : tail_of (issuer_of code) (number_of (part_at value code)) (free_of code) ≡ drop 4 code
  tail_back =
      let s = digit_at 2 code in
      let range = issuer_end_range s in
      let b : issuer_end s + 1 - 1 ≡ issuer_end s = omega arith in
      rw (part_digits 4 11 (omega arith), part_digits 15 (issuer_end s - 15) (omega arith), b) (seams (issuer_end s) range.0 range.1)

  digit_byte : (i : ℕ) → i < 44 → 48 + value_of (get_or code i 0) ≡ get_or code i 0
  digit_byte i h = byte_back (get_or code i 0) (all_at (is_of Digit) code i g.digits (omega (arith, g.long)))

  head_back : head_of (digit_at 2 code) (digit_at 3 code) ≡ get_or code 0 0 ∷ get_or code 1 0 ∷ get_or code 2 0 ∷ []
  head_back =
      let first = ((first_three_accepts code).0 g.first_three).0 in
      let p : 48 + product ≡ get_or code 0 0 = omega (arith, first, digit_byte 0 (omega arith)) in
      rw (digit_byte 1 (omega arith), digit_byte 2 (omega arith), p)

  -- the 43 digits, and the whole
  checked_back : gather checked code ≡ get_or code 0 0 ∷ get_or code 1 0 ∷ get_or code 2 0 ∷ drop 4 code
  checked_back =
      let t : take 40 (drop 4 code) ++ [] ≡ drop 4 code = append-nil (take 40 (drop 4 code)) ∙ take_all 40 (drop 4 code) (omega (arith, g.long, length-drop 4 code)) in
      rw t (three (drop 4 code) code g.long)
    where
      three : (rest l : List ℕ) → length l ≡ 44 → take 3 l ++ rest ≡ get_or l 0 0 ∷ get_or l 1 0 ∷ get_or l 2 0 ∷ rest
      three rest [] h = absurd (omega arith)
      three rest (a ∷ []) h = absurd (omega arith)
      three rest (a ∷ b ∷ []) h = absurd (omega arith)
      three rest (a ∷ b ∷ c ∷ l) h = refl

  whole : code ≡ get_or code 0 0 ∷ get_or code 1 0 ∷ get_or code 2 0 ∷ get_or code 3 0 ∷ drop 4 code
  whole = four code g.long
    where
      four : (l : List ℕ) → length l ≡ 44 → l ≡ get_or l 0 0 ∷ get_or l 1 0 ∷ get_or l 2 0 ∷ get_or l 3 0 ∷ drop 4 l
      four [] h = absurd (omega arith)
      four (a ∷ []) h = absurd (omega arith)
      four (a ∷ b ∷ []) h = absurd (omega arith)
      four (a ∷ b ∷ c ∷ []) h = absurd (omega arith)
      four (a ∷ b ∷ c ∷ d ∷ l) h = refl

  check_back : 48 + check_for (issuer_of code) (digit_at 3 code) (number_of (part_at value code)) (free_of code) ≡ get_or code 3 0
  unfolding general_right
  check_back =
      let same : head_of (digit_at 2 code) (digit_at 3 code) ++ tail_of (issuer_of code) (number_of (part_at value code)) (free_of code) ≡ gather checked code
      = joins head_back tail_back ∙ sym checked_back in
      ap (λ (l : List ℕ). 48 + check_of (modulus_of (digit_at 3 code)) l) same ∙ sym (eqb-true (get_or code 3 0) (48 + general_check code) g.general)

  built_back : built_of (issuer_of code) (digit_at 3 code) (number_of (part_at value code)) (free_of code) ≡ code
  built_back = joins head_back (heads check_back tail_back) ∙ sym whole

part_length : (code : List ℕ) (from count : ℕ) → length code ≡ 44 → from + count ≤ 44 → length (take count (drop from code)) ≡ count
part_length code from count n h = length-take-le count (drop from code) (omega (arith, length-drop from code))

part_below : (code : List ℕ) (from count : ℕ) → length code ≡ 44 → from + count ≤ 44 → number_of (take count (drop from code)) < 10 ^ count
part_below code from count n h = rw (part_length code from count n h) at (number_fits (take count (drop from code)))

pub code_is_its_fields : CodeIsItsFields
code_is_its_fields agreed code e =
    let told = check_tells agreed code e in
    let g = good code told.1 in
    let three = (first_three_accepts code).0 g.first_three in
    let s = digit_at 2 code in
    let range = issuer_end_range s in
    let n = g.long in
    let built = (build_accepts (issuer_of code) (digit_at 3 code) (number_of (part_at value code)) (free_of code)).1 (record {
      segment = three.1;
      kinds = three.2;
      amounts = part_below code 4 11 n (omega arith);
      number = part_below code 15 (issuer_end s - 15) n (omega arith);
      long = part_length code (issuer_end s + 1 - 1) (44 - (issuer_end s + 1 - 1)) n (omega arith);
      digits = all_of_part (is_of Digit) (issuer_end s + 1 - 1) (44 - (issuer_end s + 1 - 1)) code g.digits;
    }) in
    (rw (told.0, built, told.2), built_back code g)

pub fields_are_its_places : FieldsAreItsPlaces
fields_are_its_places agreed code h =
    let e = sym (decoded_answers agreed code) ∙ h in
    let g = good code (check_tells agreed code e).1 in
    let range = issuer_end_range (digit_at 2 code) in
    let shows : ShowsItsPlaces agreed code (fields_of agreed code) = record { amount = part_digits code g 4 11 (omega arith); number = part_digits code g 15 (issuer_end (digit_at 2 code) - 15) (omega arith); rest = rw e } in
    rw e shows

-- What was built.
module _ (i : Issuer) (kind amount : ℕ) (rest : List ℕ) (fit : WithinRanges i kind amount rest) where
  tail_digits : all (is_of Digit) (tail_of i amount rest) ≡ true
  tail_digits =
      let w = width_of (issuer i.segment) in
      all_joins (is_of Digit) (digits_of 11 amount) (digits_of w i.number ++ rest)
      ∙ rw ((digits_fill 11 amount).1, all_joins (is_of Digit) (digits_of w i.number) rest, (digits_fill w i.number).1, fit.digits)

  built_digits : all (is_of Digit) (built_of i kind amount rest) ≡ true
  built_digits =
      let check = check_is_a_digit (modulus_of kind) (head_of i.segment kind ++ tail_of i amount rest) in
      rw ((digit_back 8 (omega arith)).0, (digit_back i.segment (segment_small i.segment fit.segment)).0, (digit_back kind (kind_small kind fit.kinds)).0, check, tail_digits)

  built_good : Good (built_of i kind amount rest)
  unfolding general_right
  built_good = record {
    long = code_length_holds i kind amount rest fit (check_for i kind amount rest);
    digits = built_digits;
    first_three = (first_three_accepts (built_of i kind amount rest)).1 (
      (digit_back 8 (omega arith)).1,
      rw (digit_back i.segment (segment_small i.segment fit.segment)).1 fit.segment,
      rw (digit_back kind (kind_small kind fit.kinds)).1 fit.kinds,
    );
    general = eq-eqb _ _ (ap (λ (n : ℕ). 48 + n) (sym (written_check i kind amount rest fit (check_for i kind amount rest))));
  }

  -- its parts, one behind the other
  amount_read : number_of (part_at value (built_of i kind amount rest)) ≡ amount
  amount_read =
      ap number_of (take_at (digits_of 11 amount) (digits_of (width_of (issuer i.segment)) i.number ++ rest) 11 (digits_fill 11 amount).0)
      ∙ number_of_digits 11 amount fit.amounts

  behind_amount : drop 11 (tail_of i amount rest) ≡ digits_of (width_of (issuer i.segment)) i.number ++ rest
  behind_amount = drop_at (digits_of 11 amount) (digits_of (width_of (issuer i.segment)) i.number ++ rest) 11 (digits_fill 11 amount).0

  number_read : number_of (part_at (issuer i.segment) (built_of i kind amount rest)) ≡ i.number
  number_read =
      let w = width_of (issuer i.segment) in
      ap (λ (l : List ℕ). number_of (take w l)) behind_amount ∙ ap number_of (take_at (digits_of w i.number) rest w (digits_fill w i.number).0) ∙ number_of_digits w i.number fit.number

  free_read : part_at (free i.segment) (built_of i kind amount rest) ≡ rest
  free_read =
      let e = issuer_end i.segment in
      let w = width_of (issuer i.segment) in
      let code = built_of i kind amount rest in
      let range = issuer_end_range i.segment in
      let b : e + 1 - 1 ≡ e = omega arith in
      let n : 15 + w ≡ e = omega arith in
      let f : drop e code ≡ rest =
      ap (λ (x : ℕ). drop x code) (sym n) ∙ sym (drop-drop w 15 code) ∙ ap (drop w) behind_amount ∙ drop_at (digits_of w i.number) rest w (digits_fill w i.number).0 in
      rw (b, f) (take_all (44 - e) rest (omega (arith, fit.long)))

-- issuer and free field are read as they were given
module _ (i : Issuer) (kind amount : ℕ) (rest : List ℕ) (fit : WithinRanges i kind amount rest) where
  pub issuer_read : issuer_of (built_of i kind amount rest) ≡ i
  issuer_read =
      let sg = (digit_back i.segment (segment_small i.segment fit.segment)).1 in
      rw (sg, number_read i kind amount rest fit)

  pub rest_read : free_of (built_of i kind amount rest) ≡ rest
  rest_read =
      let sg = (digit_back i.segment (segment_small i.segment fit.segment)).1 in
      rw sg (free_read i kind amount rest fit)

pub built_is_read : BuiltIsRead
built_is_read agreed i kind amount rest e =
    let told = build_tells agreed i kind amount rest e in
    let fit = ranges_of i kind amount rest told.1 in
    let code = built_of i kind amount rest in
    let issuer = issuer_read i kind amount rest fit in
    let free = rest_read i kind amount rest fit in
    let due : due_answer agreed code ≡ Accepted = rw (issuer, free) told.2 in
    let a : barcode_check agreed code ≡ Accepted = rw (told.0, accepted code (built_good i kind amount rest fit), due) in
    let amounts = amount_read i kind amount rest fit in
    let kinds = (digit_back kind (kind_small kind fit.kinds)).1 in
    (rw (a, kinds, amounts, issuer, free), rw a free)
