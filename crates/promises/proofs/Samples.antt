-- The samples, by computation. Assumes nothing.
use mathlib.Core.List.{List, [], ◌∷◌, map}
use mathlib.Core.Logic.{inl, inr}
use mathlib.Core.Path.{◌≡◌, refl, sym, ap, subst}
use native.Mathlib.Omega.{arith}
use lib.ListN.{get_or, set}
use Rattle.answer.specs.declared.Reason.TheVariants.{WrongGeneralCheck}
use Rattle.answer.specs.Answers.{Refused}
use Rattle.answer.specs.Orders.{Each}
use Rattle.decimal.specs.Bytes.{is_of}
use Rattle.decimal.specs.Numbers.{value_of, digits_of}
use Rattle.calendar.specs.Dates.{is_leap, days_in, is_date, date_of}
use Rattle.modulus.specs.declared.Modulus.TheVariants.{Eleven}
use Rattle.modulus.specs.Checks.{added_by, term_of, digit_of_remainder, exchanged, ZeroAndNine, BetweenZeroAndOne}
use Rattle.barcode.specs.Codes.{first_three_answer, general_right}
use Rattle.barcode.specs.Agreed.{is_issuer, key_of, list_answer, is_agreed, free_answer}
use Rattle.line.specs.Lines.{box_right, line_answer}
use Rattle.layout.specs.Layouts.{named_by, layout_of, table, row_at}
use Rattle.kinds.specs.Terms.{version_answer}
use Rattle.kinds.specs.Kinds.{is_version_text, is_service, date_answer, is_capture, is_form, kind_answer}
use Rattle.record.specs.Records.{field_answer, record_answer}
use Rattle.file.specs.Files.{file_answer, figures_answer}
use Rattle.file.specs.Forms.{has_line_end, fits_length, end_answer}
use Rattle.board.specs.Lanes.{payments_fit, tariff_fits}
use Rattle.board.specs.Boards.{own_of, used_after, sums_answer, slot_answer}
use Rattle.typos.specs.Typos.{Passes, InOneBox, box_remainder, code_remainder, BothMove, NoCheck}
use Rattle.typos.proofs.OneTen.{one_changed_digit_is_refused}
use Rattle.typos.proofs.Exchange.{exchange_of_neighbours}
use Rattle.typos.proofs.OneEleven.{one_changed_digit_under_eleven}
use Rattle.promises.specs.Samples.{Row, outcome_of, samples, Hold, P4IsPaid, p4, p5, p6, p8, p9, ChangeUnderTen, ExchangeUnderTen, ChangeUnderEleven, P5IsAnExchange, P6IsAChange, P9IsAChange, BoxAloneIsRefused, P8HasTwoFreeParts}

-- one equation between two tables gives each row's
each_row : {A B : Type 0} (f g : A → B) (xs : List A) → map f xs ≡ map g xs → Each (λ x. f x ≡ g x) xs
each_row f g [] p = tt
each_row {A} {B} f g (x ∷ xs) p = (ap (head_or (f x)) p, each_row f g xs (ap rest p))
  where
    head_or : B → List B → B
    head_or b [] = b
    head_or b (y ∷ ys) = y

    rest : List B → List B
    rest [] = []
    rest (y ∷ ys) = ys

all_rows : map (λ (row : Row). outcome_of row.question) samples ≡ map (λ (row : Row). row.outcome) samples
unfolding record_answer version_answer list_answer free_answer is_agreed key_of is_issuer field_answer kind_answer is_version_text is_service date_answer is_capture is_form named_by layout_of table row_at
    has_line_end fits_length end_answer figures_answer file_answer payments_fit tariff_fits own_of used_after sums_answer slot_answer first_three_answer general_right box_right
    term_of added_by digit_of_remainder date_of is_date days_in is_leap digits_of value_of is_of
all_rows = refl

pub samples_hold : Hold samples
samples_hold = each_row (λ (row : Row). outcome_of row.question) (λ (row : Row). row.outcome) samples all_rows

pub p4_is_paid : P4IsPaid
unfolding digits_of
p4_is_paid = refl

-- Demand 3's statements applied. The premises are computed; what the statement says follows from it.

p6_is : p6 ≡ set p4 47 57
unfolding digits_of
p6_is = refl

p6_premises : ChangeUnderTen p4 47 57
unfolding first_three_answer general_right box_right digit_of_remainder term_of added_by digits_of value_of is_of
p6_premises =
    record { passes = refl; names = refl; inside = omega arith; changes = λ e. omega (arith, e); still = refl }

pub p6_is_a_change : P6IsAChange
p6_is_a_change =
    let c = p6_premises in
    let never = one_changed_digit_is_refused p4 47 57 c.passes c.names c.inside c.changes c.still in
    (p6_is, c, λ e. never (subst Passes p6_is e))

p5_is : p5 ≡ exchanged p4 14
unfolding digits_of
p5_is = refl

p5_premises : ExchangeUnderTen p4 14
unfolding first_three_answer general_right box_right digit_of_remainder term_of added_by digits_of value_of is_of
p5_premises =
    record { passes = refl; names = refl; inside = omega arith; differ = λ e. omega (arith, e); still = refl }

p5_digits : ZeroAndNine (get_or p4 14 0) (get_or p4 15 0)
unfolding digits_of
p5_digits = inl (refl, refl)

p5_box : InOneBox 14
p5_box = omega arith

pub p5_is_an_exchange : P5IsAnExchange
p5_is_an_exchange =
    let c = p5_premises in
    let exactly = exchange_of_neighbours p4 14 c.passes c.names c.inside c.differ c.still in
    (p5_is, c, p5_digits, p5_box, subst Passes (sym p5_is) (exactly.1 (p5_digits, p5_box)))

p9_is : p9 ≡ set p8 46 54
unfolding digits_of
p9_is = refl

p9_premises : ChangeUnderEleven p8 46 54
unfolding first_three_answer general_right box_right digit_of_remainder term_of added_by digits_of value_of is_of
p9_premises =
    record {
      passes = refl;
      names = refl;
      inside = omega arith;
      changes = λ e. omega (arith, e);
      digit = refl;
      first = refl;
      second = refl;
      still = refl;
    }

p9_place : NoCheck 46
p9_place = omega arith

p9_moves : BothMove 46 p8 p9
unfolding term_of added_by digits_of value_of is_of
p9_moves = (inl (refl, refl), inl (refl, refl))

pub p9_is_a_change : P9IsAChange
p9_is_a_change =
    let c = p9_premises in
    let exactly =
    one_changed_digit_under_eleven p8 46 54 c.passes c.names c.inside c.changes c.digit c.first
    c.second c.still in
    let moves = subst (BothMove 46 p8) p9_is p9_moves in
    (p9_is, c, p9_place, p9_moves, subst Passes (sym p9_is) (exactly.1 (p9_place, moves)))

box_alone_premises : ChangeUnderEleven p8 34 54
unfolding first_three_answer general_right box_right digit_of_remainder term_of added_by digits_of value_of is_of
box_alone_premises =
    record {
      passes = refl;
      names = refl;
      inside = omega arith;
      changes = λ e. omega (arith, e);
      digit = refl;
      first = refl;
      second = refl;
      still = refl;
    }

box_alone_place : NoCheck 34
box_alone_place = omega arith

-- from 0 to 8
code_before : code_remainder Eleven p8 ≡ 0
unfolding term_of added_by digits_of value_of is_of
code_before = refl

code_after : code_remainder Eleven (set p8 34 54) ≡ 8
unfolding term_of added_by digits_of value_of is_of
code_after = refl

code_stays_out : BetweenZeroAndOne (code_remainder Eleven p8) (code_remainder Eleven (set p8 34 54)) → ⊥
code_stays_out (inl (a, b)) = omega (arith, code_after, b)
code_stays_out (inr (a, b)) = omega (arith, code_after, b)

box_moves : (box_remainder Eleven 34 p8 ≡ 0) × (box_remainder Eleven 34 (set p8 34 54) ≡ 1)
unfolding term_of added_by digits_of value_of is_of
box_moves = (refl, refl)

box_alone_answer : line_answer (set p8 34 54) ≡ Refused WrongGeneralCheck 4
unfolding first_three_answer general_right box_right digit_of_remainder term_of added_by digits_of value_of is_of
box_alone_answer = refl

pub box_alone_is_refused : BoxAloneIsRefused
box_alone_is_refused =
    let c = box_alone_premises in
    let exactly =
    one_changed_digit_under_eleven p8 34 54 c.passes c.names c.inside c.changes c.digit c.first
    c.second c.still in (
      c,
      box_alone_place,
      box_moves.0,
      box_moves.1,
      code_before,
      code_after,
      box_alone_answer,
      λ e. code_stays_out (exactly.0 e).1.1,
    )

pub p8_has_two_free_parts : P8HasTwoFreeParts
unfolding list_answer free_answer is_agreed first_three_answer general_right digit_of_remainder term_of added_by digits_of value_of is_of
p8_has_two_free_parts = (refl, refl)
