use mathlib.Core.Path.{◌≡◌, sym, ap, ◌∙◌}
use borrow.Author.Rules.{rules}
use lib.ListN.{take, drop}
use Rattle.answer.specs.Answers.{Accepted}
use Rattle.modulus.proofs.Columns.{sums_tell}
use Rattle.barcode.specs.Codes.{first_three_answer, modulus_of}
use Rattle.barcode.proofs.OnePass.{not_accepted, has_sums, as_right}
use Rattle.barcode.proofs.fast.is_accepted.Goals as goal

pub returns-in_default : goal.returns-in_default
returns-in_default c =
    let code = c.args.code.now in
    let none = sym c.in_default.is ∙ c.sums_of_forty.ensures in
    not_accepted code (λ e. has_sums code (search rules) e none)

pub is_general_check_right-requires : goal.is_general_check_right-requires
is_general_check_right-requires c =
    let code = c.args.code.now in
    let told = sums_tell (take 40 (drop 4 code)) (sym c.in-Some.is ∙ c.sums_of_forty.ensures) in
    record { named = sym c.in-Ten.is ∙ c.modulus_of_kind.ensures ∙ ap modulus_of c.digit.ensures; summed = told.1 }

pub is_general_check_right-requires-in-Eleven : goal.is_general_check_right-requires-in-Eleven
is_general_check_right-requires-in-Eleven c =
    let code = c.args.code.now in
    let told = sums_tell (take 40 (drop 4 code)) (sym c.in-Some.is ∙ c.sums_of_forty.ensures) in
    record { named = sym c.in-Eleven.is ∙ c.modulus_of_kind.ensures ∙ ap modulus_of c.digit.ensures; summed = told.2 }

pub returns-in-Ten : goal.returns-in-Ten
returns-in-Ten c =
    let code = c.args.code.now in
    let told = sums_tell (take 40 (drop 4 code)) (sym c.in-Some.is ∙ c.sums_of_forty.ensures) in
    let accepted : first_three_answer code ≡ Accepted = search rules in
    as_right code (search rules) accepted told.0 c.is_general_check_right.ensures

pub returns-in-Eleven : goal.returns-in-Eleven
returns-in-Eleven c =
    let code = c.args.code.now in
    let told = sums_tell (take 40 (drop 4 code)) (sym c.in-Some.is ∙ c.sums_of_forty.ensures) in
    let accepted : first_three_answer code ≡ Accepted = search rules in
    as_right code (search rules) accepted told.0 c.is_general_check_right-in-Eleven.ensures
