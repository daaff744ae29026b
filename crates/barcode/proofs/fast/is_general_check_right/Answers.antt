use mathlib.Core.Path.{◌≡◌}
use native.Mathlib.Omega.{arith}
use borrow.Author.Rules.{rules}
use lib.ListN.{length, take, drop, length-drop}
use lib.Seq.{length-take-le}
use Rattle.modulus.specs.Checks.{weighted_sum}
use Rattle.modulus.proofs.Sums.{remainder_small, rule_is_one_digit, sum_small}
use Rattle.barcode.proofs.OnePass.{right_as}
use Rattle.barcode.proofs.fast.is_general_check_right.Goals as goal

pub overflow_add-left : goal.overflow_add-left
overflow_add-left c =
    let a = c.args in
    let sized : length a.code.now ≡ 44 = search rules in
    let part = take 40 (drop 4 a.code.now) in
    let l : length part ≡ 40 = length-take-le 40 (drop 4 a.code.now) (omega (arith, length-drop 4 a.code.now, sized)) in
    let left = remainder_small a.m (weighted_sum a.m 40 (take 3 a.code.now)) in
    let sum = sum_small a.m 0 part in
    record { fits = rw (c.weighted_remainder-left.ensures, c.requires.summed) (omega arith) }

pub overflow_add-result : goal.overflow_add-result
overflow_add-result c =
    let small = rule_is_one_digit c.args.m c.remainder.result in
    record { fits = rw c.digit_of_remainder.ensures (omega arith) }

pub returns : goal.returns
returns c =
    let a = c.args in
    right_as a.code.now (search rules) a.m c.requires.named c.requires.summed c.weighted_remainder-left.ensures c.remainder.ensures c.digit_of_remainder.ensures c.wide.ensures
