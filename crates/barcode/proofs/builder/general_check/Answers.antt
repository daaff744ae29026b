use native.Mathlib.Omega.{arith}
use borrow.Author.Rules.{rules}
use lib.ListN.{take, drop}
use Rattle.barcode.proofs.Codes.{general_as}
use Rattle.modulus.proofs.Sums.{remainder_small, rule_is_one_digit}
use Rattle.modulus.specs.Checks.{weighted_sum}
use Rattle.barcode.proofs.builder.general_check.Goals as goal

pub overflow_add-left : goal.overflow_add-left
overflow_add-left c =
    let m = c.modulus_of_kind-m.result in
    let a = remainder_small m (weighted_sum m 40 (take 3 c.args.code.now)) in
    let b = remainder_small m (weighted_sum m 0 (take 40 (drop 4 c.args.code.now))) in
    record { fits = rw (c.weighted_remainder-left.ensures, c.weighted_remainder-right.ensures) (omega arith) }

pub returns : goal.returns
returns c =
    record {
      value = general_as c.args.code.now (search rules) c.digit.ensures c.modulus_of_kind-m.ensures
          c.weighted_remainder-left.ensures c.weighted_remainder-right.ensures c.remainder.ensures c.digit_of_remainder.ensures;
      small = rw c.digit_of_remainder.ensures (rule_is_one_digit c.modulus_of_kind-m.result c.remainder.result);
    }
