use native.Mathlib.Omega.{arith}
use Rattle.decimal.proofs.Numbers.{value_small}
use Rattle.modulus.proofs.Sums.{product_small}
use Rattle.modulus.specs.Checks.{added_by, term_of}
use Rattle.modulus.proofs.term.Goals as goal

pub overflow_cast-value : goal.overflow_cast-value
overflow_cast-value c = record { fits = rw c.value.ensures (omega (arith, value_small c.args.b)) }

pub overflow_mul-weight : goal.overflow_mul-weight
overflow_mul-weight c =
    let a = c.args in
    record { fits = rw (c.weight.ensures, c.value.ensures) (omega (arith, product_small a.m a.right a.b)) }

pub returns : goal.returns
unfolding term_of added_by
returns c = cc
