use native.Mathlib.Omega.{arith}
use Rattle.modulus.proofs.Sums.{check_is_one_digit}
use Rattle.line.proofs.check_byte.Goals as goal

pub overflow_add-result : goal.overflow_add-result
overflow_add-result c = record { fits = rw c.check.ensures (omega (arith, check_is_one_digit c.args.m c.args.part.now)) }

pub overflow_cast-result : goal.overflow_cast-result
overflow_cast-result c = record { fits = rw c.check.ensures (omega (arith, check_is_one_digit c.args.m c.args.part.now)) }
