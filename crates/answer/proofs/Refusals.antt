-- A number names one reason, and none is 0 or 20: computed over the reasons that the enum declares. Assumes nothing.
use Rattle.std.specs.Prelude.{Err}
use Prim.Native.Nat.{◌<◌}
use mathlib.Core.Bool.{not}
use mathlib.Core.Path.{refl, ap}
use native.Mathlib.Omega.{arith}
use borrow.Author.Tests.{ltb-true, eq-eqb}
use lib.Dec.{ltb, eqb}
use Rattle.answer.specs.declared.Reason.{Reason}
use Rattle.answer.specs.Answers.{Accepted}
use Rattle.answer.specs.Refusals.{reason_number, answer_number, NumbersDiffer, TwentyIsRetired, ZeroIsAccepted}
use Rattle.answer.proofs.Enums.{at, one_value}
use Rattle.answer.specs.contracts.Reason.{enum}
use Rattle.answer.proofs.Tests.{never}

pub numbers_differ : NumbersDiffer
numbers_differ = one_value enum reason_number refl

pub twenty_is_retired : TwentyIsRetired
twenty_is_retired why e = never (rw (eq-eqb _ _ e) at (at enum (λ (r : Reason). not (eqb (reason_number r) 20)) refl why))

number_positive : (why : Reason) → 0 < reason_number why
number_positive why = ltb-true 0 (reason_number why) (at enum (λ (r : Reason). ltb 0 (reason_number r)) refl why)

pub zero_is_accepted : ZeroIsAccepted
zero_is_accepted Accepted = (λ e. refl, λ e. refl)
zero_is_accepted (Err refusal) = (λ e. absurd (omega (arith, number_positive refusal.why)), λ e. ap answer_number e)
