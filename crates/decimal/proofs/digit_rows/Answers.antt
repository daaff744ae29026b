use Prim.Native.Nat.{◌-◌}
use mathlib.Core.Bool.{true}
use mathlib.Core.Path.{◌≡◌, sym, ◌∙◌}
use native.Mathlib.Omega.{arith}
use lib.ListN.{take, length}
use Rattle.decimal.proofs.Bytes.{last_row, one_failed, one_more_passed, rest_covered}
use Rattle.decimal.specs.declared.Class.TheVariants.{Digit}
use Rattle.decimal.specs.Bytes.{is_of, all}
use Rattle.decimal.proofs.digit_rows.Goals as goal

pub returns-then-all_of : goal.returns-then-all_of
returns-then-all_of c =
    let bs = c.args.part.now in
    let front : all (is_of Digit) (take 8 bs) ≡ true = sym c.all_of-then-n-lt16.ensures ∙ c.if-all_of.true in
    last_row (is_of Digit) bs 8 8 (omega arith) (omega arith) front c.all_of-then-all_of.ensures

pub returns-then-not-all_of : goal.returns-then-not-all_of
returns-then-not-all_of c =
    one_failed (is_of Digit) c.args.part.now _ c.loop-row.invariant.rows c.in-Some.row.now _ c.in-Some.ensures.steps.1.0 c.all_of-in-loop-row.ensures c.if-not-all_of.true

pub loop-row-preserved : goal.loop-row-preserved
loop-row-preserved c = record {
  size = c.in-Some.ensures.steps.0 ∙ c.loop-row.invariant.size;
  rows = one_more_passed (is_of Digit) c.args.part.now _ c.loop-row.invariant.rows c.in-Some.row.now _ c.in-Some.ensures.steps.1.0 c.all_of-in-loop-row.ensures c.if-not-all_of.false;
}

pub returns : goal.returns
returns c =
    let n = length c.args.part.now in
    rest_covered (is_of Digit) c.args.part.now (n - 1) c.loop-row.invariant.rows 16 (omega (arith, c.in-None.ensures.steps.1.0, c.loop-row.invariant.size)) (omega arith) (omega arith) c.all_of-2.ensures
