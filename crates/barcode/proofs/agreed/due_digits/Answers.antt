use mathlib.Core.Path.{sym}
use native.Mathlib.Omega.{arith}
use lib.Seq.{take_all, length-take-le}
use Rattle.barcode.proofs.agreed.due_digits.Goals as goal

pub returns-then-free-lt8 : goal.returns-then-free-lt8
returns-then-free-lt8 c = sym (take_all 8 _ (omega (arith, c.if-free-lt8.true)))

pub slice_bounds-result-end : goal.slice_bounds-result-end
slice_bounds-result-end c =
    let free = c.args.free.now in
    sym (length-take-le 8 free (omega (arith, c.if-free-lt8.false)))
