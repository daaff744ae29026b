use mathlib.Core.Path.{sym}
use native.Mathlib.Omega.{arith}
use lib.Seq.{length-take-le}
use Rattle.quadro.proofs.print_page.Goals as goal

pub slice_bounds-page-end : goal.slice_bounds-page-end
slice_bounds-page-end c = omega (arith, c.put_page-length.ensures.bounded)

pub slice_bounds-write_all-end : goal.slice_bounds-write_all-end
slice_bounds-write_all-end c =
    let put = c.put_page-length in
    sym (length-take-le put.result put.new.out (omega (arith, put.ensures.bounded)))
