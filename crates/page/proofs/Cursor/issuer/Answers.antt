use native.Mathlib.Omega.{arith}
use borrow.Author.Rules.{rules}
use Rattle.barcode.proofs.Codes.{issuer_end_range}
use Rattle.page.proofs.Steps.{printed_then}
use Rattle.page.specs.Pages.{issuer_line}
use Rattle.page.proofs.Cursor.issuer.Goals as goal

pub shown-requires-2 : goal.shown-requires-2
shown-requires-2 c =
    let range = issuer_end_range c.args.issuer.segment in
    (omega (arith, c.issuer_width.ensures), search rules)

pub returns : goal.returns
unfolding issuer_line
returns c =
    let fits = c.requires in
    let digits = rw c.issuer_width.ensures at c.shown-2.ensures in
    printed_then (omega arith) c.text.ensures
    (printed_then (omega arith) c.shown.ensures
    (printed_then (omega arith) c.text-2.ensures
    (printed_then (omega arith) digits c.text-3.ensures)))
