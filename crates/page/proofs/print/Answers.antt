use mathlib.Core.Path.{◌≡◌, sym}
use native.Mathlib.Omega.{arith}
use borrow.Author.Rules.{rules}
use lib.ListN.{length}
use Rattle.answer.proofs.Orders.{gives_tells}
use Rattle.page.proofs.Pages.{lanes_shown, printed}
use Rattle.page.proofs.Steps.{printed_then}
use Rattle.page.specs.Pages.{sums_lines, head_lines, page_of, page_length, buffer_answer}
use Rattle.page.specs.Pieces.{most_sums, Printed}
use Rattle.page.proofs.print.Goals as goal

pub returns : goal.returns
unfolding head_lines
returns c =
    let a = c.args in
    let page = page_of a.number a.place a.records a.files a.board in
    let long : length a.out.now ≡ page_length = search rules in
    let in_use = lanes_shown a.board (search rules) c.lanes_in_use.ensures in
    let count = rw in_use at c.line-5.ensures in
    let lanes = rw in_use at c.lanes.ensures in
    let sums : Printed most_sums (sums_lines a.board) c.line-4.new.self c.tally.new.self
    = printed_then (omega arith) count c.tally.ensures in
    let counts = printed_then (omega arith) c.line-3.ensures (printed_then (omega arith) c.line-4.ensures sums) in
    let head = printed_then (omega arith) c.line.ensures (printed_then (omega arith) c.line-2.ensures counts) in
    let whole = printed_then (omega arith) head lanes in
    let p = printed page a.out.now long whole.wrote in
    let told = gives_tells (buffer_answer a.out.now) (sym p.0) in
    record { value = p.0; zero = rw (told.0, told.1); bytes = grind (arith, whole.same_buffer, p.1.0); bounded = p.1.1 }
