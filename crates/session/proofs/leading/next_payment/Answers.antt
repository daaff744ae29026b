use Prim.Native.Nat.{◌+◌}
use mathlib.Core.Path.{sym, ◌∙◌}
use native.Mathlib.Omega.{arith}
use Rattle.answer.proofs.Orders.{ok_accepts, ok_tells}
use Rattle.file.proofs.Forms.{at_least_bare}
use Rattle.session.proofs.Lengths.{needs_least, needs_record}
use Rattle.session.proofs.Payments.{next_is}
use Rattle.session.proofs.leading.next_payment.Goals as goal

pub overflow_add-end : goal.overflow_add-end
overflow_add-end c =
    let a = c.args in
    record { fits = omega (arith, c.record_length.ensures, c.if-bytes-at.false, c.record_needs.ensures, needs_record a.more a.done.file.lined, c.requires.1) }

pub slice_bounds-check_end-end : goal.slice_bounds-check_end-end
slice_bounds-check_end-end c =
    let a = c.args in
    omega (arith, c.record_length.ensures, c.if-bytes-at.false, c.record_needs.ensures, needs_record a.more a.done.file.lined, c.requires.1)

pub slice_bounds-rec-end : goal.slice_bounds-rec-end
slice_bounds-rec-end c =
    let a = c.args in
    omega (arith, c.if-bytes-at.false, c.record_needs.ensures, needs_record a.more a.done.file.lined, at_least_bare a.done.file.lined, c.requires.1)

pub returns : goal.returns
returns c =
    let a = c.args in
    let size = c.record_length.ensures in
    let least = needs_least a.more a.done.file.lined in
    let own = needs_record a.more a.done.file.lined in
    let ended = ok_accepts _ (sym c.in_ok-ok.was ∙ c.ok.ensures.value) in
    let took = ok_tells _ (sym c.in_ok-file.was ∙ c.ok-2.ensures.value) in
    next_is a.agreed.now {opened = a.opened} {more = a.more} {before = a.done} {bytes = a.bytes.now} {end = a.done.at + c.record_length.result}
    c.if-not-opened.false (omega (arith, least, c.record_needs.ensures, c.if-bytes-at.false, c.requires.1)) (omega (arith, size))
    (omega (arith, own, size, c.record_needs.ensures, c.if-bytes-at.false, c.requires.1)) (sym c.check_end.ensures ∙ ended)
    c.accepted_payment.ensures c.in_ok-due.was (sym c.take.ensures.answer ∙ sym took) c.of_payment.ensures
