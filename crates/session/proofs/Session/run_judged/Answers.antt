use Prim.Native.Nat.{◌+◌, ◌<◌}
use mathlib.Core.Path.{refl, sym, ap, ◌∙◌}
use native.Mathlib.Omega.{arith}
use borrow.Author.Rules.{rules}
use lib.ListN.{length}
use Rattle.session.proofs.Runs.{session_given, session_refused, counts_none, least_some, cut_ends, cut_grows, run_paid, run_stops, run_goes, run_ends}
use Rattle.session.specs.Runs.{files_closed, run_under}
use Rattle.session.specs.LeadingPayments.{with_leading}
use Rattle.session.proofs.Session.run_judged.Goals as goal

pub loop-at-init : goal.loop-at-init
loop-at-init c = let a = c.args in (search rules, search rules, search rules, counts_none (run_under a.agreed.now a.self a.more a.bytes.now), refl)

pub overflow_add-end : goal.overflow_add-end
overflow_add-end c =
    let paid = c.take_leading_payments-paid in
    let l = c.loop-at in
    let a = c.args in
    let at = l.at + paid.result.progress.at in
    let inside : at < length a.bytes.now = omega (arith, c.if-bytes-at.false, c.least_left.ensures, least_some a.more) in
    let grown = cut_grows a.bytes.now at inside c.cut_length.ensures.some in
    record { fits = omega (arith, grown.1, c.well_formed) }

pub bounds-bytes-at : goal.bounds-bytes-at
bounds-bytes-at c =
    let more = c.args.more in
    omega (arith, c.if-bytes-at.false, c.least_left.ensures, least_some more)

pub overflow_add-files : goal.overflow_add-files
overflow_add-files c =
    let paid = c.take_leading_payments-paid in
    let l = c.loop-at in
    let a = c.args in
    let at = l.at + paid.result.progress.at in
    let inside : at < length a.bytes.now = omega (arith, c.if-bytes-at.false, c.least_left.ensures, least_some a.more) in
    let grown = cut_grows a.bytes.now at inside c.cut_length.ensures.some in
    omega (arith, grown.0, grown.1, c.well_formed, l.invariant.1, l.invariant.2, c.files_closed-files.ensures.small)

pub overflow_add-records-in-loop-at : goal.overflow_add-records-in-loop-at
overflow_add-records-in-loop-at c =
    let paid = c.take_leading_payments-paid in
    let l = c.loop-at in
    let a = c.args in
    let at = l.at + paid.result.progress.at in
    let inside : at < length a.bytes.now = omega (arith, c.if-bytes-at.false, c.least_left.ensures, least_some a.more) in
    let grown = cut_grows a.bytes.now at inside c.cut_length.ensures.some in
    omega (arith, grown.0, grown.1, c.well_formed, l.invariant.1, paid.ensures.few)

pub loop-at-smaller : goal.loop-at-smaller
loop-at-smaller c =
    let paid = c.take_leading_payments-paid in
    let l = c.loop-at in
    let a = c.args in
    let at = l.at + paid.result.progress.at in
    let inside : at < length a.bytes.now = omega (arith, c.if-bytes-at.false, c.least_left.ensures, least_some a.more) in
    let grown = cut_grows a.bytes.now at inside c.cut_length.ensures.some in
    omega (arith, grown.0, grown.1)

pub loop-at-preserved : goal.loop-at-preserved
loop-at-preserved c =
    let paid = c.take_leading_payments-paid in
    let l = c.loop-at in
    let a = c.args in
    let at = l.at + paid.result.progress.at in
    let inside : at < length a.bytes.now = omega (arith, c.if-bytes-at.false, c.least_left.ensures, least_some a.more) in
    let grown = cut_grows a.bytes.now at inside c.cut_length.ensures.some in
    let s = with_leading l.session paid.result in
    let taken = session_given a.agreed.now s _ (sym c.take_judged.ensures ∙ c.in-Ok.is) in (
      grown.1,
      omega (arith, grown.0, paid.ensures.few, l.invariant.1),
      omega (arith, c.files_closed-files.ensures.small, l.invariant.2),
      run_goes a.agreed.now a.self s a.more a.bytes.now at _ _ (run_paid a.agreed.now a.self l.session a.more a.bytes.now l.at l.records l.files l.invariant.3 paid.ensures) inside (omega (arith, c.if-bytes-at.false, c.least_left.ensures))
          (cut_ends a.bytes.now at s c.cut_length.ensures.value) taken refl (c.files_closed-files.ensures.value ∙ ap files_closed c.named_by.ensures),
      l.invariant.4,
    )

pub returns-then-bytes-at : goal.returns-then-bytes-at
returns-then-bytes-at c =
    let paid = c.take_leading_payments-paid in
    let l = c.loop-at in
    let a = c.args in
    rw l.invariant.4
    (run_ends a.agreed.now a.self (with_leading l.session paid.result) a.more a.bytes.now _ _ _ (run_paid a.agreed.now a.self l.session a.more a.bytes.now l.at l.records l.files l.invariant.3 paid.ensures)
    (omega (arith, c.if-bytes-at.true, c.least_left.ensures)))

pub returns-in-Err : goal.returns-in-Err
returns-in-Err c =
    let paid = c.take_leading_payments-paid in
    let l = c.loop-at in
    let a = c.args in
    let at = l.at + paid.result.progress.at in
    let inside : at < length a.bytes.now = omega (arith, c.if-bytes-at.false, c.least_left.ensures, least_some a.more) in
    let s = with_leading l.session paid.result in
    run_stops a.agreed.now a.self s a.more a.bytes.now at _ _ (run_paid a.agreed.now a.self l.session a.more a.bytes.now l.at l.records l.files l.invariant.3 paid.ensures) inside (omega (arith, c.if-bytes-at.false, c.least_left.ensures))
    (cut_ends a.bytes.now at s c.cut_length.ensures.value) (session_refused a.agreed.now s _ (sym c.take_judged.ensures ∙ c.in-Err.is)) refl
