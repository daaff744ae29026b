use mathlib.Core.Path.{◌≡◌, refl, sym, ◌∙◌}
use native.Mathlib.Omega.{arith}
use borrow.Author.Rules.{rules}
use lib.ListN.{length-set}
use Rattle.board.specs.Boards.{lanes_of, index_of, slot_at}
use Rattle.board.specs.Searches.{cache_length}
use Rattle.board.proofs.Searches.{search_on, search_hits, search_ends}
use Rattle.board.proofs.Caches.{zeros_cache, cached_starts, caches_on}
use Rattle.file.proofs.Forms.{at_least_bare}
use Rattle.session.proofs.Payments.{next_told, slot_given, one_more}
use Rattle.session.proofs.Runs.{counts_none}
use Rattle.session.specs.Runs.{run_under}
use Rattle.session.proofs.Session.take_leading_payments.Goals as goal
use Rattle.session.proofs.Session.take_leading_payments.Goals.{then-loop-i-test+then-is_of, else-loop-i-test}

pub loop-payment-init : goal.loop-payment-init
loop-payment-init c =
    let a = c.args in (
      search rules,
      refl,
      zeros_cache a.self.work cache_length,
      rw c.no_progress-progress.ensures (record { within = omega arith; few = omega arith; rest = counts_none (run_under a.agreed.now a.self a.more a.bytes.now) }),
    )

pub next_payment-requires : goal.next_payment-requires
next_payment-requires c = let inv = c.loop-payment.invariant.3 in (inv.few, inv.within)

pub overflow_cast-guess : goal.overflow_cast-guess
overflow_cast-guess c = record { fits = omega (arith, (c.loop-payment.invariant.2 c.cache_index-entry.result).0) }

pub offset_bounds-work-guess : goal.offset_bounds-work-guess
offset_bounds-work-guess c = record { fits = omega (arith, (c.loop-payment.invariant.2 c.cache_index-entry.result).0) }

pub bounds-work-guess : goal.bounds-work-guess
bounds-work-guess c = (c.loop-payment.invariant.2 c.cache_index-entry.result).0

pub loop-i-init : goal.loop-i-init
loop-i-init c =
    let o = c.loop-payment in
    let cached = o.invariant.2 c.cache_index-entry.result in
    (cached_starts o.work o.invariant.0 c.in-Some.payment.issuer _ cached.0 cached.1 c.search_range-range.ensures, refl)

pub loop-i-preserved : goal.loop-i-preserved
loop-i-preserved c =
    let l = c.loop-i in
    let o = c.loop-payment in
    let inv = l.invariant in
    (search_on o.work o.invariant.0 c.in-Some.payment.issuer c.search_range-range.result.to l.i inv.0 c.loop-i-test.true (sym c.is_of.ensures ∙ c.if-is_of.false), inv.1)

pub loop-payment-smaller : goal.loop-payment-smaller
loop-payment-smaller c =
    let took = next_told _ c.next_payment.ensures c.in-Some.is in
    omega (arith, took.inside, took.ends, at_least_bare c.loop-payment.progress.file.lined)

pub loop-payment-preserved : goal.loop-payment-preserved
loop-payment-preserved c =
    let l = c.loop-i in
    let at = c.loop-i-test.at in
    let to = c.search_range-range.result.to in
    let o = c.loop-payment in
    let took = next_told _ c.next_payment.ensures c.in-Some.is in
    let p = c.in-Some.payment in
    let a = c.args in
    let found : at ≡ index_of p.issuer (lanes_of o.work) =
    elim c.loop-i-test.branch [
      | then-loop-i-test+then-is_of w ↦ w.at-is ∙ search_hits o.work o.invariant.0 p.issuer to l.i l.invariant.0 w.loop-i-test.true (sym w.is_of.ensures ∙ w.if-is_of.true)
      | else-loop-i-test w ↦ let end : to ≡ l.i = omega (arith, l.invariant.0.0, w.loop-i-test.false) in w.at-is ∙ l.invariant.1 ∙ end ∙ search_ends o.work o.invariant.0 p.issuer to l.i l.invariant.0 w.loop-i-test.false
    ] in
    let posted = slot_given (slot_at o.work at) p (sym c.post_at.ensures ∙ c.in-Ok.is) in
    let entry = c.cache_index-entry in (
      length-set o.work.lanes at _ ∙ o.invariant.0,
      length-set o.cache entry.result at ∙ o.invariant.1,
      caches_on o.work o.invariant.0 p at found c.if-at-ge-LANES.false posted refl o.cache entry.result (omega (arith, entry.ensures, o.invariant.1)) o.invariant.2,
      one_more a.agreed.now a.self a.more a.bytes.now (record { work = o.work; progress = o.progress }) o.invariant.3 took found posted refl,
    )

pub returns-in_default : goal.returns-in_default
returns-in_default c = c.loop-payment.invariant.3
