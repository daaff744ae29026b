use Prim.Native.Nat.{◌-◌}
use mathlib.Core.Path.{◌≡◌}
use lib.ListN.{length}
use Rattle.board.specs.Lanes.{most_lanes}
use Rattle.board.specs.Searches.{cache_length}
use Rattle.board.proofs.Searches.{Searched}
use Rattle.board.proofs.Caches.{Caches}
use Rattle.session.specs.LeadingPayments.{LeadingPaymentsOf}
use Rattle.session.proofs.Session.take_leading_payments.Given as goal

abbrev pub invariant-loop-i : goal.invariant-loop-i
invariant-loop-i l = Searched l.work l.payment.issuer l.i-end l.i × (l.at ≡ l.i-end)

abbrev pub invariant-loop-payment : goal.invariant-loop-payment
invariant-loop-payment l =
    (length l.work.lanes ≡ most_lanes) × (length l.cache ≡ cache_length) × Caches l.work l.cache
    × LeadingPaymentsOf l.agreed l.self l.more l.bytes (record { work = l.work; progress = l.progress })

abbrev pub decreases-loop-payment : goal.decreases-loop-payment
decreases-loop-payment l = length l.bytes - l.progress.at
