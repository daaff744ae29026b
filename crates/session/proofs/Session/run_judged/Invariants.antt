use Prim.Native.Nat.{◌-◌, ◌≤◌}
use mathlib.Core.Path.{◌≡◌}
use lib.ListN.{length, drop}
use Rattle.answer.specs.Answers.{Accepted}
use Rattle.session.specs.Runs.{add_counts, run_under}
use Rattle.session.proofs.Session.run_judged.Given as goal

abbrev pub invariant-loop-at : goal.invariant-loop-at
invariant-loop-at l =
    (l.at ≤ length l.bytes) × (l.records ≤ l.at) × (l.files ≤ l.records)
    × (add_counts l.records l.files l.at (run_under l.agreed l.session l.more (drop l.at l.bytes)) ≡ run_under l.agreed l.initial.session l.more l.bytes) × (l.answer ≡ Accepted)

abbrev pub decreases-loop-at : goal.decreases-loop-at
decreases-loop-at l = length l.bytes - l.at
