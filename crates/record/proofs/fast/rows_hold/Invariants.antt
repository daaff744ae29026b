use mathlib.Core.Bool.{◌&&◌}
use mathlib.Core.Path.{◌≡◌}
use lib.Dec.{eqb}
use Rattle.record.specs.FastPath.{rows_hold}
use Rattle.record.proofs.FastPath.{from}
use Rattle.record.proofs.fast.rows_hold.Given as goal

abbrev pub invariant-loop-i : goal.invariant-loop-i
invariant-loop-i l = (eqb l.flags 0 && from l.i l.a l.b l.c l.d l.e l.f) ≡ rows_hold l.a l.b l.c l.d l.e l.f
