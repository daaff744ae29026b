use Prim.Native.Nat.{◌-◌, ◌^◌}
use mathlib.Core.Path.{◌≡◌}
use lib.Dec.{ltb}
use Rattle.decimal.proofs.fits_width.Given as goal

abbrev pub invariant-loop : goal.invariant-loop
invariant-loop l = ltb l.rest (10 ^ (l.width - l.counter)) ≡ ltb l.n (10 ^ l.width)
