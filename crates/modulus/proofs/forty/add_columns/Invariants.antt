use Prim.Native.Nat.{◌+◌, ◌*◌, ◌≤◌}
use mathlib.Core.Bool.{true, ◌&&◌}
use mathlib.Core.Path.{◌≡◌}
use lib.Dec.{eqb}
use Rattle.modulus.specs.declared.Modulus.TheVariants.{Ten, Eleven}
use Rattle.modulus.specs.Columns.{are_digits, counted}
use Rattle.modulus.proofs.Columns.{left_digits, left_sum}
use Rattle.modulus.proofs.forty.add_columns.Given as goal

abbrev pub invariant-loop-i : goal.invariant-loop-i
invariant-loop-i l =
    (l.tens ≤ 90 * l.i) × (l.elevens ≤ 405 * l.i) × ((eqb l.error 0 && left_digits l.x l.y l.z l.i) ≡ are_digits l.x l.y l.z)
    × (are_digits l.x l.y l.z ≡ true → (l.tens + left_sum Ten l.x l.y l.z l.i ≡ counted Ten l.x l.y l.z) × (l.elevens + left_sum Eleven l.x l.y l.z l.i ≡ counted Eleven l.x l.y l.z))
