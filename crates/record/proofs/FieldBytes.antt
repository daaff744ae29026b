-- Laws of a field's bytes. Assumes nothing.
use Prim.Native.Nat.{ℕ, ◌+◌, ◌-◌, ◌≤◌}
use mathlib.Core.Bool.{true}
use mathlib.Core.List.{List}
use mathlib.Core.Path.{◌≡◌, ◌∙◌}
use native.Mathlib.Omega.{arith}
use lib.ListN.{length, drop, length-drop}
use lib.Seq.{length-take-le}
use Rattle.decimal.specs.declared.Class.TheVariants.{Digit}
use Rattle.decimal.specs.Bytes.{is_of, all}
use Rattle.decimal.specs.Numbers.{number_of}
use Rattle.decimal.specs.LowHalves.{low_number_of}
use Rattle.decimal.specs.Places.{places}
use Rattle.decimal.proofs.Numbers.{low_of_digits}
use Rattle.layout.specs.declared.Field.{Field}
use Rattle.layout.specs.Layouts.{record_length, InRecord}
use Rattle.record.specs.Records.{field_bytes}

pub places_length : (rec : List ℕ) → length rec ≡ record_length → (first last : ℕ) → last ≤ 150 → length (places first last rec) ≡ last - (first - 1)
places_length rec n first last h = length-take-le (last - (first - 1)) (drop (first - 1) rec) (omega (arith, length-drop (first - 1) rec))

pub part_length : (f : Field) (rec : List ℕ) → InRecord f → length rec ≡ record_length → length (field_bytes f rec) ≡ f.last - (f.first - 1)
part_length f rec l n = places_length rec n f.first f.last l.end

-- at most nineteen digits, read by their low halves
pub number_read : (f : Field) (rec : List ℕ) {r : ℕ} → InRecord f → f.last ≤ f.first + 18 → length rec ≡ record_length
    → all (is_of Digit) (field_bytes f rec) ≡ true → r ≡ low_number_of (field_bytes f rec) → r ≡ number_of (field_bytes f rec)
number_read f rec l w n t e = e ∙ low_of_digits (field_bytes f rec) t (omega (arith, part_length f rec l n, l.start))
