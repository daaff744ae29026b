-- Only for `sums_of_forty`, the fast path over forty digits: three rows of sixteen bytes, of which the last starts with
-- eight that are in the row before it and count there. Assumes nothing.
use Rattle.std.specs.Prelude.{ℕ, ◌+◌, ◌-◌, Bool, true, ◌&&◌, List, ◌≡◌, eqb, drop}
use Rattle.decimal.specs.declared.Class.TheVariants.{Digit}
use Rattle.decimal.specs.Bytes.{is_of, all}
use Rattle.modulus.specs.declared.Modulus.{Modulus}
use Rattle.modulus.specs.declared.Modulus.TheVariants.{Ten, Eleven}
use Rattle.modulus.specs.Checks.{added_by, weighted_sum}

-- all bytes of the rows are digits
abbrev pub are_digits : List ℕ → List ℕ → List ℕ → Bool
are_digits x y z = all (is_of Digit) x && (all (is_of Digit) y && all (is_of Digit) z)

-- the sum over the rows, with no byte twice
abbrev pub counted : Modulus → List ℕ → List ℕ → List ℕ → ℕ
counted m x y z = weighted_sum m 0 x + (weighted_sum m 0 y + weighted_sum m 0 (drop 8 z))

-- what three values in column i of a row of sixteen add
abbrev pub column_adds : Modulus → ℕ → ℕ → ℕ → ℕ → ℕ
column_adds m i a b c = added_by m (15 - i) a + (added_by m (15 - i) b + added_by m (15 - i) c)

-- what the loop over the columns tells of the rows
pub record ColumnsAdded (x y z : List ℕ) (error ten eleven : ℕ) : Type 0 where
  pub digits : eqb error 0 ≡ are_digits x y z
  pub tens : are_digits x y z ≡ true → ten ≡ counted Ten x y z
  pub elevens : are_digits x y z ≡ true → eleven ≡ counted Eleven x y z
