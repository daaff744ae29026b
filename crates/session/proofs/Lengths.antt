-- How long what is taken may be, and where a run cuts, as the code finds it. Assumes nothing.
use Prim.Native.Nat.{ℕ, ◌<◌, ◌≤◌}
use mathlib.Core.Bool.{Bool, true, false}
use mathlib.Core.List.{List}
use mathlib.Core.Path.{◌≡◌, refl, sym, ◌∙◌}
use native.Mathlib.Omega.{arith}
use borrow.Author.Tests.{le-leb}
use lib.Dec.{leb}
use lib.ListN.{length, take, length-take}
use Rattle.layout.specs.Layouts.{record_length}
use Rattle.file.specs.Forms.{lined_length, length_of, has_line_end, fits_length, is_next_lined}
use Rattle.session.specs.Runs.{least_left}
use Rattle.session.specs.LeadingPayments.{record_needs}
use Rattle.file.proofs.Forms.{at_least_bare, at_most_lined, not_ended, fits_bare_length, fits_longer}

-- more than 150 bytes
module _ (opened lined : Bool) (rec : List ℕ) (longer : record_length < length rec) where
  pub fits_closed : opened ≡ false → has_line_end rec ≡ fits_length opened lined rec
  fits_closed e = sym (fits_longer opened lined rec longer ∙ rw e)

  pub fits_bare : opened ≡ true → lined ≡ false → false ≡ fits_length opened lined rec
  fits_bare e f = sym (fits_longer opened lined rec longer ∙ rw (e, f))

  pub fits_lined : opened ≡ true → lined ≡ true → leb (length rec) lined_length ≡ fits_length opened lined rec
  fits_lined e f = sym (fits_longer opened lined rec longer ∙ rw (e, f))

-- the next piece
module _ {opened : Bool} (lined : Bool) (bytes : List ℕ) where
  pub piece_open : opened ≡ true → lined ≡ is_next_lined opened lined bytes
  piece_open e = rw e

  pub piece_short : opened ≡ false → length bytes < lined_length → false ≡ is_next_lined opened lined bytes
  piece_short e h =
      let none : has_line_end (take lined_length bytes) ≡ false =
      not_ended (take lined_length bytes) (λ n. omega (arith, n, length-take lined_length bytes, h)) in
      rw (e, none)

  pub piece_ahead : {t : Bool} → opened ≡ false → t ≡ has_line_end (take lined_length bytes)
      → t ≡ is_next_lined opened lined bytes
  piece_ahead e f = rw e f

-- a record of an open file that is as long as its form's records are
pub fits_form : (lined : Bool) (rec : List ℕ) → length rec ≡ length_of lined → fits_length true lined rec ≡ true
fits_form true rec n = sym (fits_lined true true rec (omega (arith, n)) refl refl) ∙ le-leb (length rec) lined_length (omega (arith, n))
fits_form false rec n = fits_bare_length true false rec n

-- what one more record needs is enough for a run's next step, and for the record
pub needs_least : (more lined : Bool) → least_left more ≤ record_needs lined more
needs_least true lined = omega arith
needs_least false lined = omega (arith, at_least_bare lined)

pub needs_record : (more lined : Bool) → length_of lined ≤ record_needs lined more
needs_record true lined = at_most_lined lined
needs_record false lined = omega arith
