-- Laws of what is given of a field, and of its kinds. Assumes nothing.
use Prim.Native.Nat.{ℕ, ◌-◌, ◌≤◌}
use mathlib.Core.Bool.{Bool, true}
use mathlib.Core.List.{List}
use mathlib.Core.Path.{◌≡◌, refl, sym, ◌∙◌}
use native.Mathlib.Omega.{arith}
use borrow.Author.Tests.{eqb-true}
use lib.Dec.{eqb}
use lib.ListN.{length, drop, length-drop, length-replicate}
use lib.Seq.{length-take-le}
use Rattle.decimal.proofs.Numbers.{digits_fill}
use Rattle.decimal.specs.Places.{width_of, part_at}
use Rattle.layout.specs.declared.Field.{Field}
use Rattle.layout.specs.declared.Given.{Given}
use Rattle.layout.specs.declared.Kind.{Kind}
use Rattle.layout.specs.declared.Kind.TheVariants as kind
use Rattle.layout.specs.declared.Record.{Record}
use Rattle.layout.specs.declared.Record.TheVariants.{Header, Payment, Trailer}
use Rattle.layout.specs.Layouts.{record_length, layout_of, stretch_of, given_of, given_at, InRecord}
use Rattle.layout.proofs.Tables.{every}
use Rattle.fields.specs.Making.{written_of, given_width}

pub given_order : (k : Kind) (w : ℕ) → (given_of k w).from ≤ (given_of k w).to
given_order (kind.Mark byte) w = omega arith
given_order kind.Version w = omega arith
given_order kind.Service w = omega arith
given_order kind.Blank w = omega arith
given_order kind.Text w = omega arith
given_order kind.Digits w = omega arith
given_order kind.Money w = omega arith
given_order kind.Date w = omega arith
given_order kind.Barcode w = omega arith
given_order kind.Capture w = omega arith
given_order kind.Form w = omega arith

pub given_width_is : (f : Field) → 1 ≤ f.first → (given_of f.kind (width_of (stretch_of f))).to - (given_of f.kind (width_of (stretch_of f))).from ≡ given_width f
given_width_is f h = omega (arith, given_order f.kind (width_of (stretch_of f)))

pub part_length : {f : Field} (rec : List ℕ) → InRecord f → length rec ≡ record_length → (given_at f).last ≤ f.last → length (part_at (given_at f) rec) ≡ given_width f
part_length {f} rec l n h =
    length-take-le (given_width f) (drop ((given_at f).first - 1) rec) (omega (arith, length-drop ((given_at f).first - 1) rec, n, h, l.end))

-- The widths: what is written for a field. A kind that is fixed fits its width.

unfoldable pub fits_kind : Kind → ℕ → Bool
fits_kind (kind.Mark byte) w = eqb w 1
fits_kind kind.Version w = true
fits_kind kind.Service w = eqb w 17
fits_kind kind.Blank w = true
fits_kind kind.Text w = true
fits_kind kind.Digits w = true
fits_kind kind.Money w = true
fits_kind kind.Date w = true
fits_kind kind.Barcode w = true
fits_kind kind.Capture w = true
fits_kind kind.Form w = true

pub written_length : (k : Kind) (w : ℕ) (piece : List ℕ) (n : ℕ) → fits_kind k w ≡ true → length piece ≡ (given_of k w).to - (given_of k w).from
    → length (written_of k w piece n) ≡ w
unfolding fits_kind
written_length (kind.Mark byte) w piece n t e = sym (eqb-true w 1 t)
written_length kind.Version w piece n t e = e ∙ omega arith
written_length kind.Service w piece n t e = sym (eqb-true w 17 t)
written_length kind.Blank w piece n t e = length-replicate w 32
written_length kind.Text w piece n t e = e ∙ omega arith
written_length kind.Digits w piece n t e = e ∙ omega arith
written_length kind.Money w piece n t e = (digits_fill w n).0
written_length kind.Date w piece n t e = e ∙ omega arith
written_length kind.Barcode w piece n t e = e ∙ omega arith
written_length kind.Capture w piece n t e = e ∙ omega arith
written_length kind.Form w piece n t e = e ∙ omega arith

abbrev pub fits_field : Field → Bool
fits_field f = fits_kind f.kind (width_of (stretch_of f))

pub layout_fits : (r : Record) → (every fits_field (layout_of r) ≡ true) × (length (layout_of r) ≤ 28)
unfolding layout_of fits_kind
layout_fits Header = (refl, omega arith)
layout_fits Payment = (refl, omega arith)
layout_fits Trailer = (refl, omega arith)

-- what is given of a field lies in it
pub given_in : (k : Kind) (w : ℕ) → fits_kind k w ≡ true → (given_of k w).to ≤ w
unfolding fits_kind
given_in (kind.Mark byte) w t = omega arith
given_in kind.Version w t = omega arith
given_in kind.Service w t = omega (arith, eqb-true w 17 t)
given_in kind.Blank w t = omega arith
given_in kind.Text w t = omega arith
given_in kind.Digits w t = omega arith
given_in kind.Money w t = omega arith
given_in kind.Date w t = omega arith
given_in kind.Barcode w t = omega arith
given_in kind.Capture w t = omega arith
given_in kind.Form w t = omega arith

-- The part of a field that is given, as the code has it.
module _ {f : Field} (l : InRecord f) {g : Given} (e : g ≡ given_of f.kind (f.last - (f.first - 1))) where
  pub part_order : g.from ≤ g.to
  part_order = rw e (given_order f.kind (width_of (stretch_of f)))

  pub part_width : g.to - g.from ≡ given_width f
  part_width = rw e (given_width_is f l.start)
