-- Laws of field bytes that are joined row by row. Assumes nothing.
use Prim.Native.Nat.{ℕ, ◌+◌, ◌-◌, ◌≤◌, ◌<◌}
use mathlib.Core.Bool.{true, and-eq-true_iff}
use mathlib.Core.List.{List, [], ◌∷◌, ◌++◌, map, append_assoc, append-nil}
use mathlib.Core.Path.{◌≡◌, refl, sym, ap, ◌∙◌}
use native.Mathlib.Nat.{add_assoc}
use native.Mathlib.Numerals.{add-one}
use native.Mathlib.Omega.{arith}
use lib.ListN.{length, get_or, take, drop, drop_of_length-le, length-append, length-drop}
use lib.Seq.{drop-cons, take_all, length-take-le, take_at, drop-drop}
use Rattle.decimal.specs.Places.{width_of, part_at, gather}
use Rattle.layout.specs.declared.Field.{Field}
use Rattle.layout.specs.declared.Kind.TheVariants as kind
use Rattle.layout.specs.declared.Record.{Record}
use Rattle.layout.specs.Layouts.{record_length, row, layout_of, stretch_of, given_at, given_length, widths_of, joined_of, InRecord}
use Rattle.layout.proofs.Tables.{every}
use Rattle.fields.specs.Making.{given_width}
use Rattle.fields.proofs.Parts.{fits_field, layout_fits, given_in, part_length}

-- What is known before a row: the bytes joined so far and those to come.
pub record Joining (rows : List Field) (rec out : List ℕ) (at : ℕ) (size : ℕ) (whole : List ℕ) : Type 0 where
  pub same : length out ≡ size
  pub fits : every fits_field rows ≡ true
  pub left : at + widths_of (map given_at rows) ≡ length out
  pub bytes : take at out ++ gather (map given_at rows) rec ≡ whole

pub begin : (r : Record) {rows : List Field} (rec out : List ℕ) → rows ≡ layout_of r → length out ≡ given_length r
    → Joining rows rec out 0 (length out) (joined_of r rec)
unfolding given_length
begin r rec out e n = rw e (record { same = refl; fits = (layout_fits r).0; left = omega (arith, n); bytes = refl })

joined : {rec out : List ℕ} {at size : ℕ} {whole : List ℕ} → Joining [] rec out at size whole → out ≡ whole
joined {out = out} {at = at} m =
    let t : take at out ≡ out = take_all at out (omega (arith, m.left)) in
    sym t ∙ sym (append-nil (take at out)) ∙ m.bytes

length_rest : (out : List ℕ) (at w k : ℕ) → k ≡ at + w → k ≤ length out → length (drop (k - at) (drop at out)) + k ≡ length out
length_rest out at w k e h =
    let n : at + (k - at) ≡ k = omega arith in
    let d : drop (k - at) (drop at out) ≡ drop k out = drop-drop (k - at) at out ∙ ap (λ (n : ℕ). drop n out) n in
    rw (d, length-drop k out) (omega arith)

-- bytes put behind the first of a list, with its rest
after : (out ys : List ℕ) (at w k : ℕ) → length ys ≡ w → k ≡ at + w → k ≤ length out
    → (take k (take at out ++ (ys ++ drop (k - at) (drop at out))) ≡ take at out ++ ys) × (length (take at out ++ (ys ++ drop (k - at) (drop at out))) ≡ length out)
after out ys at w k ly ek h =
    let lt : length (take at out) ≡ at = length-take-le at out (omega arith) in
    let la : length (take at out ++ ys) ≡ k = length-append (take at out) ys ∙ omega arith in
    let rest = drop (k - at) (drop at out) in
    let d : k - at ≡ w = omega arith in
    let lr : length rest + k ≡ length out = length_rest out at w k ek h in (
      rw (← append_assoc (take at out) ys rest) (take_at (take at out ++ ys) rest k la),
      length-append (take at out) (ys ++ rest) ∙ omega (arith, length-append ys rest, lr),
    )

module _ {f : Field} {fs : List Field} {rec out : List ℕ} {at size : ℕ} {whole : List ℕ} (m : Joining (f ∷ fs) rec out at size whole) where
  fit : (fits_field f ≡ true) × (every fits_field fs ≡ true)
  fit = (and-eq-true_iff (fits_field f) (every fits_field fs)).0 m.fits

  in_out : at + given_width f ≤ length out
  in_out = omega (arith, m.left)

  pub in_field : InRecord f → (given_at f).last ≤ f.last
  in_field l = omega (arith, given_in f.kind (width_of (stretch_of f)) fit.0, l.start, l.order)

  pub on : {k : ℕ} {ys : List ℕ} → InRecord f → length rec ≡ record_length → k ≡ at + given_width f → ys ≡ part_at (given_at f) rec
      → Joining fs rec (take at out ++ (ys ++ drop (k - at) (drop at out))) k size whole
  on {k} {ys} l n ek ey =
      let ly : length ys ≡ given_width f = ap length ey ∙ part_length rec l n (in_field l) in
      let p = after out ys at (given_width f) k ly ek (rw ek in_out) in
      record {
        same = p.1 ∙ m.same;
        fits = fit.1;
        left = ap (λ (v : ℕ). v + widths_of (map given_at fs)) ek ∙ add_assoc at (given_width f) (widths_of (map given_at fs)) ∙ m.left ∙ sym p.1;
        bytes = rw (p.0, ey) (append_assoc (take at out) (part_at (given_at f) rec) (gather (map given_at fs) rec) ∙ m.bytes);
      }

pub at_row : (rows : List Field) (k : ℕ) {rec out : List ℕ} {at size : ℕ} {whole : List ℕ}
    → k < length rows → Joining (drop k rows) rec out at size whole
    → Joining (get_or rows k (row 0 0 (kind.Mark 0)) ∷ drop (k + 1) rows) rec out at size whole
at_row rows k h m = rw add-one (rw (drop-cons rows k (row 0 0 (kind.Mark 0)) h) at m)

pub at_end : (rows : List Field) (k : ℕ) {rec out : List ℕ} {at size : ℕ} {whole : List ℕ} → length rows ≤ k
    → Joining (drop k rows) rec out at size whole → out ≡ whole
at_end rows k h m = joined (rw (drop_of_length-le rows h) at m)
