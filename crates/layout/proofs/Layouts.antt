-- The fields of a record cover its places 1 to 150 once each; so a record is its fields, joined. Assumes nothing.
use Prim.Native.Nat.{ℕ, ◌+◌, ◌-◌, ◌≤◌, ◌<◌}
use mathlib.Core.Bool.{Bool, true, ◌&&◌, and-eq-true_iff}
use mathlib.Core.List.{List, [], ◌∷◌, map}
use mathlib.Core.Path.{◌≡◌, refl, sym}
use native.Mathlib.Omega.{arith}
use borrow.Author.Tests.{leb-true, eqb-true}
use lib.Dec.{leb, eqb}
use lib.ListN.{length, get_or, take, drop, drop_of_length-le, take-append-drop}
use lib.Seq.{drop-drop}
use Rattle.decimal.specs.Places.{gather}
use Rattle.layout.specs.declared.Field.{Field}
use Rattle.layout.specs.declared.Record.{Record}
use Rattle.layout.specs.declared.Record.TheVariants.{Header, Payment, Trailer}
use Rattle.layout.specs.Layouts.{record_length, named_by, InRecord, layout_of, table, rows_of, stretch_of, given_length, covers, FieldsCover, RecordIsItsFields, MarkNames, GivenLengths}
use Rattle.layout.proofs.Tables.{each}

pub fields_cover : FieldsCover
unfolding layout_of
fields_cover Header = refl
fields_cover Payment = refl
fields_cover Trailer = refl

pub mark_names : MarkNames
unfolding named_by layout_of
mark_names Header = (refl, refl)
mark_names Payment = (refl, refl)
mark_names Trailer = (refl, refl)

pub given_lengths : GivenLengths
unfolding given_length layout_of
given_lengths = (refl, refl)

-- the fields that are left, from a place on
pub record Next (place : ℕ) (f : Field) (fs : List Field) : Type 0 where
  pub here : f.first ≡ place
  pub wide : place ≤ f.last
  pub rest : covers (f.last + 1) fs ≡ true

pub next : (place : ℕ) (f : Field) (fs : List Field) → covers place (f ∷ fs) ≡ true → Next place f fs
next place f fs t =
    let a = (and-eq-true_iff (eqb f.first place) (leb place f.last && covers (f.last + 1) fs)).0 t in
    let b = (and-eq-true_iff (leb place f.last) (covers (f.last + 1) fs)).0 a.1 in
    record { here = eqb-true f.first place a.0; wide = leb-true place f.last b.0; rest = b.1 }

pub covers_end : (fs : List Field) (place : ℕ) → covers place fs ≡ true → place ≤ record_length + 1
covers_end [] place t = omega (arith, eqb-true place (record_length + 1) t)
covers_end (f ∷ fs) place t = let n = next place f fs t in omega (arith, covers_end fs (f.last + 1) n.rest, n.wide)

lies : Field → Bool
lies f = leb 1 f.first && (leb f.first f.last && leb f.last record_length)

pub row_lies : (i : ℕ) (d : Field) → i < length table → InRecord (get_or table i d)
unfolding table layout_of lies
row_lies i d h =
    let f = get_or table i d in
    let a = (and-eq-true_iff (leb 1 f.first) (leb f.first f.last && leb f.last record_length)).0 (each lies table i d refl h) in
    let b = (and-eq-true_iff (leb f.first f.last) (leb f.last record_length)).0 a.1 in
    record {
      start = leb-true 1 f.first a.0;
      order = leb-true f.first f.last b.0;
      end = leb-true f.last record_length b.1;
    }

-- what the fields from a place on hold, joined, is the record from that place on
joined_from : (fs : List Field) (place : ℕ) (rec : List ℕ) → 1 ≤ place → length rec ≡ record_length
    → covers place fs ≡ true
    → gather (map stretch_of fs) rec ≡ drop (place - 1) rec
joined_from [] place rec h k t =
    let l : length rec ≤ place - 1 = omega (arith, eqb-true place (record_length + 1) t) in
    sym (drop_of_length-le rec l)
joined_from (f ∷ fs) place rec h k t =
    let n = next place f fs t in
    let w = f.last - (place - 1) in
    let e : f.last + 1 - 1 ≡ (place - 1) + w = omega (arith, n.wide) in
    let ih : gather (map stretch_of fs) rec ≡ drop (f.last + 1 - 1) rec = joined_from fs (f.last + 1) rec (omega arith) k n.rest in
    rw (n.here, ih, e, ← drop-drop w (place - 1) rec) (take-append-drop w (drop (place - 1) rec))

pub record_is_its_fields : RecordIsItsFields
record_is_its_fields r rec k = joined_from (layout_of r) 1 rec (omega arith) k (fields_cover r)

-- the rows of each record in the table
pub rows_are : (r : Record) → take ((rows_of r).to - (rows_of r).from) (drop (rows_of r).from table) ≡ layout_of r
unfolding rows_of table layout_of
rows_are Header = refl
rows_are Payment = refl
rows_are Trailer = refl
