-- Laws of the walk along the rows of a record, a part of the table: a loop at row k. Assumes nothing.
use Rattle.std.specs.Prelude.{None, Option, Some}
use Prim.Native.Nat.{ℕ, ◌+◌, ◌-◌, ◌<◌, ◌≤◌}
use mathlib.Core.Bool.{true, and-eq-true_iff}
use mathlib.Core.List.{List}
use mathlib.Core.Path.{◌≡◌, refl, sym, ◌∙◌, ap}
use native.Mathlib.Numerals.{add-one}
use native.Mathlib.Omega.{arith}
use borrow.Author.Tests.{ltb-true}
use lib.Dec.{lit≤, leb, ltb}
use lib.ListN.{length, get_or, take, drop, drop_of_length-le, length-drop}
use lib.Seq.{drop-cons, length-take-le, get_or-take, get_or-drop}
use Rattle.answer.specs.Answers.{Answer, Accepted, Refused}
use Rattle.answer.specs.declared.Reason.{Reason}
use Rattle.answer.specs.Orders.{◌then◌, first_refusal}
use Rattle.layout.specs.declared.Field.{Field}
use Rattle.layout.specs.declared.Record.{Record}
use Rattle.layout.specs.declared.Record.TheVariants.{Header, Payment, Trailer}
use Rattle.layout.specs.declared.Rows.{Rows}
use Rattle.layout.specs.Layouts.{layout_of, table, no_field, row_at, rows_of, InRecord}
use Rattle.layout.proofs.Layouts.{row_lies, rows_are}
use Rattle.decimal.proofs.Finite.{never}
use Rattle.kinds.specs.Terms.{Terms}
use Rattle.record.specs.Records.{field_answer, layout_answer}
use Rattle.record.specs.Values.{has_row}

-- Any rows: the row accepts, the row refuses, there is no row left.
module _ {A : Type 0} (question : A → Answer) (rows : List A) (d : A) (k : ℕ) where
  rows_cons : k < length rows → first_refusal question (drop k rows) ≡ question (get_or rows k d) then first_refusal question (drop (k + 1) rows)
  rows_cons h = rw (drop-cons rows k d h, add-one)

  pub later : {r : Answer} → k < length rows → question (get_or rows k d) ≡ Accepted → first_refusal question (drop k rows) ≡ r
      → first_refusal question (drop (k + 1) rows) ≡ r
  later h e q = rw (rows_cons h, e) at q

  pub here : {r a : Answer} {why : Reason} {at : ℕ} → k < length rows → a ≡ question (get_or rows k d) → a ≡ Refused why at
      → first_refusal question (drop k rows) ≡ r → a ≡ r
  here {why = why} {at = at} h e f q = let g : question (get_or rows k d) ≡ Refused why at = sym e ∙ f in f ∙ (rw (rows_cons h, g) at q)

pub none : {A : Type 0} (question : A → Answer) (rows : List A) (k : ℕ) {r : Answer} → length rows ≤ k → first_refusal question (drop k rows) ≡ r
    → Accepted ≡ r
none question rows k h q = rw (drop_of_length-le rows h) at q

rows_end : (r : Record) → ((rows_of r).from ≤ (rows_of r).to) × ((rows_of r).to ≤ length table)
unfolding rows_of table layout_of
rows_end Header = (lit≤ tt, lit≤ tt)
rows_end Payment = (lit≤ tt, lit≤ tt)
rows_end Trailer = (lit≤ tt, lit≤ tt)

-- A record's rows in a copy of the table.
module _ (which : Record) {rows : Rows} {copy : List Field} (tb : copy ≡ table) (e : rows ≡ rows_of which) where
  pub in_order : rows.from ≤ rows.to
  in_order = rw e (rows_end which).0

  pub in_table : rows.to ≤ length copy
  in_table = rw (e, tb) (rows_end which).1

  row_placed : (i : ℕ) (d : Field) → i < rows.to → InRecord (get_or copy i d)
  row_placed i d h =
      let l : rows.to ≤ length table = rw e (rows_end which).1 in
      rw tb (row_lies i d (omega arith))

  abbrev part : List Field
  part = take (rows.to - rows.from) (drop rows.from copy)

  pub rows_here : part ≡ layout_of which
  rows_here = rw (tb, e) (rows_are which)

  pub part_placed : (k : ℕ) (d : Field) → k < length part → InRecord (get_or part k d)
  part_placed k d h =
      let size : length part ≡ rows.to - rows.from = length-take-le (rows.to - rows.from) (drop rows.from copy) (omega (arith, length-drop rows.from copy, in_table)) in
      let within : k < rows.to - rows.from = omega arith in
      rw (get_or-take (rows.to - rows.from) (drop rows.from copy) k d within, get_or-drop) (row_placed (rows.from + k) d (omega arith))

  pub walked : (t : Terms) (rec : List ℕ) → first_refusal (field_answer t rec) part ≡ layout_answer t which rec
  walked t rec = ap (first_refusal (field_answer t rec)) rows_here

row_shown : (which : Record) {rows : Rows} {f : Field} (i : ℕ) → rows ≡ rows_of which → f ≡ row_at i → i < rows.to → InRecord f
unfolding row_at
row_shown which i e q h = rw q (row_placed which refl e i no_field h)

pub row_of_named : (n : Option Record) {f : Field} (i : ℕ) → has_row n i ≡ true → f ≡ row_at i → InRecord f
row_of_named (Some r) i h q =
    row_shown r i refl q (ltb-true i (rows_of r).to ((and-eq-true_iff (leb (rows_of r).from i) (ltb i (rows_of r).to)).0 h).1)
row_of_named None i h q = never h
