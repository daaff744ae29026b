-- What the proofs of the exported functions share. Assumes nothing.
use Rattle.std.specs.Prelude.{Err}
use Prim.Native.Nat.{ℕ, ◌+◌, ◌-◌, ◌≤◌}
use mathlib.Core.Bool.{Bool, true, false}
use mathlib.Core.List.{List, []}
use mathlib.Core.Path.{◌≡◌, refl, ap, ◌∙◌}
use native.Mathlib.Omega.{arith}
use borrow.Author.Tests.{ltb-true, ltb-false}
use lib.Dec.{ltb}
use lib.ListN.{length, drop, length-take, get_or-eq_default}
use Rattle.answer.specs.Answers.{Answer, Accepted}
use Rattle.answer.specs.Orders.{if_accepted}
use Rattle.barcode.specs.Codes.{code_length, digit_at, issuer_end, free_of}
use Rattle.barcode.specs.Agreed.{barcode_check}
use Rattle.barcode.specs.Shown.{shown_free}
use Rattle.layout.specs.declared.Field.{Field}
use Rattle.layout.specs.Layouts.{no_field, table, row_at}
use Rattle.layout.proofs.Layouts.{row_lies}
use Rattle.kinds.specs.Terms.{Terms}
use Rattle.record.specs.Values.{shown_field}
use Rattle.hollytrot.specs.declared.CPart.{CPart}
use Rattle.hollytrot.specs.Forms.{c_part_of, free_part, field_part}

-- Parts of the caller's bytes, from the part that was shown.

-- a free field is no longer than a barcode, so its offset is no less than 0
free_few_of : (code : List ℕ) (a : Answer) → length (if_accepted a (free_of code) []) ≤ code_length
free_few_of code Accepted =
    let start = issuer_end (digit_at 2 code) + 1 - 1 in
    omega (arith, length-take (code_length - start) (drop start code))
free_few_of code (Err refusal) = omega arith

pub free_few : (agreed code : List ℕ) {free : List ℕ} → free ≡ shown_free agreed code → length free ≤ code_length
free_few agreed code e = rw e (free_few_of code (barcode_check agreed code))

-- the first place of every row, also past the table, is at least 1
first_in : (row : ℕ) (t : Bool) → ltb row (length table) ≡ t → 1 ≤ (row_at row).first
unfolding row_at
first_in row true h = (row_lies row no_field (ltb-true row (length table) h)).start
first_in row false h = rw (get_or-eq_default table no_field (ltb-false row (length table) h)) (omega arith)

pub row_first : (row : ℕ) {shape : Field} → shape ≡ row_at row → 1 ≤ shape.first
row_first row e = rw e (first_in row (ltb row (length table)) refl)

pub at_free :
    (agreed code : List ℕ) {free : List ℕ} {p : CPart}
    → free ≡ shown_free agreed code → p ≡ c_part_of (code_length - length free) (length free) → p ≡ free_part agreed code
unfolding free_part
at_free agreed code e h = h ∙ ap (λ x. c_part_of (code_length - length x) (length x)) e

pub at_field :
    (t : Terms) (row : ℕ) (rec : List ℕ) {field : List ℕ} {shape : Field} {p : CPart}
    → field ≡ shown_field t row rec → shape ≡ row_at row → p ≡ c_part_of (shape.first - 1) (length field)
    → p ≡ field_part t row rec
unfolding field_part
at_field t row rec {field} e s h =
    h ∙ ap (λ x. c_part_of (x.first - 1) (length field)) s ∙ ap (λ x. c_part_of ((row_at row).first - 1) (length x)) e
