-- An accepted Z that shows the writer's own figures is the Z that it writes. Assumes nothing.
use Rattle.std.specs.Prelude.{Some}
use Prim.Native.Nat.{ℕ, ◌+◌}
use mathlib.Core.Bool.{true}
use mathlib.Core.List.{List, [], ◌∷◌}
use mathlib.Core.Path.{◌≡◌, refl, sym, ap, ◌∙◌}
use native.Mathlib.Omega.{arith}
use lib.Dec.{lit<}
use lib.ListN.{length, get_or}
use Rattle.answer.specs.Answers.{Accepted}
use Rattle.decimal.specs.declared.Class.TheVariants.{Digit}
use Rattle.decimal.specs.Bytes.{is_of, all}
use Rattle.decimal.specs.Numbers.{number_of, digits_of}
use Rattle.decimal.proofs.Numbers.{digits_of_number, number_fits}
use Rattle.layout.specs.declared.Record.TheVariants.{Trailer}
use Rattle.layout.specs.Layouts.{record_length, named_by, no_field, layout_of, given_length, joined_of, row_at, table, count_row, total_row}
use Rattle.layout.proofs.Layouts.{row_lies}
use Rattle.kinds.specs.Terms.{Terms, version_answer}
use Rattle.record.specs.Records.{field_bytes, layout_answer, record_answer, is_payment}
use Rattle.record.specs.Values.{trailer_shown}
use Rattle.record.proofs.FieldBytes.{part_length}
use Rattle.record.proofs.KindRules.{digits}
use Rattle.record.proofs.Shown.{layout_accepts, other_ignores, check_passes}
use Rattle.fields.specs.Promises.{amounts_in}
use Rattle.fields.specs.Making.{made_of, making_answer, make_answer}
use Rattle.file.specs.Files.{figures_of, closing_answer}
use Rattle.file.specs.Forms.{length_of}
use Rattle.file.proofs.Files.{closing_accepts}
use Rattle.writer.specs.declared.Writer.{Writer}
use Rattle.writer.specs.Writers.{writer_terms, writer_expects, call_answer, count_bytes}
use Rattle.writer.specs.Promises.{FieldsWriteTheTrailer}
use Rattle.writer.proofs.Amounts.{count_back}
use Rattle.writer.proofs.Buffers.{open_fits}
use Rattle.writer.proofs.Written.{body, made, call_accepted, makes, joined_length}

-- its count has six digits, its total 17
module _ (rec : List ℕ) (n : length rec ≡ record_length) where
  count_width : length (field_bytes (row_at count_row) rec) ≡ 6
  unfolding row_at table layout_of
  count_width = part_length (row_at count_row) rec (row_lies count_row no_field (lit< tt)) n

  total_width : length (field_bytes (row_at total_row) rec) ≡ 17
  unfolding row_at table layout_of
  total_width = part_length (row_at total_row) rec (row_lies total_row no_field (lit< tt)) n

count_digits : (t : Terms) (rec : List ℕ) → layout_answer t Trailer rec ≡ Accepted → all (is_of Digit) (field_bytes (row_at count_row) rec) ≡ true
unfolding row_at table layout_of
count_digits t rec e = (digits t (field_bytes (row_at count_row) rec)).0 ((layout_accepts t Trailer rec).0 e).1.0

-- one amount; behind it the writer gives a 0 that no field takes
one_amount : (t : Terms) (rec given : List ℕ)
    → (making_answer t (layout_of Trailer) given (amounts_in (layout_of Trailer) rec) ≡ making_answer t (layout_of Trailer) given ((trailer_shown rec).total ∷ 0 ∷ []))
    × (made_of (layout_of Trailer) given (amounts_in (layout_of Trailer) rec) ≡ made_of (layout_of Trailer) given ((trailer_shown rec).total ∷ 0 ∷ []))
unfolding layout_of row_at table
one_amount t rec given = (refl, refl)

module _ (w : Writer) (t : Terms) (rec : List ℕ) (accepts : record_answer t rec ≡ Accepted) (named : named_by (get_or rec 0 0) ≡ Some Trailer) where
  abbrev amounts : List ℕ
  amounts = (trailer_shown rec).total ∷ 0 ∷ []

  right : (length rec ≡ record_length) × (version_answer t.version Trailer ≡ Accepted) × (layout_answer t Trailer rec ≡ Accepted)
  right = body w t Trailer rec amounts accepts named

  count_is : (trailer_shown rec).count ≡ w.file.taken + 2 → count_bytes w ≡ joined_of Trailer rec
  unfolding given_length layout_of
  count_is c =
      let bs = field_bytes (row_at count_row) rec in
      ap (digits_of 6) (sym c) ∙ ap (λ (k : ℕ). digits_of k (number_of bs)) (sym (count_width rec right.0)) ∙ digits_of_number bs (count_digits t rec right.2) ∙ sym (count_back rec)

  closes : (trailer_shown rec).count ≡ w.file.taken + 2 → (trailer_shown rec).total ≡ w.file.total → closing_answer w.file ≡ Accepted
  closes c d =
      let few = number_fits (field_bytes (row_at count_row) rec) in
      let small = number_fits (field_bytes (row_at total_row) rec) in
      let few6 = rw (count_width rec right.0) at few in
      let small17 = rw (total_width rec right.0) at small in
      (closing_accepts w.file).1 (record { taken = omega (arith, few6, c); total = omega (arith, small17, d) })

pub fields_write_the_trailer : FieldsWriteTheTrailer
fields_write_the_trailer any w rec accepted named opened c d =
    let t = writer_terms [] w in
    let accepts = other_ignores t any rec (ap is_payment named) ∙ check_passes any rec accepted in
    let amounts = (trailer_shown rec).total ∷ 0 ∷ [] in
    let given = joined_of Trailer rec in
    let n = (right w t rec accepts named).0 in
    let both = made w t Trailer rec amounts accepts named in
    let same = one_amount t rec given in
    let size = length_of w.file.lined in
    let expected : writer_expects w.stage Trailer ≡ true = rw opened in
    let call : call_answer w Trailer (given_length Trailer) size ≡ Accepted =
    ap (λ (k : ℕ). call_answer w Trailer k size) (sym (joined_length Trailer rec n))
    ∙ call_accepted w t Trailer rec amounts accepts named size (open_fits w opened) expected in
    let count = count_is w t rec accepts named c in
    let make : make_answer t Trailer (count_bytes w) ((figures_of w.file).total ∷ 0 ∷ []) record_length ≡ Accepted =
    rw (count, ← d) (makes w t Trailer rec amounts accepts named (sym same.0 ∙ both.0)) in
    let close = closes w t rec accepts named c d in
    (rw (call, close, make), rw (count, ← d) (sym same.1 ∙ both.1))
