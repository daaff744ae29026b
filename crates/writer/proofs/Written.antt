-- What the writer wrote is an accepted record with the field bytes it was given. Assumes nothing.
use Rattle.std.specs.Prelude.{Some}
use Prim.Native.Nat.{ℕ, ◌+◌, ◌-◌}
use mathlib.Core.Bool.{Bool, true, ◌&&◌, and-eq-true_iff}
use mathlib.Core.List.{List, [], ◌∷◌}
use mathlib.Core.Path.{◌≡◌, refl, sym, ap, ◌∙◌}
use native.Mathlib.Omega.{arith}
use borrow.Author.Tests.{eqb-true, leb-true, eq-eqb}
use lib.Dec.{eqb, leb}
use lib.ListN.{length, get_or, drop, length-append, length-drop}
use lib.Seq.{length-take-le}
use Rattle.answer.specs.declared.Reason.TheVariants.{WrongLength}
use Rattle.answer.specs.Answers.{Accepted}
use Rattle.answer.specs.Orders.{require, ◌then◌}
use Rattle.answer.proofs.Orders.{require_accepts, then_accepts}
use Rattle.decimal.specs.Places.{Stretch, width_of, part_at, gather}
use Rattle.layout.specs.declared.Record.{Record}
use Rattle.layout.specs.declared.Record.TheVariants.{Header, Payment, Trailer}
use Rattle.layout.specs.Layouts.{record_length, mark_of, named_by, layout_of, plan_of, widths_of, given_length, joined_of, row_at, table}
use Rattle.layout.proofs.Layouts.{mark_names}
use Rattle.barcode.specs.Agreed.{list_answer}
use Rattle.kinds.specs.Terms.{Terms, version_answer}
use Rattle.record.specs.Records.{layout_answer, record_answer, is_payment}
use Rattle.record.specs.Values.{payment_shown}
use Rattle.fields.specs.Promises.{amounts_in}
use Rattle.fields.specs.Making.{made_of, making_answer, make_answer, make_check}
use Rattle.record.proofs.Shown.{accepted_named, named_is, other_ignores, check_passes}
use Rattle.fields.proofs.Trips.{fields_make_the_record, made_is_accepted}
use Rattle.file.specs.Forms.{length_of}
use Rattle.writer.specs.declared.Writer.{Writer}
use Rattle.writer.specs.Writers.{writer_terms, writer_expects, fits_buffer, call_answer, header_answer, header_bytes}
use Rattle.writer.specs.Promises.{WrittenIsAccepted, FieldsWriteTheHeader, FieldsWriteThePayment, PaymentsWrittenUnderAVersion}
use Rattle.writer.proofs.Buffers.{form_of_length, either_fits, open_fits}

pub first_byte : (r : Record) (given amounts : List ℕ) → get_or (made_of (layout_of r) given amounts) 0 0 ≡ mark_of r
unfolding layout_of
first_byte Header given amounts = refl
first_byte Payment given amounts = refl
first_byte Trailer given amounts = refl

-- a record of 150 bytes that its own first byte names
accepted : (t : Terms) (r : Record) (rec : List ℕ) → length rec ≡ record_length → get_or rec 0 0 ≡ mark_of r → version_answer t.version r ≡ Accepted
    → layout_answer t r rec ≡ Accepted → record_answer t rec ≡ Accepted
accepted t r rec n m v b =
    named_is t r rec n (ap named_by m ∙ (mark_names r).0) ∙ (then_accepts (version_answer t.version r) (layout_answer t r rec)).1 (v, b)

-- an accepted making: as many field bytes as the record takes, its terms, and every field accepted
pub making_is : (t : Terms) (r : Record) (given amounts : List ℕ) (size : ℕ) → make_answer t r given amounts size ≡ Accepted
    → (length given ≡ given_length r) × (version_answer t.version r ≡ Accepted) × (making_answer t (layout_of r) given amounts ≡ Accepted)
unfolding make_answer
making_is t r given amounts size e =
    let lengths = eqb size record_length && eqb (length given) (given_length r) in
    let making = making_answer t (layout_of r) given amounts in
    let both = (then_accepts (require lengths WrongLength 0) (version_answer t.version r then making)).0 e in
    let right = (require_accepts lengths WrongLength 0).0 both.0 in
    let rest = (then_accepts (version_answer t.version r) making).0 both.1 in
    (eqb-true (length given) (given_length r) ((and-eq-true_iff (eqb size record_length) (eqb (length given) (given_length r))).0 right).1, rest.0, rest.1)

pub written_alone : (t : Terms) (r : Record) (given amounts : List ℕ) (size : ℕ) → make_answer t r given amounts size ≡ Accepted
    → (record_answer t (made_of (layout_of r) given amounts) ≡ Accepted) × (joined_of r (made_of (layout_of r) given amounts) ≡ given)
written_alone t r given amounts size e =
    let making = making_is t r given amounts size e in
    let made = made_is_accepted t r given amounts making.0 making.2 in
    (accepted t r (made_of (layout_of r) given amounts) made.0 (first_byte r given amounts) making.1 made.1, made.2)

pub make_passes : (t : Terms) (r : Record) (given amounts : List ℕ) (size : ℕ) → make_check t r given amounts size ≡ Accepted
    → (list_answer t.agreed ≡ Accepted) × (make_answer t r given amounts size ≡ Accepted)
make_passes t r given amounts size e = (then_accepts (list_answer t.agreed) (make_answer t r given amounts size)).0 e

pub written_is_accepted : WrittenIsAccepted
written_is_accepted t r given amounts size e =
    let told = make_passes t r given amounts size e in
    let alone = written_alone t r given amounts size told.1 in
    (rw told.0 alone.0, alone.1)

-- The field bytes of a record are as many as the writer is given.

abbrev inside : ℕ → List Stretch → Bool
inside n [] = true
inside n (s ∷ plan) = leb (s.first - 1 + width_of s) n && inside n plan

gathered_length : (plan : List Stretch) (l : List ℕ) → inside (length l) plan ≡ true → length (gather plan l) ≡ widths_of plan
gathered_length [] l t = refl
gathered_length (s ∷ plan) l t =
    let both = (and-eq-true_iff (leb (s.first - 1 + width_of s) (length l)) (inside (length l) plan)).0 t in
    let in-it = leb-true (s.first - 1 + width_of s) (length l) both.0 in
    let part : length (part_at s l) ≡ width_of s = length-take-le (width_of s) (drop (s.first - 1) l) (omega (arith, length-drop (s.first - 1) l)) in
    length-append (part_at s l) (gather plan l) ∙ rw (part, gathered_length plan l both.1)

lies_inside : (r : Record) → inside record_length (plan_of r) ≡ true
unfolding layout_of
lies_inside Header = refl
lies_inside Payment = refl
lies_inside Trailer = refl

pub joined_length : (r : Record) (rec : List ℕ) → length rec ≡ record_length → length (joined_of r rec) ≡ given_length r
unfolding given_length
joined_length r rec n = gathered_length (plan_of r) rec (rw n (lies_inside r))

-- The fields of an accepted record, with any amounts that make it as its own do.
module _ (w : Writer) (t : Terms) (r : Record) (rec amounts : List ℕ) (accepts : record_answer t rec ≡ Accepted) (named : named_by (get_or rec 0 0) ≡ Some r) where
  pub body : (length rec ≡ record_length) × (version_answer t.version r ≡ Accepted) × (layout_answer t r rec ≡ Accepted)
  body = accepted_named t r rec accepts named

  pub made : (making_answer t (layout_of r) (joined_of r rec) (amounts_in (layout_of r) rec) ≡ Accepted)
      × (made_of (layout_of r) (joined_of r rec) (amounts_in (layout_of r) rec) ≡ rec)
  made = fields_make_the_record t r rec body.0 body.2

  given_right : eqb (length (joined_of r rec)) (given_length r) ≡ true
  given_right = eq-eqb (length (joined_of r rec)) (given_length r) (joined_length r rec body.0)

  pub call_accepted : (size : ℕ) → fits_buffer w.stage w.file.lined size ≡ true → writer_expects w.stage r ≡ true
      → call_answer w r (length (joined_of r rec)) size ≡ Accepted
  call_accepted size fits expected = rw (fits, given_right, expected)

  pub makes : making_answer t (layout_of r) (joined_of r rec) amounts ≡ Accepted → make_answer t r (joined_of r rec) amounts record_length ≡ Accepted
  unfolding make_answer
  makes a = rw (given_right, body.1, a)

-- A has no amounts; those of G are what it received and its tariff.
header_amounts : (t : Terms) (rec : List ℕ)
    → (making_answer t (layout_of Header) (joined_of Header rec) (amounts_in (layout_of Header) rec) ≡ making_answer t (layout_of Header) (joined_of Header rec) (0 ∷ 0 ∷ []))
    × (made_of (layout_of Header) (joined_of Header rec) (amounts_in (layout_of Header) rec) ≡ made_of (layout_of Header) (joined_of Header rec) (0 ∷ 0 ∷ []))
unfolding layout_of
header_amounts t rec = (refl, refl)

payment_amounts : (agreed rec : List ℕ) → amounts_in (layout_of Payment) rec ≡ (payment_shown agreed rec).received ∷ (payment_shown agreed rec).tariff ∷ []
unfolding layout_of row_at table
payment_amounts agreed rec = refl

pub fields_write_the_header : FieldsWriteTheHeader
fields_write_the_header any w lined rec accepted named fresh =
    let t = writer_terms [] w in
    let size = length_of lined in
    let accepts = other_ignores t any rec (ap is_payment named) ∙ check_passes any rec accepted in
    let both = made w t Header rec (0 ∷ 0 ∷ []) accepts named in
    let same = header_amounts t rec in
    let bytes : header_bytes (joined_of Header rec) ≡ rec = sym same.1 ∙ both.1 in
    let expected : writer_expects w.stage Header ≡ true = rw fresh in
    let fits : fits_buffer w.stage w.file.lined size ≡ true = rw fresh (either_fits w.file.lined lined) in
    let call = call_accepted w t Header rec (0 ∷ 0 ∷ []) accepts named size fits expected in
    let make = makes w t Header rec (0 ∷ 0 ∷ []) accepts named (sym same.0 ∙ both.0) in
    let written : header_answer w (joined_of Header rec) size ≡ Accepted = rw (call, make) in
    (written, bytes, rw (written, bytes, form_of_length lined))

pub payments_written_under_a_version : PaymentsWrittenUnderAVersion
unfolding make_answer version_answer
payments_written_under_a_version agreed w given received tariff right opened n none =
    rw (right, open_fits w opened, opened, n, eq-eqb (given_length Payment) (given_length Payment) refl, none)

pub fields_write_the_payment : FieldsWriteThePayment
fields_write_the_payment agreed w rec accepted named opened limits =
    let t = writer_terms agreed w in
    let accepts = check_passes t rec accepted in
    let list = ((then_accepts (list_answer agreed) (record_answer t rec)).0 accepted).0 in
    let size = length_of w.file.lined in
    let amounts = (payment_shown agreed rec).received ∷ (payment_shown agreed rec).tariff ∷ [] in
    let given = joined_of Payment rec in
    let both = made w t Payment rec amounts accepts named in
    let same = payment_amounts agreed rec in
    let expected : writer_expects w.stage Payment ≡ true = rw opened in
    let call = call_accepted w t Payment rec amounts accepts named size (open_fits w opened) expected in
    let making : making_answer t (layout_of Payment) given amounts ≡ Accepted = rw same at both.0 in
    let make = makes w t Payment rec amounts accepts named making in
    (rw (list, call, make, limits), ap (made_of (layout_of Payment) given) (sym same) ∙ both.1)
