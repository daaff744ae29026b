-- Nothing is lost in crossing. Assumes nothing.
use Rattle.std.specs.Prelude.{Err, None, Option, Some}
use Rattle.layout.specs.declared.Record.{Record}
use Prim.Native.Nat.{ℕ, zero, suc, ◌+◌, ◌-◌, ◌≤◌}
use mathlib.Core.Bool.{Bool, true, false, cond, ◌&&◌}
use mathlib.Core.List.{List, [], ◌∷◌}
use mathlib.Core.Path.{◌≡◌, refl, ap, sym}
use native.Mathlib.Omega.{arith}
use borrow.Author.Tests.{ne_eqb}
use lib.Dec.{eqb, leb, ltb}
use lib.ListN.{length, get_or, take, drop, length-drop}
use lib.Seq.{length-take-le}
use Rattle.answer.specs.Answers.{Answer, Accepted}
use Rattle.answer.specs.Orders.{if_accepted}
use Rattle.answer.proofs.Refusals.{numbers_differ, zero_is_accepted}
use Rattle.answer.proofs.Orders.{refusal_keeps}
use Rattle.barcode.specs.Codes.{code_length, digit_at, issuer_end, free_of}
use Rattle.barcode.specs.Agreed.{barcode_check}
use Rattle.barcode.specs.Shown.{shown_free}
use Rattle.barcode.proofs.RoundTrips.{check_tells}
use Rattle.barcode.proofs.Codes.{accepted_length}
use Rattle.layout.specs.Layouts.{row_at, rows_of, named_by}
use Rattle.record.specs.Records.{record_check, field_bytes}
use Rattle.record.specs.Values.{field_in, shown_field}
use Rattle.writer.specs.declared.Stage.{Stage}
use Rattle.writer.specs.declared.Stage.TheVariants as stage
use Rattle.hollytrot.specs.Forms as forms
use Rattle.hollytrot.specs.Forms.{bytes_in, stage_of, stage_number, c_writer_of, free_part, field_part}
use Rattle.hollytrot.specs.Promises.{AnswersStayApart, WriterComesBack, RefusalKeepsCWriter, FreePartIsShown, FieldPartIsShown}

-- Answers and writers.

pub answers_stay_apart : AnswersStayApart
answers_stay_apart Accepted b e = sym ((zero_is_accepted b).0 (sym (ap (λ s. s.number) e)))
answers_stay_apart (Err refusal) Accepted e = (zero_is_accepted (Err refusal)).0 (ap (λ s. s.number) e)
answers_stay_apart (Err refusal) (Err other) e =
    let same = numbers_differ refusal.why other.why (ap (λ s. s.number) e) in
    let here = ap (λ s. s.place) e in
    rw (same, here)

stage_back : (s : Stage) → stage_of (stage_number s) ≡ s
unfolding stage_of
stage_back stage.Fresh = refl
stage_back stage.Open = refl
stage_back stage.Closed = refl

pub writer_comes_back : WriterComesBack
writer_comes_back w = rw (stage_back w.stage)

pub refusal_keeps_c_writer : RefusalKeepsCWriter
refusal_keeps_c_writer p w h = refusal_keeps w.answer (c_writer_of w.writer) p h

-- Parts. A nonempty part has its own offset; the empty one may have any.

part_law :
    (from : ℕ) (l x : List ℕ) → take (length x) (drop from l) ≡ x → bytes_in (forms.c_part_of from (length x)) l ≡ x
part_law from l [] h = refl
part_law from l (b ∷ x) h =
    let some : eqb (length (b ∷ x)) 0 ≡ false = ne_eqb (length (b ∷ x)) 0 (λ e. omega (arith, e)) in
    rw some h

taken : (k : ℕ) (l : List ℕ) → take (length (take k l)) l ≡ take k l
taken zero l = refl
taken (suc k) [] = refl
taken (suc k) (b ∷ l) = ap (λ x. b ∷ x) (taken k l)

-- the free field, from an index on, runs to the barcode's end
module _ (e : ℕ) (code : List ℕ) (within : e ≤ code_length) (n : length code ≡ code_length) where
  abbrev free : List ℕ
  free = take (code_length - e) (drop e code)

  free_law : take (length free) (drop (code_length - length free) code) ≡ free
  free_law =
      let all : code_length - e ≤ length (drop e code) = omega (arith, length-drop e code) in
      let long : length free ≡ code_length - e = length-take-le (code_length - e) (drop e code) all in
      let back : code_length - (code_length - e) ≡ e = omega arith in
      rw (long, back)

end_within : (t : Bool) → cond t 23 19 + 1 - 1 ≤ code_length
end_within true = omega arith
end_within false = omega arith

module _ (agreed code : List ℕ) where
  abbrev free_if : Answer → List ℕ
  free_if a = if_accepted a (free_of code) []

  free_shown :
      (a : Answer) → barcode_check agreed code ≡ a
      → take (length (free_if a)) (drop (code_length - length (free_if a)) code) ≡ free_if a
  free_shown Accepted h =
      let within = end_within (eqb (digit_at 2 code) 6) in
      free_law (issuer_end (digit_at 2 code) + 1 - 1) code within (accepted_length code (check_tells agreed code h).1)
  free_shown (Err refusal) h = refl

pub free_part_is_shown : FreePartIsShown
unfolding free_part
free_part_is_shown agreed code =
    part_law (code_length - length (shown_free agreed code)) code (shown_free agreed code) (free_shown agreed code (barcode_check agreed code) refl)

module _ (row : ℕ) (rec : List ℕ) where
  abbrev start : ℕ
  start = (row_at row).first - 1

  field_where :
      (t : Bool) → let x = cond t (field_bytes (row_at row) rec) [] in take (length x) (drop start rec) ≡ x
  field_where true = taken ((row_at row).last - start) (drop start rec)
  field_where false = refl

  field_shown :
      (a : Answer) (n : Option Record)
      → let x = if_accepted a (field_in n row rec) [] in take (length x) (drop start rec) ≡ x
  field_shown (Err refusal) n = refl
  field_shown Accepted None = refl
  field_shown Accepted (Some r) = field_where (leb (rows_of r).from row && ltb row (rows_of r).to)

pub field_part_is_shown : FieldPartIsShown
unfolding field_part
field_part_is_shown t row rec =
    let here = field_shown row rec (record_check t rec) (named_by (get_or rec 0 0)) in
    part_law ((row_at row).first - 1) rec (shown_field t row rec) here
