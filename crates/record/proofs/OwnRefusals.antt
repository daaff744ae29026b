-- The numbers that a record's own refusals have, by what its fields are checked for. Assumes nothing.
use Rattle.std.specs.Prelude.{Err, None, Option, Some}
use Prim.Native.Nat.{ℕ, suc, ◌≤◌}
use mathlib.Core.Bool.{Bool, true, false, not, ◌||◌}
use mathlib.Core.List.{List, [], ◌∷◌}
use native.Mathlib.Omega.{arith}
use lib.Dec.{eqb}
use lib.ListN.{length, get_or}
use Rattle.answer.specs.Refusals.{reason_number, answer_number}
use Rattle.answer.specs.declared.Reason.{Reason}
use Rattle.answer.specs.declared.Reason.TheVariants.{WrongLength, NoDigit, WrongProduct, UnknownSegment, UnknownKind, WrongGeneralCheck, NoText, FixedDiffers, NoDate, UnknownCode}
use Rattle.answer.specs.Answers.{Answer, Accepted}
use Rattle.answer.specs.Orders.{require, ◌then◌, first_refusal, moved_by}
use Rattle.decimal.specs.declared.Class.TheVariants as class
use Rattle.decimal.specs.Bytes.{is_of, all, each_is}
use Rattle.calendar.specs.Dates.{date_of, is_found}
use Rattle.barcode.specs.Codes.{code_length, digit_at, product, is_segment, is_kind, free, issuer_of, free_of, first_three_answer, prefix_answer, general_right, full_length_answer, barcode_answer}
use Rattle.barcode.specs.Agreed.{is_agreed, due_digits, free_answer, due_answer, barcode_under}
use Rattle.layout.specs.declared.Field.{Field}
use Rattle.layout.specs.declared.Kind.{Kind}
use Rattle.layout.specs.declared.Kind.TheVariants.{Mark, Version, Service, Blank, Text, Digits, Money, Date, Barcode, Capture, Form}
use Rattle.layout.specs.declared.Record.{Record}
use Rattle.layout.specs.declared.Record.TheVariants.{Header, Payment, Trailer}
use Rattle.layout.specs.Layouts.{record_length, named_by, layout_of, row_at, version_row}
use Rattle.kinds.specs.Terms.{Terms, is_version, version_answer}
use Rattle.kinds.specs.Kinds.{same, is_version_text, is_service, date_answer, is_capture, is_form, kind_answer}
use Rattle.record.specs.Records.{field_answer, named_answer, record_answer}
use Rattle.record.specs.Promises.{OwnRefusalsUpToTwelve}

-- an answer whose number is at most twelve: of one test, of two answers, of a list, of bytes, and moved
record UpToTwelve (a : Answer) : Type 0 where
  number : answer_number a ≤ 12

one : (t : Bool) (why : Reason) (p : ℕ) → reason_number why ≤ 12 → UpToTwelve (require t why p)
one true why p h = record { number = omega arith }
one false why p h = record { number = h }

two : (a b : Answer) → UpToTwelve a → UpToTwelve b → UpToTwelve (a then b)
two Accepted b h k = k
two (Err refusal) b h k = h

each : (ok : ℕ → Bool) (why : Reason) (p : ℕ) (bs : List ℕ) → reason_number why ≤ 12 → UpToTwelve (each_is ok why p bs)
each ok why p [] h = record { number = omega arith }
each ok why p (b ∷ bs) h = two (require (ok b) why p) (each_is ok why (suc p) bs) (one (ok b) why p h) (each ok why (suc p) bs h)

first : (check : Field → Answer) → ((f : Field) → UpToTwelve (check f)) → (fs : List Field) → UpToTwelve (first_refusal check fs)
first check h [] = record { number = omega arith }
first check h (f ∷ fs) = two (check f) (first_refusal check fs) (h f) (first check h fs)

moved : (move : ℕ → ℕ) (a : Answer) → UpToTwelve a → UpToTwelve (moved_by move a)
moved move Accepted h = h
moved move (Err refusal) h = record { number = h.number }

-- of a barcode: its first three digits, its due date, all of it
three : (bs : List ℕ) → UpToTwelve (first_three_answer bs)
unfolding first_three_answer
three bs =
    two _ _ (one (eqb (digit_at 1 bs) product) WrongProduct 1 (omega arith))
    (two _ _ (one (is_segment (digit_at 2 bs)) UnknownSegment 2 (omega arith)) (one (is_kind (digit_at 3 bs)) UnknownKind 3 (omega arith)))

due : (agreed bs : List ℕ) → UpToTwelve (due_answer agreed bs)
unfolding free_answer
due agreed bs =
    let i = issuer_of bs in
    one (not (is_agreed agreed i) || is_found (date_of (due_digits (free_of bs)))) NoDate (free i.segment).first (omega arith)

code : (agreed bs : List ℕ) → UpToTwelve (barcode_under agreed bs)
code agreed bs =
    let prefix = two (each_is (is_of class.Digit) NoDigit 1 bs) (first_three_answer bs) (each _ NoDigit 1 bs (omega arith)) (three bs) in
    let full = two (prefix_answer bs) _ prefix (one (general_right bs) WrongGeneralCheck 4 (omega arith)) in
    two (barcode_answer bs) (due_answer agreed bs)
    (two _ (full_length_answer bs) (one (eqb (length bs) code_length) WrongLength 0 (omega arith)) full) (due agreed bs)

-- of a field, by its kind, and of a record
kind : (t : Terms) (k : Kind) (bs : List ℕ) → UpToTwelve (kind_answer t k bs)
unfolding kind_answer date_answer
kind t (Mark byte) bs = one (same bs (byte ∷ [])) FixedDiffers 1 (omega arith)
kind t Version bs = one (is_version_text bs) FixedDiffers 1 (omega arith)
kind t Service bs = one (is_service bs) FixedDiffers 1 (omega arith)
kind t Blank bs = one (all (is_of class.Blank) bs) FixedDiffers 1 (omega arith)
kind t Text bs = each (is_of class.Text) NoText 1 bs (omega arith)
kind t Digits bs = each (is_of class.Digit) NoDigit 1 bs (omega arith)
kind t Money bs = each (is_of class.Digit) NoDigit 1 bs (omega arith)
kind t Date bs =
    two _ _ (each (is_of class.Digit) NoDigit 1 bs (omega arith)) (one (is_found (date_of bs)) NoDate 1 (omega arith))
kind t Barcode bs = code t.agreed bs
kind t Capture bs = one (is_capture t.version (get_or bs 0 0)) UnknownCode 1 (omega arith)
kind t Form bs = one (is_form t.version (get_or bs 0 0)) UnknownCode 1 (omega arith)

field : (t : Terms) (rec : List ℕ) (f : Field) → UpToTwelve (field_answer t rec f)
unfolding field_answer
field t rec f = moved _ _ (kind t f.kind _)

version : (v : ℕ) (r : Record) → UpToTwelve (version_answer v r)
unfolding version_answer
version v Header = record { number = omega arith }
version v Payment = one (is_version v) FixedDiffers (row_at version_row).first (omega arith)
version v Trailer = record { number = omega arith }

named : (t : Terms) (m : Option Record) (rec : List ℕ) → UpToTwelve (named_answer t m rec)
named t (Some r) rec = two _ _ (version t.version r) (first (field_answer t rec) (field t rec) (layout_of r))
named t None rec = record { number = omega arith }

pub own_refusals_up_to_twelve : OwnRefusalsUpToTwelve
unfolding record_answer
own_refusals_up_to_twelve t rec =
    (two _ (named_answer t (named_by (get_or rec 0 0)) rec) (one (eqb (length rec) record_length) WrongLength 0 (omega arith))
    (named t (named_by (get_or rec 0 0)) rec)).number
