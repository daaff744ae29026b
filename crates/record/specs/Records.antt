-- The answer to a record alone (SPEC.md, "Records" and "Refusals"). Assumes nothing.
use Rattle.std.specs.Prelude.{None, Option, Some, ℕ, ◌-◌, Bool, true, false, List, eqb, length, get_or}
use Rattle.answer.specs.declared.Reason.TheVariants.{WrongLength, NotExpected}
use Rattle.answer.specs.Answers.{Answer}
use Rattle.answer.specs.Answers as answer
use Rattle.answer.specs.Orders.{require, ◌then◌, first_refusal, moved_by, behind}
use Rattle.decimal.specs.Places.{part_at}
use Rattle.layout.specs.declared.Field.{Field}
use Rattle.layout.specs.declared.Record.{Record}
use Rattle.layout.specs.declared.Record.TheVariants.{Header, Payment, Trailer}
use Rattle.layout.specs.Layouts.{record_length, named_by, layout_of, stretch_of}
use Rattle.barcode.specs.Agreed.{list_answer}
use Rattle.kinds.specs.Terms.{Terms, version_answer}
use Rattle.kinds.specs.Kinds.{kind_answer}

-- a field's bytes
abbrev pub field_bytes : Field → List ℕ → List ℕ
field_bytes f rec = part_at (stretch_of f) rec

-- a field checked by its kind, with places of the record
unfoldable pub field_answer : Terms → List ℕ → Field → Answer
field_answer t rec f = moved_by (behind (f.first - 1)) (kind_answer t f.kind (field_bytes f rec))

-- the fields from left to right: the first refusal
abbrev pub layout_answer : Terms → Record → List ℕ → Answer
layout_answer t r rec = first_refusal (field_answer t rec) (layout_of r)

-- the record that a first byte names: its version is checked, then its layout; 9 where the byte names no record
abbrev pub named_answer : Terms → Option Record → List ℕ → Answer
named_answer t (Some r) rec = version_answer t.version r then layout_answer t r rec
named_answer t None rec = answer.Refused NotExpected 1

-- record, under a list of agreed issuers that was judged: 1, 9, then 10 for a G that is told a number other than 4 and
-- 6, then the fields
unfoldable pub record_answer : Terms → List ℕ → Answer
record_answer t rec =
    require (eqb (length rec) record_length) WrongLength 0 then named_answer t (named_by (get_or rec 0 0)) rec

-- as a caller asks it: 25 before everything, whatever the record
abbrev pub record_check : Terms → List ℕ → Answer
record_check t rec = list_answer t.agreed then record_answer t rec

-- whether a first byte names G, and whether it names Z
abbrev pub is_payment : Option Record → Bool
is_payment (Some Header) = false
is_payment (Some Payment) = true
is_payment (Some Trailer) = false
is_payment None = false

abbrev pub is_trailer : Option Record → Bool
is_trailer (Some Header) = false
is_trailer (Some Payment) = false
is_trailer (Some Trailer) = true
is_trailer None = false
