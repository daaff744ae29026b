-- The field bytes of an accepted A or G, joined in record order, which the writer takes (SPEC.md, "Field bytes").
-- Assumes nothing.
use Rattle.std.specs.Prelude.{None, Option, Some, ℕ, Bool, true, false, List, [], eqb, length, get_or}
use Rattle.answer.specs.declared.Reason.TheVariants.{WrongLength, NotExpected}
use Rattle.answer.specs.Answers.{Answer, Refused}
use Rattle.answer.specs.Orders.{require, ◌then◌}
use Rattle.layout.specs.declared.Record.{Record}
use Rattle.layout.specs.declared.Record.TheVariants.{Header, Payment, Trailer}
use Rattle.layout.specs.Layouts.{record_length, named_by, given_length, joined_of}
use Rattle.barcode.specs.Agreed.{list_answer}
use Rattle.kinds.specs.Terms.{Terms, version_answer}
use Rattle.record.specs.Records.{layout_answer}

-- A and G have field bytes; a Z is the writer's own
abbrev pub is_given : Record → Bool
is_given Header = true
is_given Payment = true
is_given Trailer = false

-- 9 for a record that has no field bytes, 1 for a buffer of another length, 10 for a G that is told a number other than
-- 4 and 6, then the fields
abbrev pub named_join : Terms → Option Record → List ℕ → ℕ → Answer
named_join t (Some r) rec size =
    require (is_given r) NotExpected 1
    then require (eqb size (given_length r)) WrongLength 0
    then version_answer t.version r
    then layout_answer t r rec
named_join t None rec size = Refused NotExpected 1

-- 1 for the record's length, then as above
unfoldable pub join_answer : Terms → List ℕ → ℕ → Answer
join_answer t rec size =
    require (eqb (length rec) record_length) WrongLength 0 then named_join t (named_by (get_or rec 0 0)) rec size

-- as a caller asks it: 25 before everything, whatever the record
abbrev pub join_check : Terms → List ℕ → ℕ → Answer
join_check t rec size = list_answer t.agreed then join_answer t rec size

-- the field bytes of the record that a first byte names
abbrev pub joined_in : Option Record → List ℕ → List ℕ
joined_in (Some r) rec = joined_of r rec
joined_in None rec = []
