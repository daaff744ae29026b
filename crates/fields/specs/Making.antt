-- A record made from its field bytes and amounts (SPEC.md, "Field bytes"). Assumes nothing.
use Rattle.std.specs.Prelude.{ℕ, ◌-◌, Bool, true, false, cond, ◌&&◌, List, [], ◌∷◌, ◌++◌, eqb, length, get_or, take, drop, replicate}
use Rattle.answer.specs.declared.Reason.TheVariants.{WrongLength}
use Rattle.answer.specs.Answers.{Answer, Accepted}
use Rattle.answer.specs.Orders.{require, ◌then◌, moved_by, behind}
use Rattle.decimal.specs.Numbers.{digits_of, width_answer}
use Rattle.decimal.specs.Places.{width_of}
use Rattle.layout.specs.declared.Field.{Field}
use Rattle.layout.specs.declared.Kind.{Kind}
use Rattle.layout.specs.declared.Kind.TheVariants.{Mark, Version, Service, Blank, Text, Digits, Money, Date, Barcode, Capture, Form}
use Rattle.layout.specs.declared.Record.{Record}
use Rattle.layout.specs.Layouts.{record_length, layout_of, stretch_of, given_at, given_length}
use Rattle.barcode.specs.Agreed.{list_answer}
use Rattle.kinds.specs.Terms.{Terms, version_answer}
use Rattle.kinds.specs.Kinds.{service_of, kind_answer}

-- a field's bytes: what is fixed, the digits of an amount, else the bytes that are given for it
abbrev pub written_of : Kind → ℕ → List ℕ → ℕ → List ℕ
written_of (Mark byte) width given amount = byte ∷ []
written_of Version width given amount = given
written_of Service width given amount = service_of (get_or given 0 0)
written_of Blank width given amount = replicate width 32
written_of Text width given amount = given
written_of Digits width given amount = given
written_of Money width given amount = digits_of width amount
written_of Date width given amount = given
written_of Barcode width given amount = given
written_of Capture width given amount = given
written_of Form width given amount = given

-- whether a field of this kind is written from an amount
abbrev pub is_money : Kind → Bool
is_money (Mark byte) = false
is_money Version = false
is_money Service = false
is_money Blank = false
is_money Text = false
is_money Digits = false
is_money Money = true
is_money Date = false
is_money Barcode = false
is_money Capture = false
is_money Form = false

-- the answer to writing them: 21 for an amount that is too wide, then the kind's own check of the bytes
unfoldable pub written_answer : Terms → Kind → ℕ → List ℕ → ℕ → Answer
written_answer t kind width given amount =
    cond (is_money kind) (width_answer width amount) Accepted then kind_answer t kind (written_of kind width given amount)

-- how many of the given bytes are for a field
abbrev pub given_width : Field → ℕ
given_width f = width_of (given_at f)

-- a field's bytes and its answer, from the bytes and the amounts that are left for it and those behind it
abbrev pub field_made : Field → List ℕ → List ℕ → List ℕ
field_made f given amounts = written_of f.kind (width_of (stretch_of f)) (take (given_width f) given) (get_or amounts 0 0)

abbrev pub field_made_answer : Terms → Field → List ℕ → List ℕ → Answer
field_made_answer t f given amounts =
    moved_by (behind (f.first - 1))
    (written_answer t f.kind (width_of (stretch_of f)) (take (given_width f) given) (get_or amounts 0 0))

-- the amounts left after a field: a money field takes the next one
abbrev pub amounts_after : Field → List ℕ → List ℕ
amounts_after f amounts = cond (is_money f.kind) (drop 1 amounts) amounts

-- the fields from left to right: each takes its bytes of those given, and each money field the next amount
abbrev pub made_of : List Field → List ℕ → List ℕ → List ℕ
made_of [] given amounts = []
made_of (f ∷ fs) given amounts =
    field_made f given amounts ++ made_of fs (drop (given_width f) given) (amounts_after f amounts)

-- the first refusal among them
abbrev pub making_answer : Terms → List Field → List ℕ → List ℕ → Answer
making_answer t [] given amounts = Accepted
making_answer t (f ∷ fs) given amounts =
    field_made_answer t f given amounts then making_answer t fs (drop (given_width f) given) (amounts_after f amounts)

-- 1 for the length of the caller's buffer and of the field bytes, then 10 for a G under a number other than 4 and 6,
-- then the fields
unfoldable pub make_answer : Terms → Record → List ℕ → List ℕ → ℕ → Answer
make_answer t r given amounts size =
    require (eqb size record_length && eqb (length given) (given_length r)) WrongLength 0
    then version_answer t.version r
    then making_answer t (layout_of r) given amounts

-- as a caller asks it: 25 before everything, whatever the record
abbrev pub make_check : Terms → Record → List ℕ → List ℕ → ℕ → Answer
make_check t r given amounts size = list_answer t.agreed then make_answer t r given amounts size
