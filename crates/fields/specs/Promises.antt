-- Claims: a record's fields make it again, and what is made has the fields it was given. Assumes nothing.
use Rattle.std.specs.Prelude.{Some, ℕ, false, cond, List, [], ◌∷◌, ◌≡◌, length, get_or}
use Rattle.answer.specs.declared.Reason.TheVariants.{FixedDiffers}
use Rattle.answer.specs.Answers.{Accepted, Refused}
use Rattle.decimal.specs.Numbers.{number_of}
use Rattle.layout.specs.declared.Field.{Field}
use Rattle.layout.specs.declared.Record.{Record}
use Rattle.layout.specs.declared.Record.TheVariants.{Payment}
use Rattle.layout.specs.Layouts.{record_length, named_by, layout_of, row_at, version_row, given_length, joined_of}
use Rattle.barcode.specs.Agreed.{list_answer, RightList}
use Rattle.kinds.specs.Terms.{Terms, is_version}
use Rattle.record.specs.Records.{field_bytes, layout_answer, is_payment}
use Rattle.fields.specs.Joining.{join_check}
use Rattle.fields.specs.Making.{is_money, made_of, making_answer, make_check}

-- the amounts of the money fields of a record, in record order
abbrev pub amounts_in : List Field → List ℕ → List ℕ
amounts_in [] rec = []
amounts_in (f ∷ fs) rec = cond (is_money f.kind) (number_of (field_bytes f rec) ∷ amounts_in fs rec) (amounts_in fs rec)

-- the fields of an accepted record write back the same bytes
abbrev pub FieldsMakeTheRecord : Type 0
FieldsMakeTheRecord =
    (t : Terms) (r : Record) (rec : List ℕ) → length rec ≡ record_length → layout_answer t r rec ≡ Accepted
    → (making_answer t (layout_of r) (joined_of r rec) (amounts_in (layout_of r) rec) ≡ Accepted)
    × (made_of (layout_of r) (joined_of r rec) (amounts_in (layout_of r) rec) ≡ rec)

-- what is made is accepted, and its field bytes are those that were given
abbrev pub MadeIsAccepted : Type 0
MadeIsAccepted =
    (t : Terms) (r : Record) (given amounts : List ℕ) → length given ≡ given_length r
    → making_answer t (layout_of r) given amounts ≡ Accepted
    → (length (made_of (layout_of r) given amounts) ≡ record_length)
    × (layout_answer t r (made_of (layout_of r) given amounts) ≡ Accepted)
    × (joined_of r (made_of (layout_of r) given amounts) ≡ given)

-- only a G needs its terms, to be joined or made: any other record ignores them, once the list is judged
abbrev pub OtherJoinsIgnoreTerms : Type 0
OtherJoinsIgnoreTerms =
    (t u : Terms) (rec : List ℕ) (size : ℕ) → list_answer t.agreed ≡ list_answer u.agreed
    → is_payment (named_by (get_or rec 0 0)) ≡ false → join_check t rec size ≡ join_check u rec size

abbrev pub OtherMakesIgnoreTerms : Type 0
OtherMakesIgnoreTerms =
    (t u : Terms) (r : Record) (given amounts : List ℕ) (size : ℕ) → list_answer t.agreed ≡ list_answer u.agreed
    → is_payment (Some r) ≡ false → make_check t r given amounts size ≡ make_check u r given amounts size

-- a G that is told a number other than 4 and 6 is refused 10 at the version's place in a header, behind every 1
abbrev pub PaymentsJoinUnderAVersion : Type 0
PaymentsJoinUnderAVersion =
    (t : Terms) (rec : List ℕ) → RightList t.agreed → length rec ≡ record_length
    → named_by (get_or rec 0 0) ≡ Some Payment → is_version t.version ≡ false
    → join_check t rec (given_length Payment) ≡ Refused FixedDiffers (row_at version_row).first
