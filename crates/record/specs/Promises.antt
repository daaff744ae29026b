-- Claims about a record read alone, beside the equations of its operations' contracts. Assumes nothing.
use Rattle.std.specs.Prelude.{Ok, Some, ℕ, ◌≤◌, true, false, List, [], ◌↔◌, ◌≡◌, length, get_or}
use Rattle.answer.specs.Refusals.{answer_number}
use Rattle.answer.specs.declared.Reason.TheVariants.{FixedDiffers}
use Rattle.answer.specs.Answers.{Accepted, Refused}
use Rattle.answer.specs.Orders.{Each}
use Rattle.decimal.specs.Places.{places}
use Rattle.barcode.specs.Codes.{issuer_of, free_of}
use Rattle.barcode.specs.Agreed.{list_answer, RightList, DueIsRight, ShowsDue}
use Rattle.kinds.specs.Terms.{Terms, told, version04, version06, is_version}
use Rattle.kinds.specs.Kinds.{kind_answer}
use Rattle.layout.specs.declared.Field.{Field}
use Rattle.layout.specs.declared.Record.{Record}
use Rattle.layout.specs.declared.Record.TheVariants.{Header, Payment}
use Rattle.layout.specs.Layouts.{record_length, layout_of, row_at, named_by, version_row, barcode_row}
use Rattle.record.specs.Records.{field_bytes, record_answer, record_check, is_payment}
use Rattle.record.specs.declared.Contents.TheVariants as contents
use Rattle.record.specs.Values.{version_in, payment_shown, answer_of_record, decoded_record, has_row, shown_field}

-- under a right list, 150 bytes that their first one names are accepted exactly when each field of that layout is right
-- by its kind. A number that is no version has no codes, so no G is right under it.
abbrev pub RightFieldsAreAccepted : Type 0
RightFieldsAreAccepted =
    (t : Terms) (r : Record) (rec : List ℕ) → RightList t.agreed → length rec ≡ record_length
    → named_by (get_or rec 0 0) ≡ Some r
    → (record_check t rec ≡ Accepted)
    ↔ Each (λ (f : Field). kind_answer t f.kind (field_bytes f rec) ≡ Accepted) (layout_of r)

-- a field of an accepted record, by its row, is the bytes at the row's places
abbrev pub FieldsAreTheirPlaces : Type 0
FieldsAreTheirPlaces =
    (t : Terms) (rec : List ℕ) (row : ℕ) → record_check t rec ≡ Accepted → has_row (named_by (get_or rec 0 0)) row ≡ true
    → shown_field t row rec ≡ places (row_at row).first (row_at row).last rec

-- the answer of what is decoded is the answer of the check: one answer for each input
abbrev pub DecodeAnswers : Type 0
DecodeAnswers = (t : Terms) (rec : List ℕ) → answer_of_record (decoded_record t rec) ≡ record_check t rec

-- behind 25 a record alone is accepted, or refused by a number from 1 to 12
abbrev pub OwnRefusalsUpToTwelve : Type 0
OwnRefusalsUpToTwelve = (t : Terms) (rec : List ℕ) → answer_number (record_answer t rec) ≤ 12

-- under a right list a record is accepted exactly when it is accepted under the empty one and, if it is a G, its due
-- date is right
abbrev pub DueOfRecordIsAsked : Type 0
DueOfRecordIsAsked =
    (version : ℕ) (agreed rec : List ℕ) → RightList agreed
    → let code = field_bytes (row_at barcode_row) rec in
    (record_check (told version agreed) rec ≡ Accepted)
    ↔ ((record_check (told version []) rec ≡ Accepted)
    × (named_by (get_or rec 0 0) ≡ Some Payment → DueIsRight agreed (issuer_of code) (free_of code)))

-- an accepted G decodes to its payment, which shows the due date of its barcode
abbrev pub DueOfRecordIsShown : Type 0
DueOfRecordIsShown =
    (version : ℕ) (agreed rec : List ℕ) → record_check (told version agreed) rec ≡ Accepted
    → named_by (get_or rec 0 0) ≡ Some Payment
    → let code = field_bytes (row_at barcode_row) rec in
    (decoded_record (told version agreed) rec ≡ Ok (contents.Payment (payment_shown agreed rec)))
    × ShowsDue agreed (issuer_of code) (free_of code) (payment_shown agreed rec).barcode.due

-- only a G needs its terms: any other record ignores them, whatever they are, once the list is judged
abbrev pub OtherRecordsIgnoreTerms : Type 0
OtherRecordsIgnoreTerms =
    (t u : Terms) (rec : List ℕ) → list_answer t.agreed ≡ list_answer u.agreed
    → is_payment (named_by (get_or rec 0 0)) ≡ false → record_check t rec ≡ record_check u rec

-- a G that is told a number other than 4 and 6 is refused 10 at the version's place in a header, whatever else it has
abbrev pub PaymentsNeedAVersion : Type 0
PaymentsNeedAVersion =
    (t : Terms) (rec : List ℕ) → RightList t.agreed → length rec ≡ record_length
    → named_by (get_or rec 0 0) ≡ Some Payment → is_version t.version ≡ false
    → record_check t rec ≡ Refused FixedDiffers (row_at version_row).first

-- an accepted header names a version
abbrev pub HeadersNameAVersion : Type 0
HeadersNameAVersion =
    (t : Terms) (rec : List ℕ) → record_check t rec ≡ Accepted → named_by (get_or rec 0 0) ≡ Some Header
    → is_version (version_in rec) ≡ true

-- what is accepted under 04 is accepted under 06, and decodes to the same
abbrev pub FourIsWithinSix : Type 0
FourIsWithinSix =
    (agreed rec : List ℕ) → record_check (told version04 agreed) rec ≡ Accepted
    → (record_check (told version06 agreed) rec ≡ Accepted)
    × (decoded_record (told version06 agreed) rec ≡ decoded_record (told version04 agreed) rec)
