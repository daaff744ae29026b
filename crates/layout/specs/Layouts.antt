-- The layouts of the three records (SPEC.md, "Records"): one table. Places count from 1. Assumes nothing.
use Rattle.std.specs.Prelude.{None, Option, Some, ℕ, ◌+◌, ◌-◌, ◌≤◌, Bool, true, cond, ◌&&◌, List, [], ◌∷◌, ◌++◌, map, ◌≡◌, leb, eqb, length, get_or}
use Rattle.decimal.specs.Places.{Stretch, width_of, gather}
use Rattle.layout.specs.declared.Field.{Field}
use Rattle.layout.specs.declared.Given.{Given}
use Rattle.layout.specs.declared.Kind.{Kind}
use Rattle.layout.specs.declared.Kind.TheVariants.{Mark, Version, Service, Blank, Text, Digits, Money, Date, Barcode, Capture, Form}
use Rattle.layout.specs.declared.Record.{Record}
use Rattle.layout.specs.declared.Record.TheVariants.{Header, Payment, Trailer}
use Rattle.layout.specs.declared.Rows.{Rows}

abbrev pub record_length : ℕ
record_length = 150

-- the byte that names a record: A, G, Z
abbrev pub mark_of : Record → ℕ
mark_of Header = 65
mark_of Payment = 71
mark_of Trailer = 90

-- the record that a first byte names
unfoldable pub named_by : ℕ → Option Record
named_by mark =
    cond (eqb mark (mark_of Header)) (Some Header)
    (cond (eqb mark (mark_of Payment)) (Some Payment) (cond (eqb mark (mark_of Trailer)) (Some Trailer) None))

-- a field's places are places of a record
pub record InRecord (f : Field) : Type 0 where
  pub start : 1 ≤ f.first
  pub order : f.first ≤ f.last
  pub end : f.last ≤ record_length

-- The table.

abbrev pub row : ℕ → ℕ → Kind → Field
row first last kind = record { first = first; last = last; kind = kind }

unfoldable pub layout_of : Record → List Field
layout_of Header =
    row 1 1 (Mark (mark_of Header))
    ∷ row 2 2 (Mark 50)  -- the digit 2: a return file
    ∷ row 3 22 Text  -- agreement
    ∷ row 23 42 Text  -- company
    ∷ row 43 45 Digits  -- bank
    ∷ row 46 65 Text  -- bank name
    ∷ row 66 73 Date
    ∷ row 74 79 Digits  -- sequence number
    ∷ row 80 81 Version
    ∷ row 82 98 Service
    ∷ row 99 150 Blank
    ∷ []
layout_of Payment =
    row 1 1 (Mark (mark_of Payment))
    ∷ row 2 21 Text  -- account
    ∷ row 22 29 Date  -- payment date
    ∷ row 30 37 Date  -- credit date
    ∷ row 38 81 Barcode
    ∷ row 82 93 Money  -- received
    ∷ row 94 100 Money  -- tariff
    ∷ row 101 108 Digits  -- record number
    ∷ row 109 116 Text  -- branch
    ∷ row 117 117 Capture
    ∷ row 118 140 Text  -- authentication
    ∷ row 141 141 Form
    ∷ row 142 150 Blank
    ∷ []
layout_of Trailer =
    row 1 1 (Mark (mark_of Trailer))
    ∷ row 2 7 Digits  -- count of all records
    ∷ row 8 24 Money  -- total received
    ∷ row 25 150 Blank
    ∷ []

unfoldable pub table : List Field
table = layout_of Header ++ (layout_of Payment ++ layout_of Trailer)

-- past the table's end: an empty field, which is in no record
abbrev pub no_field : Field
no_field = row 1 0 Blank

unfoldable pub row_at : ℕ → Field
row_at i = get_or table i no_field

-- the rows of a record: from its first, up to the one past its last
abbrev pub rows_before : Record → List Field
rows_before Header = []
rows_before Payment = layout_of Header
rows_before Trailer = layout_of Header ++ layout_of Payment

unfoldable pub rows_of : Record → Rows
rows_of r = record { from = length (rows_before r); to = length (rows_before r) + length (layout_of r) }

-- the rows of the fields that are read by name
abbrev pub agreement_row : ℕ
agreement_row = 2

abbrev pub bank_row : ℕ
bank_row = 4

abbrev pub file_date_row : ℕ
file_date_row = 6

abbrev pub sequence_row : ℕ
sequence_row = 7

abbrev pub version_row : ℕ
version_row = 8

abbrev pub account_row : ℕ
account_row = 12

abbrev pub paid_row : ℕ
paid_row = 13

abbrev pub credited_row : ℕ
credited_row = 14

abbrev pub barcode_row : ℕ
barcode_row = 15

abbrev pub received_row : ℕ
received_row = 16

abbrev pub tariff_row : ℕ
tariff_row = 17

abbrev pub number_row : ℕ
number_row = 18

abbrev pub branch_row : ℕ
branch_row = 19

abbrev pub capture_row : ℕ
capture_row = 20

abbrev pub authentication_row : ℕ
authentication_row = 21

abbrev pub form_row : ℕ
form_row = 22

abbrev pub payment_blank_row : ℕ
payment_blank_row = 23

abbrev pub count_row : ℕ
count_row = 25

abbrev pub total_row : ℕ
total_row = 26

-- What a caller of the writer gives (SPEC.md, "Writer").

-- of a field of so many bytes: nothing of what is fixed and of money, the service field's second byte, else all
abbrev pub given_of : Kind → ℕ → Given
given_of (Mark byte) width = record { from = 0; to = 0 }
given_of Version width = record { from = 0; to = width }
given_of Service width = record { from = 1; to = 2 }
given_of Blank width = record { from = 0; to = 0 }
given_of Text width = record { from = 0; to = width }
given_of Digits width = record { from = 0; to = width }
given_of Money width = record { from = 0; to = 0 }
given_of Date width = record { from = 0; to = width }
given_of Barcode width = record { from = 0; to = width }
given_of Capture width = record { from = 0; to = width }
given_of Form width = record { from = 0; to = width }

abbrev pub stretch_of : Field → Stretch
stretch_of f = record { first = f.first; last = f.last }

-- the places of that in the record
abbrev pub given_at : Field → Stretch
given_at f =
    let g = given_of f.kind (width_of (stretch_of f)) in
    record { first = f.first + g.from; last = f.first - 1 + g.to }

abbrev pub plan_of : Record → List Stretch
plan_of r = map given_at (layout_of r)

abbrev pub widths_of : List Stretch → ℕ
widths_of [] = 0
widths_of (s ∷ plan) = width_of s + widths_of plan

unfoldable pub given_length : Record → ℕ
given_length r = widths_of (plan_of r)

-- the field bytes of a record, joined in record order
abbrev pub joined_of : Record → List ℕ → List ℕ
joined_of r rec = gather (plan_of r) rec

-- Promises.

-- the fields cover the places from one on once each
abbrev pub covers : ℕ → List Field → Bool
covers place [] = eqb place (record_length + 1)
covers place (f ∷ fs) = eqb f.first place && (leb place f.last && covers (f.last + 1) fs)

abbrev pub FieldsCover : Type 0
FieldsCover = (r : Record) → covers 1 (layout_of r) ≡ true

-- so a record is its fields, one after the other
abbrev pub RecordIsItsFields : Type 0
RecordIsItsFields =
    (r : Record) (rec : List ℕ) → length rec ≡ record_length → gather (map stretch_of (layout_of r)) rec ≡ rec

-- each record's first field is the byte that names it
abbrev pub MarkNames : Type 0
MarkNames = (r : Record) → (named_by (mark_of r) ≡ Some r) × (get_or (layout_of r) 0 no_field ≡ row 1 1 (Mark (mark_of r)))

-- A's field bytes are 80, those of G 121
abbrev pub GivenLengths : Type 0
GivenLengths = (given_length Header ≡ 80) × (given_length Payment ≡ 121)
