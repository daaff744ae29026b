-- Serves the fast path for G alone (src/fast.rt): what it checks, neighbouring fields of one class at once. What a
-- record must be is defined in Records.antt and in the crate kinds, without any of this. Assumes nothing.
use Rattle.std.specs.Prelude.{Err, None, Ok, Option, Some, ℕ, ◌≤◌, Bool, ◌&&◌, List, ◌≡◌, length, get_or}
use Rattle.record.specs.declared.Payment.{Payment}
use Rattle.decimal.specs.declared.Class.TheVariants.{Digit, Blank, Text}
use Rattle.decimal.specs.Bytes.{is_of, all}
use Rattle.decimal.specs.Places.{places}
use Rattle.calendar.specs.Dates.{date_of, is_found}
use Rattle.kinds.specs.Kinds.{is_capture, is_form}
use Rattle.layout.specs.declared.Field.{Field}
use Rattle.layout.specs.Layouts.{named_by, row_at, account_row, paid_row, credited_row, received_row, number_row, branch_row, capture_row, authentication_row, form_row, payment_blank_row}
use Rattle.record.specs.Values.{Decoded}
use Rattle.record.specs.declared.Contents.TheVariants as contents
use Rattle.record.specs.Records.{field_bytes, is_payment}

-- one byte of each of six rows: four of text, two of digits
abbrev pub column_holds : ℕ → ℕ → ℕ → ℕ → ℕ → ℕ → Bool
column_holds a b c d e f =
    (is_of Text a && is_of Text b) && ((is_of Text c && is_of Text d) && (is_of Digit e && is_of Digit f))

-- six rows of sixteen bytes
abbrev pub SixteenEach : List ℕ → List ℕ → List ℕ → List ℕ → List ℕ → List ℕ → Type 0
SixteenEach a b c d e f =
    (length a ≡ 16) × (length b ≡ 16) × (length c ≡ 16) × (length d ≡ 16) × (length e ≡ 16) × (length f ≡ 16)

-- four rows of text and two of digits
abbrev pub rows_hold : List ℕ → List ℕ → List ℕ → List ℕ → List ℕ → List ℕ → Bool
rows_hold a b c d e f =
    (all (is_of Text) a && all (is_of Text) b)
    && ((all (is_of Text) c && all (is_of Text) d) && (all (is_of Digit) e && all (is_of Digit) f))

-- a part that two rows of sixteen bytes cover
abbrev pub TwoRows : List ℕ → Type 0
TwoRows part = (16 ≤ length part) × (length part ≤ 32)

-- two texts and digits
abbrev pub parts_hold : List ℕ → List ℕ → List ℕ → Bool
parts_hold text other digits = all (is_of Text) text && (all (is_of Text) other && all (is_of Digit) digits)

-- from the first place of a field to the last of another
abbrev pub span_of : Field → Field → List ℕ → List ℕ
span_of from to rec = places from.first to.last rec

-- the account is text, and so are branch, capture and authentication as one; received, tariff and record number are
-- digits; the last field is blank
unfoldable pub is_plain : List ℕ → Bool
is_plain rec =
    parts_hold
    (field_bytes (row_at account_row) rec)
    (span_of (row_at branch_row) (row_at authentication_row) rec)
    (span_of (row_at received_row) (row_at number_row) rec)
    && all (is_of Blank) (field_bytes (row_at payment_blank_row) rec)

-- capture and payment form are codes of the version; a number that is no version has no codes
unfoldable pub is_coded : ℕ → List ℕ → Bool
is_coded version rec =
    is_capture version (get_or (field_bytes (row_at capture_row) rec) 0 0)
    && is_form version (get_or (field_bytes (row_at form_row) rec) 0 0)

-- all fields but the dates and the barcode
abbrev pub looks_like_payment : ℕ → List ℕ → Bool
looks_like_payment version rec = is_payment (named_by (get_or rec 0 0)) && (is_plain rec && is_coded version rec)

abbrev pub is_dated : List ℕ → Bool
is_dated rec =
    is_found (date_of (field_bytes (row_at paid_row) rec)) && is_found (date_of (field_bytes (row_at credited_row) rec))

-- of what a record shows: an accepted payment, and nothing else
abbrev pub fast_decoded_of : Decoded → Option Payment
fast_decoded_of (Ok (contents.Header h)) = None
fast_decoded_of (Ok (contents.Payment p)) = Some p
fast_decoded_of (Ok (contents.Trailer t)) = None
fast_decoded_of (Err refusal) = None
