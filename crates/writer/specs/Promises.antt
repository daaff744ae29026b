-- Claims about the writer, beside the equations of its operations' contracts. Assumes nothing.
use Rattle.std.specs.Prelude.{Some, ℕ, ◌+◌, Bool, false, List, [], ◌∷◌, ◌≡◌, length, get_or}
use Rattle.answer.specs.declared.Reason.TheVariants.{FixedDiffers}
use Rattle.answer.specs.Answers.{Answer, Accepted, Refused}
use Rattle.layout.specs.declared.Record.{Record}
use Rattle.layout.specs.declared.Record.TheVariants.{Header, Payment, Trailer}
use Rattle.layout.specs.Layouts.{named_by, layout_of, row_at, version_row, given_length, joined_of}
use Rattle.barcode.specs.Agreed.{RightList}
use Rattle.kinds.specs.Terms.{Terms, is_version}
use Rattle.record.specs.Records.{record_check}
use Rattle.record.specs.Values.{version_in, payment_shown, trailer_shown}
use Rattle.fields.specs.Making.{made_of, make_check}
use Rattle.file.specs.Files.{fresh_file, file_answer}
use Rattle.file.specs.Forms.{length_of}
use Rattle.writer.specs.declared.Stage.TheVariants.{Fresh, Open}
use Rattle.writer.specs.declared.Writer.{Writer}
use Rattle.writer.specs.Writers.{writer_terms, write_result, header_answer, header_written, header_bytes, payment_check, payment_bytes, trailer_answer, trailer_bytes}

-- what was written is a record that is accepted alone under the same version and list, and its field bytes are those
-- that were given
abbrev pub WrittenIsAccepted : Type 0
WrittenIsAccepted =
    (t : Terms) (r : Record) (given amounts : List ℕ) (size : ℕ) → make_check t r given amounts size ≡ Accepted
    → (record_check t (made_of (layout_of r) given amounts) ≡ Accepted)
    × (joined_of r (made_of (layout_of r) given amounts) ≡ given)

-- what was received and the tariff are read back as they were given
abbrev pub WrittenAmountsAreRead : Type 0
WrittenAmountsAreRead =
    (t : Terms) (given : List ℕ) (received tariff size : ℕ)
    → make_check t Payment given (received ∷ tariff ∷ []) size ≡ Accepted
    → let shown = payment_shown t.agreed (payment_bytes given received tariff) in
    (shown.received ≡ received) × (shown.tariff ≡ tariff)

-- the trailer shows the writer's own figures: its payments, A and Z, and what they received
abbrev pub TrailerShowsTheFigures : Type 0
TrailerShowsTheFigures =
    (w : Writer) (size : ℕ) → trailer_answer w size ≡ Accepted
    → ((trailer_shown (trailer_bytes w)).count ≡ w.file.taken + 2)
    × ((trailer_shown (trailer_bytes w)).total ≡ w.file.total)

-- the fields of an accepted A, given to a writer whose stage is fresh, with a buffer for either form, write that A; its
-- version and that form are then the writer's. Those of a G that is accepted under the writer's version and a list,
-- given under that list to a writer whose file is open and can take it, write that G.
abbrev pub FieldsWriteTheHeader : Type 0
FieldsWriteTheHeader =
    (t : Terms) (w : Writer) (lined : Bool) (rec : List ℕ) → record_check t rec ≡ Accepted
    → named_by (get_or rec 0 0) ≡ Some Header → w.stage ≡ Fresh
    → (header_answer w (joined_of Header rec) (length_of lined) ≡ Accepted)
    × (header_bytes (joined_of Header rec) ≡ rec)
    × ((header_written w (joined_of Header rec) (length_of lined)).writer
    ≡ record { stage = Open; file = fresh_file (version_in rec) lined })

abbrev pub FieldsWriteThePayment : Type 0
FieldsWriteThePayment =
    (agreed : List ℕ) (w : Writer) (rec : List ℕ) → record_check (writer_terms agreed w) rec ≡ Accepted
    → named_by (get_or rec 0 0) ≡ Some Payment → w.stage ≡ Open
    → let shown = payment_shown agreed rec in
    file_answer w.file shown.received ≡ Accepted
    → (payment_check agreed w (joined_of Payment rec) shown.received shown.tariff (length_of w.file.lined)
    ≡ Accepted)
    × (payment_bytes (joined_of Payment rec) shown.received shown.tariff ≡ rec)

-- an accepted Z that shows the writer's own figures is the Z that it writes
abbrev pub FieldsWriteTheTrailer : Type 0
FieldsWriteTheTrailer =
    (t : Terms) (w : Writer) (rec : List ℕ) → record_check t rec ≡ Accepted → named_by (get_or rec 0 0) ≡ Some Trailer
    → w.stage ≡ Open → (trailer_shown rec).count ≡ w.file.taken + 2 → (trailer_shown rec).total ≡ w.file.total
    → (trailer_answer w (length_of w.file.lined) ≡ Accepted) × (trailer_bytes w ≡ rec)

-- an open writer in an arbitrary state whose version is another number than 4 and 6 refuses every G whose lengths are
-- right, 10 at the version's place in a header
abbrev pub PaymentsWrittenUnderAVersion : Type 0
PaymentsWrittenUnderAVersion =
    (agreed : List ℕ) (w : Writer) (given : List ℕ) (received tariff : ℕ) → RightList agreed → w.stage ≡ Open
    → length given ≡ given_length Payment → is_version w.file.version ≡ false
    → payment_check agreed w given received tariff (length_of w.file.lined)
    ≡ Refused FixedDiffers (row_at version_row).first

-- a refusal leaves the writer as it was
abbrev pub RefusalKeepsWriter : Type 0
RefusalKeepsWriter = (a : Answer) (new old : Writer) → (a ≡ Accepted → ⊥) → (write_result a new old).writer ≡ old
