-- Laws of what an accepted record shows. Assumes nothing.
use Rattle.std.specs.Prelude.{Err, None, Option, Some}
use Prim.Native.Nat.{ℕ, ◌-◌}
use mathlib.Core.Bool.{true, false}
use mathlib.Core.List.{List, []}
use mathlib.Core.Logic.{◌↔◌}
use mathlib.Core.Path.{◌≡◌, refl, sym, ap, ◌∙◌}
use borrow.Author.Tests.{eq-eqb, eqb-true}
use lib.Dec.{eqb, lit<, lit≤}
use lib.ListN.{length, get_or}
use Rattle.answer.specs.declared.Reason.TheVariants.{WrongLength, FixedDiffers}
use Rattle.answer.specs.Answers.{Answer, Accepted, Refused}
use Rattle.answer.specs.Orders.{require, ◌then◌, Each, behind}
use Rattle.answer.proofs.Orders.{not_both, require_accepts, then_accepts, first_accepts, moved_accepts, each_map, each_both}
use Rattle.decimal.specs.LowHalves.{low_number_of}
use Rattle.answer.proofs.Tests.{never}
use Rattle.calendar.specs.declared.Date.{Date}
use Rattle.barcode.specs.Codes.{issuer_of, free_of}
use Rattle.barcode.specs.Agreed.{list_answer, due_answer}
use Rattle.barcode.proofs.Lists.{empty_is_right, free_accepts, under_tells, shows_due}
use Rattle.layout.specs.declared.Field.{Field}
use Rattle.layout.specs.declared.Record.{Record}
use Rattle.layout.specs.declared.Record.TheVariants.{Header, Payment, Trailer}
use Rattle.layout.specs.Layouts.{record_length, named_by, layout_of, table, no_field, row_at, bank_row, file_date_row, sequence_row, version_row, barcode_row, count_row, total_row}
use Rattle.layout.proofs.Layouts.{row_lies}
use Rattle.kinds.specs.Terms.{Terms, told, version04, version06, is_version, version_answer}
use Rattle.kinds.specs.Kinds.{kind_answer}
use Rattle.kinds.proofs.VersionLaws.{capture_has_version, more_codes, due_of_kind, kind_with_due}
use Rattle.record.specs.Records.{field_bytes, field_answer, layout_answer, named_answer, record_answer, record_check, is_payment, is_trailer}
use Rattle.record.proofs.KindRules.{digits, money, capture, code, version}
use Rattle.record.proofs.FieldBytes.{number_read}
use Rattle.record.specs.Values.{version_in, date_in, header_shown, trailer_shown, record_shown, answer_of_record, shown_unless_refused}
use Rattle.record.specs.Promises.{DecodeAnswers, RightFieldsAreAccepted, FieldsAreTheirPlaces, DueOfRecordIsAsked, DueOfRecordIsShown, OtherRecordsIgnoreTerms, PaymentsNeedAVersion, HeadersNameAVersion, FourIsWithinSix}

-- an accepted record has 150 bytes, and its named layout accepts
pub accepted_is : (t : Terms) (rec : List ℕ) → record_answer t rec ≡ Accepted
    → (length rec ≡ record_length) × (named_answer t (named_by (get_or rec 0 0)) rec ≡ Accepted)
unfolding record_answer
accepted_is t rec e =
    let both = (then_accepts (require (eqb (length rec) record_length) WrongLength 0) (named_answer t (named_by (get_or rec 0 0)) rec)).0 e in
    (eqb-true (length rec) record_length ((require_accepts (eqb (length rec) record_length) WrongLength 0).0 both.0), both.1)

-- a record that a caller gets accepted is accepted under its list
pub check_passes : (t : Terms) (rec : List ℕ) → record_check t rec ≡ Accepted → record_answer t rec ≡ Accepted
check_passes t rec e = ((then_accepts (list_answer t.agreed) (record_answer t rec)).0 e).1

pub accepted_named : (t : Terms) (r : Record) (rec : List ℕ) → record_answer t rec ≡ Accepted → named_by (get_or rec 0 0) ≡ Some r
    → (length rec ≡ record_length) × (version_answer t.version r ≡ Accepted) × (layout_answer t r rec ≡ Accepted)
accepted_named t r rec a e =
    let is = accepted_is t rec a in
    let both = (then_accepts (version_answer t.version r) (layout_answer t r rec)).0 (rw e at is.1) in
    (is.0, both.0, both.1)

-- by its first byte: what is Z, and what of an accepted record is neither G nor Z
pub trailer_named : (m : Option Record) → is_trailer m ≡ true → m ≡ Some Trailer
trailer_named (Some Header) t = never t
trailer_named (Some Payment) t = never t
trailer_named (Some Trailer) t = refl
trailer_named None t = never t

pub header_named : (t : Terms) (m : Option Record) (rec : List ℕ) → named_answer t m rec ≡ Accepted → is_payment m ≡ false → is_trailer m ≡ false → m ≡ Some Header
header_named t (Some Header) rec a p z = refl
header_named t (Some Payment) rec a p z = never (sym p)
header_named t (Some Trailer) rec a p z = never (sym z)
header_named t None rec a p z = not_both _ refl a

-- of 150 bytes the answer is that of the layout that the first one names
pub named_is : (t : Terms) (r : Record) (rec : List ℕ) → length rec ≡ record_length → named_by (get_or rec 0 0) ≡ Some r
    → record_answer t rec ≡ version_answer t.version r then layout_answer t r rec
unfolding record_answer
named_is t r rec n e = rw (eq-eqb (length rec) record_length n, e)

pub decode_answers : DecodeAnswers
decode_answers t rec =
    go (record_check t rec) (named_by (get_or rec 0 0)) refl (λ e. accepted_is t rec (check_passes t rec e))
  where
    go : (a : Answer) (n : Option Record) → record_check t rec ≡ a → (record_check t rec ≡ Accepted → (length rec ≡ record_length) × (named_answer t n rec ≡ Accepted))
        → answer_of_record (shown_unless_refused a (record_shown t.agreed n rec)) ≡ a
    go (Err refusal) n e h = refl
    go Accepted (Some Header) e h = refl
    go Accepted (Some Payment) e h = refl
    go Accepted (Some Trailer) e h = refl
    go Accepted None e h = (h e).1

-- what is no G shows the same under every list
pub other_shows : (agreed other : List ℕ) (m : Option Record) (rec : List ℕ) → is_payment m ≡ false → record_shown agreed m rec ≡ record_shown other m rec
other_shows agreed other (Some Header) rec p = refl
other_shows agreed other (Some Payment) rec p = never (sym p)
other_shows agreed other (Some Trailer) rec p = refl
other_shows agreed other None rec p = refl

-- a field of a record is right where its bytes are right by its kind
field_accepts : (t : Terms) (rec : List ℕ) (f : Field) → (field_answer t rec f ≡ Accepted) ↔ (kind_answer t f.kind (field_bytes f rec) ≡ Accepted)
unfolding field_answer
field_accepts t rec f = moved_accepts (behind (f.first - 1)) (kind_answer t f.kind (field_bytes f rec))

pub layout_accepts : (t : Terms) (r : Record) (rec : List ℕ)
    → (layout_answer t r rec ≡ Accepted) ↔ Each (λ (f : Field). kind_answer t f.kind (field_bytes f rec) ≡ Accepted) (layout_of r)
layout_accepts t r rec =
    let each = first_accepts (field_answer t rec) (layout_of r) in (
      λ a. each_map (λ f. (field_accepts t rec f).0) (layout_of r) (each.0 a),
      λ fs. each.1 (each_map (λ f. (field_accepts t rec f).1) (layout_of r) fs),
    )

-- The terms: A and Z do not ask, and a right G has a capture, so its version is one.

layout_terms : (t : Terms) (r : Record) (rec : List ℕ) → layout_answer t r rec ≡ Accepted → version_answer t.version r ≡ Accepted
unfolding version_answer layout_of
layout_terms t Header rec a = refl
layout_terms t Payment rec a =
    let each = (layout_accepts t Payment rec).0 a in
    let taken = (capture t _).0 each.1.1.1.1.1.1.1.1.1.0 in
    (require_accepts _ _ _).1 (capture_has_version t.version _ taken)
layout_terms t Trailer rec a = refl

pub right_fields : (t : Terms) (r : Record) (rec : List ℕ) → length rec ≡ record_length → named_by (get_or rec 0 0) ≡ Some r
    → (record_answer t rec ≡ Accepted) ↔ Each (λ (f : Field). kind_answer t f.kind (field_bytes f rec) ≡ Accepted) (layout_of r)
right_fields t r rec n e =
    let body = named_is t r rec n e in
    let both = then_accepts (version_answer t.version r) (layout_answer t r rec) in (
      λ a. (layout_accepts t r rec).0 (both.0 (sym body ∙ a)).1,
      λ fs. let a = (layout_accepts t r rec).1 fs in body ∙ both.1 (layout_terms t r rec a, a),
    )

pub right_fields_are_accepted : RightFieldsAreAccepted
right_fields_are_accepted t r rec right n e =
    let fields = right_fields t r rec n e in
    let both = then_accepts (list_answer t.agreed) (record_answer t rec) in
    (λ a. fields.0 (both.0 a).1, λ fs. both.1 (right, fields.1 fs))

named_ignores : (t u : Terms) (m : Option Record) (rec : List ℕ) → is_payment m ≡ false → named_answer t m rec ≡ named_answer u m rec
unfolding version_answer field_answer kind_answer layout_of
named_ignores t u (Some Header) rec p = refl
named_ignores t u (Some Payment) rec p = never (sym p)
named_ignores t u (Some Trailer) rec p = refl
named_ignores t u None rec p = refl

pub other_ignores : (t u : Terms) (rec : List ℕ) → is_payment (named_by (get_or rec 0 0)) ≡ false → record_answer t rec ≡ record_answer u rec
unfolding record_answer
other_ignores t u rec p = rw (named_ignores t u (named_by (get_or rec 0 0)) rec p)

pub other_records_ignore_terms : OtherRecordsIgnoreTerms
other_records_ignore_terms t u rec same p = rw (same, other_ignores t u rec p)

pub needs_version : (t : Terms) (rec : List ℕ) → length rec ≡ record_length → named_by (get_or rec 0 0) ≡ Some Payment → is_version t.version ≡ false
    → record_answer t rec ≡ Refused FixedDiffers (row_at version_row).first
unfolding version_answer
needs_version t rec n e f = rw (named_is t Payment rec n e, f)

pub payments_need_a_version : PaymentsNeedAVersion
payments_need_a_version t rec right n e f = rw right (needs_version t rec n e f)

pub header_version : (t : Terms) (rec : List ℕ) → record_answer t rec ≡ Accepted → named_by (get_or rec 0 0) ≡ Some Header → is_version (version_in rec) ≡ true
unfolding layout_of row_at table
header_version t rec a e =
    let each = (layout_accepts t Header rec).0 (accepted_named t Header rec a e).2 in
    (version t _ each.1.1.1.1.1.1.1.1.0).1

pub headers_name_a_version : HeadersNameAVersion
headers_name_a_version t rec a e = header_version t rec (check_passes t rec a) e

-- an accepted record under other terms: accepted if each of its fields is
under_others : (t u : Terms) (rec : List ℕ) → record_answer t rec ≡ Accepted
    → ((r : Record) → named_by (get_or rec 0 0) ≡ Some r → Each (λ (f : Field). kind_answer t f.kind (field_bytes f rec) ≡ Accepted) (layout_of r)
    → Each (λ (f : Field). kind_answer u f.kind (field_bytes f rec) ≡ Accepted) (layout_of r))
    → record_answer u rec ≡ Accepted
under_others t u rec a each = go (named_by (get_or rec 0 0)) refl
  where
    go : (m : Option Record) → named_by (get_or rec 0 0) ≡ m → record_answer u rec ≡ Accepted
    go (Some r) e = let n = (accepted_is t rec a).0 in (right_fields u r rec n e).1 (each r e ((right_fields t r rec n e).0 a))
    go None e = not_both _ refl (rw e at (accepted_is t rec a).1)

pub four_is_within_six : FourIsWithinSix
four_is_within_six agreed rec a =
    let four = told version04 agreed in
    let six = told version06 agreed in
    let told = (then_accepts (list_answer agreed) (record_answer four rec)).0 a in
    let b : record_check six rec ≡ Accepted = rw told.0 (under_others four six rec told.1 (λ r e right. each_map (λ f. more_codes agreed f.kind (field_bytes f rec)) (layout_of r) right)) in
    (b, rw (a, b))

-- Under a list: what is accepted under it is accepted under the empty one, and the due date of a G is right.

pub without_list : (v : ℕ) (agreed rec : List ℕ) → record_answer (told v agreed) rec ≡ Accepted → record_answer (told v []) rec ≡ Accepted
without_list v agreed rec a =
    under_others (told v agreed) (told v []) rec a
    (λ r e right. each_map (λ f h. ((then_accepts (kind_answer (told v []) f.kind (field_bytes f rec)) (due_of_kind agreed f.kind (field_bytes f rec))).0
    (sym (kind_with_due v agreed f.kind (field_bytes f rec)) ∙ h)).0) (layout_of r) right)

due_asked : (v : ℕ) (agreed rec : List ℕ) → record_answer (told v agreed) rec ≡ Accepted → named_by (get_or rec 0 0) ≡ Some Payment
    → due_answer agreed (field_bytes (row_at barcode_row) rec) ≡ Accepted
unfolding layout_of row_at table
due_asked v agreed rec a e =
    let t = told v agreed in
    let each = (right_fields t Payment rec (accepted_is t rec a).0 e).0 a in
    (under_tells agreed (field_bytes (row_at barcode_row) rec) ((code t _).0 each.1.1.1.1.0)).1

all_due : (agreed rec : List ℕ) (r : Record) → (r ≡ Payment → due_answer agreed (field_bytes (row_at barcode_row) rec) ≡ Accepted)
    → Each (λ (f : Field). due_of_kind agreed f.kind (field_bytes f rec) ≡ Accepted) (layout_of r)
unfolding layout_of row_at table
all_due agreed rec Header h = (refl, (refl, (refl, (refl, (refl, (refl, (refl, (refl, (refl, (refl, (refl, tt)))))))))))
all_due agreed rec Payment h = (refl, (refl, (refl, (refl, (h refl, (refl, (refl, (refl, (refl, (refl, (refl, (refl, (refl, tt)))))))))))))
all_due agreed rec Trailer h = (refl, (refl, (refl, (refl, tt))))

with_due : (v : ℕ) (agreed rec : List ℕ) → record_answer (told v []) rec ≡ Accepted
    → (named_by (get_or rec 0 0) ≡ Some Payment → due_answer agreed (field_bytes (row_at barcode_row) rec) ≡ Accepted) → record_answer (told v agreed) rec ≡ Accepted
with_due v agreed rec a due =
    under_others (told v []) (told v agreed) rec a
    (λ r e right. each_both (λ f h d. kind_with_due v agreed f.kind (field_bytes f rec) ∙ (then_accepts (kind_answer (told v []) f.kind (field_bytes f rec)) (due_of_kind agreed f.kind (field_bytes f rec))).1 (h, d))
    (layout_of r) right (all_due agreed rec r (λ p. due (e ∙ ap Some p))))

pub due_of_record_is_asked : DueOfRecordIsAsked
due_of_record_is_asked v agreed rec right =
    let code = field_bytes (row_at barcode_row) rec in
    let under = then_accepts (list_answer agreed) (record_answer (told v agreed) rec) in
    let empty = then_accepts (list_answer []) (record_answer (told v []) rec) in
    let due = free_accepts agreed (issuer_of code) (free_of code) in (
      λ e. let a = (under.0 e).1 in (empty.1 (empty_is_right, without_list v agreed rec a), λ p. due.0 (due_asked v agreed rec a p)),
      λ h. under.1 (right, with_due v agreed rec (empty.0 h.0).1 (λ p. due.1 (h.1 p))),
    )

pub due_of_record_is_shown : DueOfRecordIsShown
due_of_record_is_shown v agreed rec a e =
    let code = field_bytes (row_at barcode_row) rec in
    (rw (a, e), shows_due agreed (issuer_of code) (free_of code) (due_asked v agreed rec (check_passes (told v agreed) rec a) e))

pub fields_are_their_places : FieldsAreTheirPlaces
fields_are_their_places t rec row a h = rw (a, h)

-- The numbers of an accepted A or Z are digits, read by their low halves.
module _ (t : Terms) (rec : List ℕ) (n : length rec ≡ record_length) where
  pub header_read : {b s v : ℕ} {d : Date} → layout_answer t Header rec ≡ Accepted → b ≡ low_number_of (field_bytes (row_at bank_row) rec)
      → d ≡ date_in file_date_row rec → s ≡ low_number_of (field_bytes (row_at sequence_row) rec) → v ≡ low_number_of (field_bytes (row_at version_row) rec)
      → record { bank = b; date = d; sequence = s; version = v } ≡ header_shown rec
  unfolding layout_of row_at table
  header_read a eb ed es ev =
      let each = (layout_accepts t Header rec).0 a in
      let bank = (digits t _).0 each.1.1.1.1.0 in
      let sequence = (digits t _).0 each.1.1.1.1.1.1.1.0 in
      let version = (version t _ each.1.1.1.1.1.1.1.1.0).0 in
      rw (number_read (row_at bank_row) rec (row_lies bank_row no_field (lit< tt)) (lit≤ tt) n bank eb, ed, number_read (row_at sequence_row) rec (row_lies sequence_row no_field (lit< tt)) (lit≤ tt) n sequence es, number_read (row_at version_row) rec (row_lies version_row no_field (lit< tt)) (lit≤ tt) n version ev)

  pub trailer_read : {c s : ℕ} → layout_answer t Trailer rec ≡ Accepted → c ≡ low_number_of (field_bytes (row_at count_row) rec)
      → s ≡ low_number_of (field_bytes (row_at total_row) rec) → record { count = c; total = s } ≡ trailer_shown rec
  unfolding layout_of row_at table
  trailer_read a ec et =
      let each = (layout_accepts t Trailer rec).0 a in
      let count = (digits t _).0 each.1.0 in
      let total = (money t _).0 each.1.1.0 in
      rw (number_read (row_at count_row) rec (row_lies count_row no_field (lit< tt)) (lit≤ tt) n count ec, number_read (row_at total_row) rec (row_lies total_row no_field (lit< tt)) (lit≤ tt) n total et)
