-- The fast path is exact: it recognizes an accepted G, and nothing else. Assumes nothing.
use Rattle.std.specs.Result.{result_ok}
use Rattle.std.specs.Prelude.{is_some, Err, None, Ok, Option, Result, Some}
use borrow.Author.Tests.{eq-eqb}
use lib.Dec.{eqb}
use Rattle.answer.specs.declared.Reason.TheVariants.{WrongLength}
use Rattle.answer.specs.declared.Refusal.{Refusal}
use Rattle.answer.specs.Orders.{require, if_accepted}
use Rattle.answer.proofs.Orders.{not_both}
use Rattle.layout.specs.declared.Record.{Record}
use Prim.Native.Nat.{ℕ, ◌+◌, ◌≤◌}
use mathlib.Core.Bool.{true, false, ◌&&◌, and-eq-true_iff}
use mathlib.Core.List.{List, []}
use mathlib.Core.Logic.{◌↔◌}
use mathlib.Core.Path.{◌≡◌, refl, ap, ◌∙◌}
use native.Mathlib.Omega.{arith}
use lib.ListN.{length, get_or, take, drop, length-drop}
use lib.Seq.{length-take-le}
use Rattle.decimal.proofs.Places.{all_inner, all_side_by_side}
use Rattle.answer.proofs.Tests.{unequal}
use Rattle.answer.specs.Answers.{Answer, Accepted, answer_of}
use Rattle.decimal.specs.declared.Class.TheVariants.{Digit, Blank, Text}
use Rattle.decimal.specs.Bytes.{is_of, all}
use Rattle.decimal.specs.LowHalves.{low_number_of}
use Rattle.decimal.specs.Numbers.{number_of}
use Rattle.decimal.proofs.Finite.{never}
use Rattle.decimal.proofs.Numbers.{low_of_digits}
use Rattle.calendar.specs.declared.Date.{Date}
use Rattle.calendar.specs.Dates.{date_of, is_found}
use Rattle.barcode.specs.declared.Fields.{Fields}
use Rattle.barcode.specs.declared.Issuer.{Issuer}
use Rattle.barcode.specs.Codes.{issuer_of}
use Rattle.barcode.specs.Agreed.{barcode_under}
use Rattle.barcode.specs.Shown.{fields_of, decoded_under, accepted_issuer}
use Rattle.layout.specs.declared.Record.TheVariants.{Header, Payment, Trailer}
use Rattle.layout.specs.Layouts.{record_length, named_by, layout_of, row_at, table, account_row, barcode_row, received_row, number_row, branch_row, capture_row, authentication_row, form_row, payment_blank_row, paid_row, credited_row, tariff_row}
use Rattle.kinds.specs.Terms.{Terms}
use Rattle.kinds.specs.Kinds.{is_capture, is_form}
use Rattle.kinds.proofs.VersionLaws.{capture_is_text}
use Rattle.record.specs.Values.{Decoded, field_in, shown_field, record_shown, shown_unless_refused, decoded_record_under, payment_due_of}
use Rattle.record.specs.declared.Contents.TheVariants as contents
use Rattle.record.specs.declared.Payment.{Payment as Shows}
use Rattle.record.specs.FastPath.{span_of, is_plain, is_coded, is_dated, looks_like_payment, fast_decoded_of}
use Rattle.record.specs.Records.{field_bytes, record_answer, record_check, is_payment}
use Rattle.record.proofs.Shown.{accepted_is, check_passes, right_fields}
use Rattle.record.proofs.FieldBytes.{places_length}
use Rattle.record.proofs.KindRules.{text, money, digits, blank, capture, form, code, date, mark}
use Rattle.record.proofs.FastPath.{named_payment, one_byte}

infixr 20 ◌and◌
◌and◌ : {A B : Type 0} → A → B → A × B
a and b = (a, b)

-- The fast path's checks of a G, and those of its fields.
module _ (t : Terms) (rec : List ℕ) where
  abbrev Plain : Type 0
  Plain = (all (is_of Text) (take 20 (drop 1 rec)) ≡ true) × (all (is_of Text) (take 32 (drop 108 rec)) ≡ true) × (all (is_of Digit) (take 27 (drop 81 rec)) ≡ true) × (all (is_of Blank) (take 9 (drop 141 rec)) ≡ true)

  plain : (is_plain rec ≡ true) ↔ Plain
  unfolding is_plain row_at table layout_of
  plain =
      let account = all (is_of Text) (field_bytes (row_at account_row) rec) in
      let behind = all (is_of Text) (span_of (row_at branch_row) (row_at authentication_row) rec) in
      let numbers = all (is_of Digit) (span_of (row_at received_row) (row_at number_row) rec) in
      let rest = all (is_of Blank) (field_bytes (row_at payment_blank_row) rec) in
      let whole = and-eq-true_iff (account && (behind && numbers)) rest in
      let parts = and-eq-true_iff account (behind && numbers) in
      let later = and-eq-true_iff behind numbers in (
        λ h. ((parts.0 (whole.0 h).0).0, (later.0 (parts.0 (whole.0 h).0).1).0, (later.0 (parts.0 (whole.0 h).0).1).1, (whole.0 h).1),
        λ p. whole.1 (parts.1 (p.0, later.1 (p.1, p.2)), p.3),
      )

  coded : (is_coded t.version rec ≡ true) ↔ ((is_capture t.version (get_or (take 1 (drop 116 rec)) 0 0) ≡ true) × (is_form t.version (get_or (take 1 (drop 140 rec)) 0 0) ≡ true))
  unfolding is_coded row_at table layout_of
  coded = and-eq-true_iff (is_capture t.version (get_or (field_bytes (row_at capture_row) rec) 0 0)) (is_form t.version (get_or (field_bytes (row_at form_row) rec) 0 0))

  dated : (is_dated rec ≡ true) ↔ ((is_found (date_of (field_bytes (row_at paid_row) rec)) ≡ true) × (is_found (date_of (field_bytes (row_at credited_row) rec)) ≡ true))
  dated = and-eq-true_iff (is_found (date_of (field_bytes (row_at paid_row) rec))) (is_found (date_of (field_bytes (row_at credited_row) rec)))

  abbrev Right : Type 0
  Right = (is_plain rec ≡ true) × (is_coded t.version rec ≡ true) × (is_dated rec ≡ true) × (barcode_under t.agreed (field_bytes (row_at barcode_row) rec) ≡ Accepted)

  module _ (n : length rec ≡ record_length) where
    holds : named_by (get_or rec 0 0) ≡ Some Payment → Right → record_answer t rec ≡ Accepted
    unfolding layout_of row_at table
    holds named right =
        let p = plain.0 right.0 in
        let c = coded.0 right.1 in
        let d = dated.0 right.2 in
        (right_fields t Payment rec n named).1
        (mark t rec n (named_payment (get_or rec 0 0) named)
        and (text t _).1 p.0
        and (date t _).1 d.0
        and (date t _).1 d.1
        and (code t _).1 right.3
        and (money t _).1 (all_inner (is_of Digit) rec 81 27 0 12 (omega arith) p.2)
        and (money t _).1 (all_inner (is_of Digit) rec 81 27 12 7 (omega arith) p.2)
        and (digits t _).1 (all_inner (is_of Digit) rec 81 27 19 8 (omega arith) p.2)
        and (text t _).1 (all_inner (is_of Text) rec 108 32 0 8 (omega arith) p.1)
        and (capture t _).1 c.0
        and (text t _).1 (all_inner (is_of Text) rec 108 32 9 23 (omega arith) p.1)
        and (form t _).1 c.1
        and (blank t _).1 p.3
        and tt)

    seen : named_by (get_or rec 0 0) ≡ Some Payment → record_answer t rec ≡ Accepted → Right
    unfolding layout_of row_at table
    seen named e =
        let each = (right_fields t Payment rec n named).0 e in
        let account = (text t _).0 each.1.0 in
        let paid = (date t _).0 each.1.1.0 in
        let credited = (date t _).0 each.1.1.1.0 in
        let code = (code t _).0 each.1.1.1.1.0 in
        let received = (money t _).0 each.1.1.1.1.1.0 in
        let tariff = (money t _).0 each.1.1.1.1.1.1.0 in
        let number = (digits t _).0 each.1.1.1.1.1.1.1.0 in
        let branch = (text t _).0 each.1.1.1.1.1.1.1.1.0 in
        let taken = (capture t _).0 each.1.1.1.1.1.1.1.1.1.0 in
        let authentication = (text t _).0 each.1.1.1.1.1.1.1.1.1.1.0 in
        let form = (form t _).0 each.1.1.1.1.1.1.1.1.1.1.1.0 in
        let rest = (blank t _).0 each.1.1.1.1.1.1.1.1.1.1.1.1.0 in
        let between = one_byte (take 1 (drop 116 rec)) (places_length rec n 117 117 (omega arith)) (capture_is_text _ _ taken) in
        let texts = all_side_by_side (is_of Text) rec 108 9 23 (all_side_by_side (is_of Text) rec 108 8 1 branch between) authentication in
        let numbers = all_side_by_side (is_of Digit) rec 81 19 8 (all_side_by_side (is_of Digit) rec 81 12 7 received tariff) number in
        (plain.1 (account, texts, numbers, rest), coded.1 (taken, form), dated.1 (paid, credited), code)

-- An accepted payment, or anything else.

payment_named : (m : Option Record) → is_payment m ≡ true → m ≡ Some Payment
payment_named (Some Header) t = never t
payment_named (Some Payment) t = refl
payment_named (Some Trailer) t = never t
payment_named None t = never t

abbrev Unseen : Terms → List ℕ → Type 0
Unseen t rec = (None ≡ payment_due_of (decoded_record_under t rec)) × (None ≡ fast_decoded_of (decoded_record_under t rec))

unseen : (t : Terms) (rec : List ℕ) → (record_answer t rec ≡ Accepted → is_payment (named_by (get_or rec 0 0)) ≡ true → ⊥) → Unseen t rec
unseen t rec h = go (record_answer t rec) (named_by (get_or rec 0 0)) h
  where
    go : (a : Answer) (m : Option Record) → (a ≡ Accepted → is_payment m ≡ true → ⊥)
        → (None ≡ payment_due_of (shown_unless_refused a (record_shown t.agreed m rec))) × (None ≡ fast_decoded_of (shown_unless_refused a (record_shown t.agreed m rec)))
    go (Err refusal) m h = (refl, refl)
    go Accepted (Some Header) h = (refl, refl)
    go Accepted (Some Payment) h = absurd (h refl refl)
    go Accepted (Some Trailer) h = (refl, refl)
    go Accepted None h = (refl, refl)

not_sized : (t : Terms) (rec : List ℕ) → (length rec ≡ record_length → ⊥) → Unseen t rec
not_sized t rec h = unseen t rec (λ a p. h (accepted_is t rec a).0)

pub not_whole : {A : Type 0} (t : Terms) (rec : List ℕ) (r : Result A Refusal)
    → answer_of r ≡ require (eqb (length rec) record_length) WrongLength 0
    → None ≡ result_ok r → Unseen t rec
not_whole t rec (Ok x) e f = let z : ◌≡◌ {A = ℕ} 0 1 = cc in absurd (omega arith)
not_whole t rec (Err refusal) e f = not_sized t rec (λ n. not_both _ refl (e ∙ rw (eq-eqb (length rec) record_length n)))

module _ (t : Terms) (rec : List ℕ) (n : length rec ≡ record_length) where
  right_when : record_answer t rec ≡ Accepted → is_payment (named_by (get_or rec 0 0)) ≡ true → Right t rec
  right_when a p = seen t rec n (payment_named _ p) a

  pub not_looking : looks_like_payment t.version rec ≡ false → Unseen t rec
  not_looking f =
      unseen t rec (λ a p. let r = right_when a p in unequal ((and-eq-true_iff (is_payment (named_by (get_or rec 0 0))) (is_plain rec && is_coded t.version rec)).1 (p, (and-eq-true_iff (is_plain rec) (is_coded t.version rec)).1 (r.0, r.1))) f)

  pub not_dated : is_dated rec ≡ false → Unseen t rec
  not_dated f = unseen t rec (λ a p. unequal (right_when a p).2 f)

  pub no_payment_date : date_of (field_bytes (row_at paid_row) rec) ≡ None → Unseen t rec
  no_payment_date e = unseen t rec (λ a p. unequal ((dated t rec).0 (right_when a p).2).0 (ap is_found e))

  pub no_credit_date : date_of (field_bytes (row_at credited_row) rec) ≡ None → Unseen t rec
  no_credit_date e = unseen t rec (λ a p. unequal ((dated t rec).0 (right_when a p).2).1 (ap is_found e))

  pub both_dates : {p c : Date} → date_of (field_bytes (row_at paid_row) rec) ≡ Some p → date_of (field_bytes (row_at credited_row) rec) ≡ Some c → is_dated rec ≡ true
  both_dates e f = (dated t rec).1 (ap is_found e, ap is_found f)

  pub no_payee : None ≡ accepted_issuer t.agreed (field_bytes (row_at barcode_row) rec) → Unseen t rec
  no_payee e = unseen t rec (λ a p. let k = rw (right_when a p).3 at e in let z : ◌≡◌ {A = ℕ} 0 1 = cc in omega arith)

  pub no_code : None ≡ result_ok (decoded_under t.agreed (field_bytes (row_at barcode_row) rec)) → Unseen t rec
  no_code e = unseen t rec (λ a p. let k = rw (right_when a p).3 at e in let z : ◌≡◌ {A = ℕ} 0 1 = cc in omega arith)

  module _ (looks : looks_like_payment t.version rec ≡ true) (dates : is_dated rec ≡ true) (right : barcode_under t.agreed (field_bytes (row_at barcode_row) rec) ≡ Accepted) where
    looked : (named_by (get_or rec 0 0) ≡ Some Payment) × (is_plain rec ≡ true) × (is_coded t.version rec ≡ true)
    looked =
        let both = (and-eq-true_iff (is_payment (named_by (get_or rec 0 0))) (is_plain rec && is_coded t.version rec)).0 looks in
        let more = (and-eq-true_iff (is_plain rec) (is_coded t.version rec)).0 both.1 in
        (payment_named _ both.0, more.0, more.1)

    accepted : record_answer t rec ≡ Accepted
    accepted = holds t rec n looked.0 (looked.1, looked.2, dates, right)

    -- a stretch of the digits behind the barcode
    low : (j m : ℕ) → j + m ≤ 27 → m ≤ 19 → {c : ℕ} → c ≡ low_number_of (take m (drop (81 + j) rec)) → c ≡ number_of (take m (drop (81 + j) rec))
    low j m h w e =
        let l : length (take m (drop (81 + j) rec)) ≡ m = length-take-le m (drop (81 + j) rec) (omega (arith, length-drop (81 + j) rec)) in
        e ∙ low_of_digits (take m (drop (81 + j) rec)) (all_inner (is_of Digit) rec 81 27 j m (omega arith) ((plain t rec).0 looked.1).2) (omega arith)

    pub pays_it : {i : Issuer} {c y : ℕ} → i ≡ issuer_of (field_bytes (row_at barcode_row) rec) → c ≡ low_number_of (field_bytes (row_at received_row) rec)
        → y ≡ low_number_of (field_bytes (row_at tariff_row) rec) → Some (record { issuer = i; received = c; tariff = y }) ≡ payment_due_of (decoded_record_under t rec)
    unfolding row_at table layout_of
    pays_it ei ec ey = rw (accepted, looked.0, ei, low 0 12 (omega arith) (omega arith) ec, low 12 7 (omega arith) (omega arith) ey)

    pub shows_it : {p c : Date} {f : Fields} {r y n : ℕ} → date_of (field_bytes (row_at paid_row) rec) ≡ Some p → date_of (field_bytes (row_at credited_row) rec) ≡ Some c
        → f ≡ fields_of t.agreed (field_bytes (row_at barcode_row) rec) → r ≡ low_number_of (field_bytes (row_at received_row) rec) → y ≡ low_number_of (field_bytes (row_at tariff_row) rec)
        → n ≡ low_number_of (field_bytes (row_at number_row) rec)
        → Some (record { paid = p; credited = c; barcode = f; received = r; tariff = y; number = n }) ≡ fast_decoded_of (decoded_record_under t rec)
    unfolding row_at table layout_of
    shows_it ep ec ef er et en = rw (accepted, looked.0, ep, ec, ef, low 0 12 (omega arith) (omega arith) er, low 12 7 (omega arith) (omega arith) et, low 19 8 (omega arith) (omega arith) en)

-- What is not whole shows no field.
pub not_whole_shown : {A : Type 0} (t : Terms) (row : ℕ) (rec : List ℕ) (r : Result A Refusal) {refusal : Refusal}
    → answer_of r ≡ require (eqb (length rec) record_length) WrongLength 0
    → r ≡ Err refusal → [] ≡ shown_field t row rec
not_whole_shown t row rec r e f = go (record_check t rec) refl
  where
    go : (a : Answer) → record_check t rec ≡ a → [] ≡ if_accepted a (field_in (named_by (get_or rec 0 0)) row rec) []
    go Accepted h =
        let n = (accepted_is t rec (check_passes t rec h)).0 in
        not_both _ refl (rw (f, eq-eqb (length rec) record_length n) at e)
    go (Err refusal) h = refl

-- What is seen was accepted.

pub paid_accepted : (t : Terms) (rec : List ℕ) → is_some (payment_due_of (decoded_record_under t rec)) ≡ true → Accepted ≡ record_answer t rec
paid_accepted t rec e = go (record_answer t rec) e
  where
    go : (a : Answer) → is_some (payment_due_of (shown_unless_refused a (record_shown t.agreed (named_by (get_or rec 0 0)) rec))) ≡ true → Accepted ≡ a
    go Accepted e = refl
    go (Err refusal) e = never e

pub seen_shown : (d : Decoded) {p : Shows} → Some p ≡ fast_decoded_of d → Ok (contents.Payment p) ≡ d
seen_shown (Ok (contents.Header h)) e = let z : ◌≡◌ {A = ℕ} 0 1 = cc in absurd (omega arith)
seen_shown (Ok (contents.Payment q)) e = cc
seen_shown (Ok (contents.Trailer t)) e = let z : ◌≡◌ {A = ℕ} 0 1 = cc in absurd (omega arith)
seen_shown (Err refusal) e = let z : ◌≡◌ {A = ℕ} 0 1 = cc in absurd (omega arith)

pub other_shown : (t : Terms) (rec : List ℕ) → None ≡ fast_decoded_of (decoded_record_under t rec) → record_answer t rec ≡ Accepted → is_payment (named_by (get_or rec 0 0)) ≡ false
other_shown t rec e a = go (named_by (get_or rec 0 0)) (rw a at e)
  where
    go : (m : Option Record) → None ≡ fast_decoded_of (record_shown t.agreed m rec) → is_payment m ≡ false
    go (Some Header) e = refl
    go (Some Payment) e = let z : ◌≡◌ {A = ℕ} 0 1 = cc in absurd (omega arith)
    go (Some Trailer) e = refl
    go None e = refl
