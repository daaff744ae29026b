-- Laws of what a barcode shows: from its parts and its answer, and back. Assumes nothing.
use Rattle.std.specs.Prelude.{Err, Ok, Option, Some}
use Rattle.calendar.specs.declared.Date.{Date}
use Prim.Native.Nat.{ℕ, ◌+◌, ◌-◌}
use mathlib.Core.Bool.{true}
use mathlib.Core.List.{List}
use mathlib.Core.Path.{◌≡◌, refl, ap, ◌∙◌}
use native.Mathlib.Omega.{arith}
use lib.ListN.{length, take, drop}
use Rattle.answer.specs.Answers.{Answer, Accepted}
use Rattle.decimal.specs.declared.Class.TheVariants.{Digit}
use Rattle.decimal.specs.Bytes.{is_of, all}
use Rattle.decimal.specs.LowHalves.{low_number_of}
use Rattle.barcode.specs.declared.Fields.{Fields}
use Rattle.barcode.specs.declared.Issuer.{Issuer}
use Rattle.barcode.specs.Codes.{digit_at, issuer_end, issuer_of, free_of, barcode_answer}
use Rattle.barcode.specs.Agreed.{due_of, due_answer, barcode_under}
use Rattle.barcode.specs.Shown.{fields_of, decoded, decoded_under, issuer_if_accepted, accepted_issuer}
use Rattle.barcode.proofs.Codes.{part_number}

-- from its parts

pub as_free : (code : List ℕ) {e s : ℕ} → e ≡ issuer_end s → s ≡ digit_at 2 code → take (44 - e) (drop e code) ≡ free_of code
as_free code {e} h i =
    let n : issuer_end (digit_at 2 code) + 1 - 1 ≡ e = omega (arith, h ∙ ap issuer_end i) in
    rw n

pub as_fields : (agreed code : List ℕ) → length code ≡ 44 → all (is_of Digit) code ≡ true
    → {i : Issuer} {k v : ℕ} {free : List ℕ} {d : Option Date} → i ≡ issuer_of code → k ≡ digit_at 3 code
    → v ≡ low_number_of (take 11 (drop 4 code)) → free ≡ free_of code → d ≡ due_of agreed i free
    → ◌≡◌ {A = Fields} (record { kind = k; value = v; issuer = i; due = d }) (fields_of agreed code)
as_fields agreed code n a ei ek ev ef ed =
    let fv = part_number code n a 4 11 (omega arith) (omega arith) ev in
    rw (ed, ek, fv, ef, ei)

-- from its answer

module _ (agreed code : List ℕ) where
  pub under_due : {a : Answer} → barcode_answer code ≡ Accepted → a ≡ due_answer agreed code → a ≡ barcode_under agreed code
  under_due e h = rw e h

-- and back

pub issuer_tells : (agreed code : List ℕ) {i : Issuer} → Some i ≡ accepted_issuer agreed code → (barcode_under agreed code ≡ Accepted) × (i ≡ issuer_of code)
issuer_tells agreed code {i} e = go (barcode_under agreed code) e
  where
    go : (a : Answer) → Some i ≡ issuer_if_accepted a (issuer_of code) → (a ≡ Accepted) × (i ≡ issuer_of code)
    go Accepted f = (refl, cc)
    go (Err refusal) f = let z : ◌≡◌ {A = ℕ} 0 1 = cc in absurd (omega arith)

-- a barcode that is read was accepted, and these are its fields
pub read_tells : (agreed code : List ℕ) {f : Fields} → Ok f ≡ decoded_under agreed code → (barcode_under agreed code ≡ Accepted) × (f ≡ fields_of agreed code)
read_tells agreed code {f} e = go (barcode_under agreed code) e
  where
    go : (a : Answer) → Ok f ≡ decoded a (fields_of agreed code) → (a ≡ Accepted) × (f ≡ fields_of agreed code)
    go Accepted g = (refl, cc)
    go (Err refusal) g = let z : ◌≡◌ {A = ℕ} 0 1 = cc in absurd (omega arith)
