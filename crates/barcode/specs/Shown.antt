-- What a barcode shows (SPEC.md, "Barcode"): its fields and its free field if it is accepted; the refusal and no bytes
-- if it is refused. Assumes nothing.
use Rattle.answer.specs.declared.Refusal.{Refusal}
use Rattle.std.specs.Prelude.{Result, Err, None, Ok, Option, Some, ℕ, List, []}
use Rattle.answer.specs.Answers.{Refused, Answer}
use Rattle.answer.specs.Answers as answer
use Rattle.answer.specs.Orders.{if_accepted}
use Rattle.decimal.specs.Numbers.{number_of}
use Rattle.decimal.specs.Places.{part_at}
use Rattle.barcode.specs.declared.Issuer.{Issuer}
use Rattle.barcode.specs.declared.Fields.{Fields}
use Rattle.barcode.specs.Codes.{digit_at, value, issuer_of, free_of}
use Rattle.barcode.specs.Agreed.{due_of, barcode_under, barcode_check}

-- the fields; a due date only of an issuer that agreed on due dates
abbrev pub fields_of : List ℕ → List ℕ → Fields
fields_of agreed code =
    record {
      kind = digit_at 3 code;
      value = number_of (part_at value code);
      issuer = issuer_of code;
      due = due_of agreed (issuer_of code) (free_of code);
    }

-- the fields of an accepted barcode, or its refusal
abbrev pub Decoded : Type 0
Decoded = Result Fields Refusal

abbrev pub decoded : Answer → Fields → Decoded
decoded answer.Accepted fields = Ok fields
decoded (Err refusal) fields = Err refusal

abbrev pub no_fields : Fields
no_fields = record { kind = 0; value = 0; issuer = record { segment = 0; number = 0 }; due = None }

-- under a list that was judged, and as a caller asks it: 25 before everything
abbrev pub decoded_under : List ℕ → List ℕ → Decoded
decoded_under agreed code = decoded (barcode_under agreed code) (fields_of agreed code)

abbrev pub decoded_barcode : List ℕ → List ℕ → Decoded
decoded_barcode agreed code = decoded (barcode_check agreed code) (fields_of agreed code)

abbrev pub shown_free : List ℕ → List ℕ → List ℕ
shown_free agreed code = if_accepted (barcode_check agreed code) (free_of code) []

-- the issuer of a barcode that is accepted under a list that was judged
abbrev pub issuer_if_accepted : Answer → Issuer → Option Issuer
issuer_if_accepted answer.Accepted issuer = Some issuer
issuer_if_accepted (Err refusal) issuer = None

abbrev pub accepted_issuer : List ℕ → List ℕ → Option Issuer
accepted_issuer agreed code = issuer_if_accepted (barcode_under agreed code) (issuer_of code)
