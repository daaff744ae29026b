-- The ledger: a second meaning of the records, from their bytes, with no session, no board and no memory (SPEC.md,
-- "Sessions" and "Sequence numbers"). Of the board it has the type of a lane, as plain data, and the two limits as
-- numbers; of the memory which number follows another, and how many pairs there can be. Assumes nothing.
-- `Maybe` is the code's Option, by which a first byte names a record; `Option` is the logic's.
use Rattle.std.specs.Prelude.{ℕ, ◌+◌, Bool, true, false, cond, ◌&&◌, Option as Maybe, None, Some, List, [], ◌∷◌, ◌++◌, map, eqb, ltb, leb, length, get_or}
use Rattle.std.proofs.Math.Option.{Option, none, some}
use Rattle.answer.specs.Refusals.{received_place, tariff_place, issuer_place, sequence_place, agreement_place}
use Rattle.answer.specs.declared.Reason.TheVariants.{WrongLength, NotExpected, CountDiffers, TotalDiffers, FileFull, FileTotalPassed, BoardFull, BoardTotalPassed, NotFollowing, PairsFull}
use Rattle.answer.specs.Answers.{Answer, Accepted}
use Rattle.answer.specs.Orders.{require, ◌then◌, if_accepted}
use Rattle.barcode.specs.declared.Issuer.{Issuer}
use Rattle.barcode.specs.Codes.{issuer_of}
use Rattle.barcode.specs.Agreed.{list_answer}
use Rattle.layout.specs.declared.Record.{Record}
use Rattle.layout.specs.declared.Record.TheVariants.{Header, Payment, Trailer}
use Rattle.layout.specs.Layouts.{named_by, row_at, agreement_row, bank_row, sequence_row, barcode_row, received_row, tariff_row}
use Rattle.record.specs.Records.{field_bytes, record_answer}
use Rattle.kinds.specs.Kinds.{same}
use Rattle.kinds.specs.Terms.{Terms, told}
use Rattle.record.specs.Values.{number_in, version_in, trailer_shown}
use Rattle.file.specs.Files.{most_payments, most_centavos, count_place, total_place}
use Rattle.file.specs.Forms.{body_of, has_line_end, fits_length, end_answer}
use Rattle.board.specs.declared.Lane.{Lane}
use Rattle.board.specs.Lanes.{most_lanes, limit}
use Rattle.pairs.specs.Pairs.{most_pairs, follows}

-- an open file as received: the 150 bytes of its header and of its payment records, the latest last, and whether CR and
-- LF followed each
pub record Opened : Type 0 where
  pub header : List ℕ
  pub payments : List (List ℕ)
  pub lined : Bool

-- an accepted file: its trailer's bytes too
pub record Filed : Type 0 where
  pub header : List ℕ
  pub payments : List (List ℕ)
  pub trailer : List ℕ
  pub lined : Bool

-- the accepted files, the latest last, and the open file if there is one
pub record Ledger : Type 0 where
  pub accepted : List Filed
  pub opened : Option Opened

abbrev pub fresh_ledger : Ledger
fresh_ledger = record { accepted = []; opened = none }

-- Read off payment records.

-- the payment records of files, in order of arrival
abbrev pub payment_records : List Filed → List (List ℕ)
payment_records [] = []
payment_records (f ∷ fs) = f.payments ++ payment_records fs

abbrev pub open_records : Option Opened → List (List ℕ)
open_records none = []
open_records (some f) = f.payments

-- the issuer that a payment record names, in its barcode, the centavos that it received, and its tariff
abbrev pub issuer_named : List ℕ → Issuer
issuer_named rec = issuer_of (field_bytes (row_at barcode_row) rec)

abbrev pub received_by : List ℕ → ℕ
received_by rec = number_in received_row rec

abbrev pub tariff_of : List ℕ → ℕ
tariff_of rec = number_in tariff_row rec

-- each payment record as a lane of one
abbrev pub lane_of_record : List ℕ → Lane
lane_of_record rec =
    record {
      issuer = issuer_named rec;
      tally = record { payments = 1; centavos = received_by rec; tariff = tariff_of rec };
    }

abbrev pub lanes_of_records : List (List ℕ) → List Lane
lanes_of_records recs = map lane_of_record recs

-- what they received, and their tariffs
abbrev pub received_in : List (List ℕ) → ℕ
received_in [] = 0
received_in (rec ∷ recs) = received_by rec + received_in recs

abbrev pub tariff_in : List (List ℕ) → ℕ
tariff_in [] = 0
tariff_in (rec ∷ recs) = tariff_of rec + tariff_in recs

-- two issuers are the same if their segments and their numbers are
abbrev pub equal_issuers : Issuer → Issuer → Bool
equal_issuers i j = eqb i.segment j.segment && eqb i.number j.number

-- those that name this issuer
abbrev pub of_issuer : Issuer → List (List ℕ) → List (List ℕ)
of_issuer i [] = []
of_issuer i (rec ∷ recs) = cond (equal_issuers (issuer_named rec) i) (rec ∷ of_issuer i recs) (of_issuer i recs)

-- the issuers that they name, each at its first appearance, without those seen before
abbrev pub is_seen : Issuer → List Issuer → Bool
is_seen i [] = false
is_seen i (j ∷ js) = cond (equal_issuers j i) true (is_seen i js)

abbrev pub issuers_named : List Issuer → List (List ℕ) → List Issuer
issuers_named seen [] = []
issuers_named seen (rec ∷ recs) =
    cond (is_seen (issuer_named rec) seen) (issuers_named seen recs)
    (issuer_named rec ∷ issuers_named (seen ++ (issuer_named rec ∷ [])) recs)

-- Read off headers.

abbrev pub headers_of : List Filed → List (List ℕ)
headers_of files = map (λ (f : Filed). f.header) files

-- the sequence number that a header shows
abbrev pub number_shown : List ℕ → ℕ
number_shown a = number_in sequence_row a

-- two headers are of one pair if the bytes of their banks and of their agreements are the same
abbrev pub are_of_one_pair : List ℕ → List ℕ → Bool
are_of_one_pair a b =
    same (field_bytes (row_at bank_row) a) (field_bytes (row_at bank_row) b)
    && same (field_bytes (row_at agreement_row) a) (field_bytes (row_at agreement_row) b)

-- the first of two numbers that is there
abbrev pub first_of : Option ℕ → Option ℕ → Option ℕ
first_of none o = o
first_of (some n) o = some n

-- the number of the last of these headers that is of this one's pair, if one is: those behind a header are asked first
abbrev pub latest_number : List ℕ → List (List ℕ) → Option ℕ
latest_number a [] = none
latest_number a (h ∷ hs) = first_of (latest_number a hs) (cond (are_of_one_pair h a) (some (number_shown h)) none)

-- whether one of these headers is of this one's pair
abbrev pub is_pair_seen : List ℕ → List (List ℕ) → Bool
is_pair_seen a [] = false
is_pair_seen a (h ∷ hs) = cond (are_of_one_pair h a) true (is_pair_seen a hs)

-- the headers that are the first of their pair, without the pairs seen before
abbrev pub first_of_pairs : List (List ℕ) → List (List ℕ) → List (List ℕ)
first_of_pairs seen [] = []
first_of_pairs seen (h ∷ hs) =
    cond (is_pair_seen h seen) (first_of_pairs seen hs) (h ∷ first_of_pairs (seen ++ (h ∷ [])) hs)

-- whether a file is open, and whether it is lined; without one, not
abbrev pub is_open : Option Opened → Bool
is_open none = false
is_open (some f) = true

abbrev pub is_open_lined : Option Opened → Bool
is_open_lined none = false
is_open_lined (some f) = f.lined

-- The answer to a record.

-- with no file open A is expected; in an open file G or Z
abbrev pub ledger_expects : Option Opened → Maybe Record → Bool
ledger_expects none (Some Header) = true
ledger_expects none (Some Payment) = false
ledger_expects none (Some Trailer) = false
ledger_expects none None = false
ledger_expects (some f) (Some Header) = false
ledger_expects (some f) (Some Payment) = true
ledger_expects (some f) (Some Trailer) = true
ledger_expects (some f) None = false

-- 17: these payments name more issuers than a board has lanes; 18: their number or what they received passes the limit,
-- and then, at its own place, their tariffs do
abbrev pub limits_answer : List (List ℕ) → Answer
limits_answer recs =
    require (leb (length (issuers_named [] recs)) most_lanes) BoardFull issuer_place
    then require (leb (length recs) limit && leb (received_in recs) limit) BoardTotalPassed received_place
    then require (leb (tariff_in recs) limit) BoardTotalPassed tariff_place

-- a G: 15, 16 from the open file's payments; 17, 18 from those of all accepted files, the open one and it
abbrev pub payment_state_answer : List Filed → Opened → List ℕ → Answer
payment_state_answer files f r =
    require (ltb (length f.payments) most_payments) FileFull 1
    then require (leb (received_in f.payments + received_by r) most_centavos) FileTotalPassed received_place
    then limits_answer ((payment_records files ++ f.payments) ++ (r ∷ []))

-- a Z: 13, the number of the file's records, A and Z included; 14, what its payments received
abbrev pub trailer_state_answer : Opened → List ℕ → Answer
trailer_state_answer f rec =
    require (eqb (trailer_shown rec).count (length f.payments + 2)) CountDiffers count_place
    then require (eqb (trailer_shown rec).total (received_in f.payments)) TotalDiffers total_place

-- an A: 26, its number does not follow that of the latest accepted file of its pair; 27, with it the headers of the
-- accepted files are of more pairs than a memory has
abbrev pub header_state_answer : List Filed → List ℕ → Answer
header_state_answer files a =
    require (follows (latest_number a (headers_of files)) (number_shown a)) NotFollowing sequence_place
    then require (leb (length (first_of_pairs [] (headers_of files ++ (a ∷ [])))) most_pairs) PairsFull agreement_place

-- with no file open only an A gets this far
abbrev pub state_answer : List Filed → Option Opened → Maybe Record → List ℕ → Answer
state_answer files none (Some Header) rec = header_state_answer files rec
state_answer files none (Some Payment) rec = Accepted
state_answer files none (Some Trailer) rec = Accepted
state_answer files none None rec = Accepted
state_answer files (some f) (Some Header) rec = Accepted
state_answer files (some f) (Some Payment) rec = payment_state_answer files f rec
state_answer files (some f) (Some Trailer) rec = trailer_state_answer f rec
state_answer files (some f) None rec = Accepted

-- the version that a header's own bytes name; a record of the open file is read under that of its header, and under the
-- list that is lent with it. With no file open only an A gets this far, which ignores both.
abbrev pub header_terms : List ℕ → List ℕ → Terms
header_terms agreed a = told (version_in a) agreed

abbrev pub open_version : Option Opened → ℕ
open_version none = 0
open_version (some f) = version_in f.header

abbrev pub ledger_terms : List ℕ → Option Opened → Terms
ledger_terms agreed o = told (open_version o) agreed

-- taking a record, under a list of agreed issuers that was judged: 1; then, of its first 150 bytes, 9, its own refusals
-- and the ledger's; last 22
abbrev pub ledger_answer : List ℕ → Ledger → List ℕ → Answer
ledger_answer agreed k rec =
    require (fits_length (is_open k.opened) (is_open_lined k.opened) rec) WrongLength 0
    then require (ledger_expects k.opened (named_by (get_or rec 0 0))) NotExpected 1
    then record_answer (ledger_terms agreed k.opened) (body_of rec)
    then state_answer k.accepted k.opened (named_by (get_or rec 0 0)) (body_of rec)
    then end_answer (is_open k.opened) (is_open_lined k.opened) rec

-- as a caller asks it: 25 before everything, whatever the record
abbrev pub ledger_check : List ℕ → Ledger → List ℕ → Answer
ledger_check agreed k rec = list_answer agreed then ledger_answer agreed k rec

-- The ledger that follows.

-- an open file with its trailer
abbrev pub filed_with : Opened → List ℕ → Filed
filed_with f z = record { header = f.header; payments = f.payments; trailer = z; lined = f.lined }

-- an accepted A opens a file, lined if CR and LF follow it (`ended`), a G is added to it, a Z closes it: it is then an
-- accepted file
abbrev pub with_record : List Filed → Option Opened → Maybe Record → Bool → List ℕ → Ledger
with_record files none named ended rec =
    record { accepted = files; opened = some (record { header = rec; payments = []; lined = ended }) }
with_record files (some f) (Some Header) ended rec = record { accepted = files; opened = some f }
with_record files (some f) (Some Payment) ended rec =
    record {
      accepted = files;
      opened = some (record { header = f.header; payments = f.payments ++ (rec ∷ []); lined = f.lined });
    }
with_record files (some f) (Some Trailer) ended rec = record { accepted = files ++ (filed_with f rec ∷ []); opened = none }
with_record files (some f) None ended rec = record { accepted = files; opened = some f }

-- the ledger with a record, if it is accepted
abbrev pub next_ledger : Ledger → List ℕ → Ledger
next_ledger k rec = with_record k.accepted k.opened (named_by (get_or rec 0 0)) (has_line_end rec) (body_of rec)

-- taking a record of any bytes, under the list that is lent with it, or abandoning the open file
pub data Step : Type 0 where
  taking : List ℕ → List ℕ → Step
  abandoning : Step

-- a refused record changes nothing; abandoning drops the open file
abbrev pub ledger_step : Ledger → Step → Ledger
ledger_step k (taking agreed rec) = if_accepted (ledger_check agreed k rec) (next_ledger k rec) k
ledger_step k abandoning = record { accepted = k.accepted; opened = none }

abbrev pub ledger_after : Ledger → List Step → Ledger
ledger_after k [] = k
ledger_after k (step ∷ steps) = ledger_after (ledger_step k step) steps

-- the answers to the records taken, one after the other
abbrev pub ledger_answers : Ledger → List Step → List Answer
ledger_answers k [] = []
ledger_answers k (taking agreed rec ∷ steps) =
    ledger_check agreed k rec ∷ ledger_answers (ledger_step k (taking agreed rec)) steps
ledger_answers k (abandoning ∷ steps) = ledger_answers (ledger_step k abandoning) steps
