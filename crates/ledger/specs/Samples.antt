-- The worked file (SPEC.md, "Samples"), a day past 32 bits, and other histories, each from a fresh session.
-- Assumes nothing.
use Rattle.std.specs.Prelude.{ℕ, zero, suc, ◌+◌, true, List, [], ◌∷◌, ◌++◌, map, ◌≡◌, replicate}
use Rattle.answer.specs.Answers.{Answer}
use Rattle.answer.specs.Refusals.{answer_number, answer_place}
use Rattle.decimal.specs.Numbers.{digits_of}
use Rattle.barcode.specs.declared.Issuer.{Issuer}
use Rattle.barcode.specs.Agreed.{key_of}
use Rattle.barcode.specs.Building.{built_of}
use Rattle.kinds.specs.Terms.{version04, version06}
use Rattle.kinds.specs.Kinds.{service_of}
use Rattle.file.specs.Forms.{in_form}
use Rattle.board.specs.declared.Tally.{Tally}
use Rattle.board.specs.declared.Lane.{Lane}
use Rattle.board.specs.Lanes.{empty_tally}
use Rattle.session.specs.Sessions.{fresh_session, finish_of}
use Rattle.ledger.specs.Ledgers.{Step, taking, abandoning}
use Rattle.ledger.specs.Promises.{answers_of, reached, shown_lanes}

-- The records: 150 bytes each, the texts blank.

abbrev pub blanks : ℕ → List ℕ
blanks n = replicate n 32

-- by its agreement, 20 bytes, its bank, its number and its version
abbrev pub header_with : List ℕ → ℕ → ℕ → ℕ → List ℕ
header_with agreement bank number version =
    65 ∷ 50 ∷ agreement
    ++ (blanks 20 ++ (digits_of 3 bank ++ (blanks 20 ++ (digits_of 8 20230102 ++ (digits_of 6 number
    ++ (digits_of 2 version ++ (service_of 79 ++ blanks 52)))))))

abbrev pub header_of : ℕ → ℕ → List ℕ
header_of version number = header_with (blanks 20) 1 number version

abbrev pub header : List ℕ
header = header_of version04 1

-- the barcode of P4 (SPEC.md, "Samples"), its line without the four box checks, and its issuer
abbrev pub code : List ℕ
code = digits_of 44 81770000000_01093659970_41131079703_00143370831

abbrev pub sample_issuer : Issuer
sample_issuer = record { segment = 1; number = 3659 }

abbrev pub payment_with : List ℕ → ℕ → ℕ → ℕ → ℕ → List ℕ
payment_with barcode received tariff capture form =
    71 ∷ blanks 20
    ++ (digits_of 8 20230102 ++ (digits_of 8 20230103 ++ (barcode ++ (digits_of 12 received ++ (digits_of 7 tariff
    ++ (digits_of 8 1 ++ (blanks 8 ++ (capture ∷ blanks 23 ++ (form ∷ blanks 9)))))))))

-- without tariff, capture `1` and payment form `1`
abbrev pub payment_by : List ℕ → ℕ → List ℕ
payment_by barcode received = payment_with barcode received 0 49 49

abbrev pub payment : ℕ → List ℕ
payment received = payment_by code received

-- a payment to an issuer whose number has four digits, with a barcode of kind 7, value and free field zero
abbrev pub payment_to : Issuer → ℕ → List ℕ
payment_to i received = payment_by (built_of i 7 0 (digits_of 25 0)) received

abbrev pub trailer : ℕ → ℕ → List ℕ
trailer count total = 90 ∷ digits_of 6 count ++ (digits_of 17 total ++ blanks 126)

-- The outcome of steps, with the numbers of SPEC.md, "Refusals".

pub record Answered : Type 0 where
  pub number : ℕ
  pub place : ℕ

abbrev pub answered_of : Answer → Answered
answered_of a = record { number = answer_number a; place = answer_place a }

abbrev pub accepted : Answered
accepted = record { number = 0; place = 0 }

abbrev pub refused : ℕ → ℕ → Answered
refused number place = record { number = number; place = place }

-- the answers to the records, the answer to finishing after them, the lanes shown and their sum
pub record Outcome : Type 0 where
  pub answers : List Answered
  pub finish : Answered
  pub lanes : List Lane
  pub total : Tally

abbrev pub outcome_of : List Step → Outcome
outcome_of steps =
    record {
      answers = map answered_of (answers_of fresh_session steps);
      finish = answered_of (finish_of (reached steps)).answer;
      lanes = shown_lanes steps;
      total = (reached steps).shown.total;
    }

-- nothing is shown, or one lane of P4's issuer; the tally of payments without tariff
abbrev pub nothing : List Answered → Answered → Outcome
nothing answers finish = record { answers = answers; finish = finish; lanes = []; total = empty_tally }

abbrev pub one_lane : List Answered → Tally → Outcome
one_lane answers t =
    record { answers = answers; finish = accepted; lanes = record { issuer = sample_issuer; tally = t } ∷ []; total = t }

abbrev pub tally : ℕ → ℕ → Tally
tally payments centavos = record { payments = payments; centavos = centavos; tariff = 0 }

-- a record taken under the empty list
abbrev pub plain : List ℕ → Step
plain rec = taking [] rec

pub record Sample : Type 0 where
  pub steps : List Step
  pub outcome : Outcome

-- SPEC.md, "Samples", the worked page: one G with the barcode of P4 and 109 centavos received
abbrev pub worked : Sample
worked =
    record {
      steps = plain header ∷ plain (payment 109) ∷ plain (trailer 3 109) ∷ [];
      outcome = one_lane (accepted ∷ accepted ∷ accepted ∷ []) (tally 1 109);
    }

-- a day of two files whose one lane passes 4,294,967,296 centavos
abbrev pub past : Sample
past =
    record {
      steps =
          plain header ∷ plain (payment 4_294_967_295) ∷ plain (trailer 3 4_294_967_295)
          ∷ plain (header_of version04 2) ∷ plain (payment 2) ∷ plain (payment 999_999_999_999)
          ∷ plain (trailer 4 1_000_000_000_001) ∷ [];
      outcome = one_lane (replicate 7 accepted) (tally 3 1_004_294_967_296);
    }

-- the file stays open when its Z is refused: 13, 14, then the right one
abbrev pub again : Sample
again =
    record {
      steps =
          plain header ∷ plain (payment 109)
          ∷ plain (trailer 2 109) ∷ plain (trailer 3 1) ∷ plain (trailer 3 109) ∷ [];
      outcome = one_lane (accepted ∷ accepted ∷ refused 13 2 ∷ refused 14 8 ∷ accepted ∷ []) (tally 1 109);
    }

-- an abandoned file leaves no payment behind, and A is expected again
abbrev pub left : Sample
left =
    record {
      steps = plain header ∷ plain (payment 109) ∷ abandoning ∷ plain (payment 109) ∷ abandoning ∷ plain header ∷ [];
      outcome = nothing (accepted ∷ accepted ∷ refused 9 1 ∷ accepted ∷ []) (refused 19 0);
    }

-- G and Z without a file, A in a file, no bytes at all, and no records
abbrev pub astray : Sample
astray =
    record {
      steps = plain (payment 109) ∷ plain (trailer 2 0) ∷ plain [] ∷ plain header ∷ plain header ∷ abandoning ∷ [];
      outcome = nothing (refused 9 1 ∷ refused 9 1 ∷ refused 1 0 ∷ accepted ∷ refused 9 1 ∷ []) accepted;
    }

abbrev pub empty : Sample
empty = record { steps = []; outcome = nothing [] accepted }

-- code 3659 in segments 1 and 2 is two issuers; lanes are in order of first appearance, and an abandoned file has none
abbrev pub other_issuer : Issuer
other_issuer = record { segment = 2; number = 3659 }

abbrev pub ordered : Sample
ordered =
    record {
      steps =
          plain header ∷ plain (payment 5) ∷ abandoning
          ∷ plain header ∷ plain (payment_to other_issuer 10) ∷ plain (payment 20) ∷ plain (payment_to other_issuer 30)
          ∷ plain (trailer 5 60) ∷ [];
      outcome =
          record {
            answers = replicate 7 accepted;
            finish = accepted;
            lanes =
                record { issuer = other_issuer; tally = tally 2 40 }
                ∷ record { issuer = sample_issuer; tally = tally 1 20 } ∷ [];
            total = tally 3 60;
          };
    }

-- 64 issuers, then a 65th, refused 17 at 53, then the first again
abbrev pub many_issuers : ℕ → ℕ → List Step
many_issuers zero n = []
many_issuers (suc left) n = plain (payment_to (record { segment = 1; number = n }) 1) ∷ many_issuers left (n + 1)

abbrev pub crowded : Sample
crowded =
    record {
      steps = plain header ∷ (many_issuers 65 1 ++ many_issuers 1 1);
      outcome = nothing (replicate 65 accepted ++ (refused 17 53 ∷ accepted ∷ [])) (refused 19 0);
    }

-- a payment of 1 centavo with these two codes, as bytes
abbrev pub coded : ℕ → ℕ → Step
coded capture form = plain (payment_with code 1 0 capture form)

-- each header decides for its own file. In a 06 file captures `7`, `9` and `i` and forms `4` and `6` are known, `j` and
-- form `7` are not, and an A of version 04, refused there, changes nothing. A 06 file that is abandoned leaves no
-- version behind, and a header that says 05 is refused 10 at 80. In the 04 file after that `7` and `9` are refused, 12
-- at 117, and form `4`, 12 at 141, while `f` and form `3` are accepted.
abbrev pub versions : Sample
versions =
    record {
      steps =
          plain (header_of version06 1) ∷ coded 55 49 ∷ plain (header_of version04 2) ∷ coded 57 52 ∷ coded 105 54
          ∷ coded 106 49 ∷ coded 49 55 ∷ plain (trailer 5 3)
          ∷ plain (header_of version06 2) ∷ abandoning ∷ plain (header_of 5 2) ∷ plain (header_of version04 2)
          ∷ coded 55 49 ∷ coded 57 49 ∷ coded 49 52 ∷ coded 102 51 ∷ plain (trailer 3 1) ∷ [];
      outcome =
          one_lane
          (accepted ∷ accepted ∷ refused 9 1 ∷ accepted ∷ accepted ∷ refused 12 117 ∷ refused 12 141 ∷ accepted
          ∷ accepted ∷ refused 10 80 ∷ accepted
          ∷ refused 12 117 ∷ refused 12 117 ∷ refused 12 141 ∷ accepted ∷ accepted ∷ [])
          (tally 4 4);
    }

-- a record with CR and LF behind it
abbrev pub with_line_end : List ℕ → Step
with_line_end rec = plain (in_form true rec)

-- a lined file, whose header decides: a payment with CR and LF is accepted; one without, with CR alone, with LF and CR
-- or with one byte more is not, 22 at 151 or 1; then the last one, sent again with its line end, is. The trailer too
-- must have its line end, and its figures come first: 13, 14, 22. An A of 150 bytes is 9 there.
abbrev pub lined : Sample
lined =
    record {
      steps =
          with_line_end header ∷ with_line_end (payment 109) ∷ plain (payment 5) ∷ plain (payment 5 ++ (13 ∷ []))
          ∷ plain (payment 5 ++ (10 ∷ 13 ∷ [])) ∷ plain (payment 5 ++ (13 ∷ 10 ∷ 13 ∷ []))
          ∷ with_line_end (payment 5) ∷ plain header ∷ with_line_end header
          ∷ plain (trailer 3 114) ∷ plain (trailer 4 109) ∷ plain (trailer 4 114) ∷ with_line_end (trailer 4 114) ∷ [];
      outcome =
          one_lane
          (accepted ∷ accepted ∷ refused 22 151 ∷ refused 22 151 ∷ refused 22 151 ∷ refused 1 0 ∷ accepted
          ∷ refused 9 1 ∷ refused 9 1 ∷ refused 13 2 ∷ refused 14 8 ∷ refused 22 151 ∷ accepted ∷ [])
          (tally 2 114);
    }

-- lengths where a header is expected, and in a bare file: an A of 151 bytes or of 152 that end otherwise is 1, 152
-- bytes that end in CR and LF and start with G are 9; in the bare file behind it a payment with CR and LF is 1. After
-- its trailer a lined file may come, and an abandoned one leaves no form behind.
abbrev pub bare : Sample
bare =
    record {
      steps =
          plain (header ++ (13 ∷ [])) ∷ plain (header ++ (13 ∷ 13 ∷ [])) ∷ with_line_end (payment 109) ∷ plain header
          ∷ with_line_end (payment 109) ∷ plain (payment 109 ++ (13 ∷ [])) ∷ plain (payment 109)
          ∷ with_line_end (trailer 3 109) ∷ plain (trailer 3 109)
          ∷ with_line_end (header_of version04 2) ∷ with_line_end (payment 1) ∷ with_line_end (trailer 3 1)
          ∷ with_line_end (header_of version04 3) ∷ abandoning ∷ plain (header_of version04 3) ∷ plain (trailer 2 0) ∷ [];
      outcome =
          one_lane
          (refused 1 0 ∷ refused 1 0 ∷ refused 9 1 ∷ accepted ∷ refused 1 0 ∷ refused 1 0 ∷ accepted ∷ refused 1 0
          ∷ accepted ∷ accepted ∷ accepted ∷ accepted ∷ accepted ∷ accepted ∷ accepted ∷ [])
          (tally 2 110);
    }

-- Lists: P4's issuer and one of segment 6 agreed on due dates. P4's G has no date and is refused 11 at 57, that of
-- segment 6 at 61; P4's is accepted under the empty list, and one with a date under both: each record has its own list.
-- A list with an issuer twice or with 0 is 25, before 9 and 1 too, also with a Z.
abbrev pub long_issuer : Issuer
long_issuer = record { segment = 6; number = 33041260 }

abbrev pub both_agreed : List ℕ
both_agreed = key_of sample_issuer ∷ key_of long_issuer ∷ []

abbrev pub dated_payment : ℕ → ℕ → List ℕ
dated_payment date received = payment_by (built_of sample_issuer 7 0 (digits_of 8 date ++ digits_of 17 0)) received

abbrev pub lists : Sample
lists =
    record {
      steps =
          taking (both_agreed ++ both_agreed) header ∷ taking (0 ∷ []) [] ∷ taking both_agreed header
          ∷ taking both_agreed (payment 109) ∷ taking both_agreed (payment_by (built_of long_issuer 7 0 (digits_of 21 0)) 1)
          ∷ taking both_agreed (dated_payment 20190901 1) ∷ taking both_agreed (dated_payment 20190931 1)
          ∷ plain (payment 109) ∷ plain (dated_payment 20190901 1)
          ∷ taking (both_agreed ++ both_agreed) (trailer 5 111) ∷ taking both_agreed (trailer 5 111) ∷ [];
      outcome =
          one_lane
          (refused 25 0 ∷ refused 25 0 ∷ accepted ∷ refused 11 57 ∷ refused 11 61 ∷ accepted ∷ refused 11 57 ∷ accepted
          ∷ accepted ∷ refused 25 0 ∷ accepted ∷ [])
          (tally 3 111);
    }

abbrev pub samples : List Sample
samples = worked ∷ past ∷ again ∷ left ∷ astray ∷ empty ∷ ordered ∷ crowded ∷ versions ∷ lined ∷ bare ∷ lists ∷ []

-- Promise: each sample has its stated outcome.
abbrev pub Hold : List Sample → Type 0
Hold ss = map (λ (s : Sample). outcome_of s.steps) ss ≡ map (λ (s : Sample). s.outcome) ss
