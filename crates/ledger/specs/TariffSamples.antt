-- Histories of payments with tariffs (SPEC.md, "Board"), each from a fresh session. Assumes nothing.
use Rattle.std.specs.Prelude.{ℕ, List, [], ◌∷◌, replicate}
use Rattle.barcode.specs.Building.{built_of}
use Rattle.decimal.specs.Numbers.{digits_of}
use Rattle.kinds.specs.Terms.{version06}
use Rattle.board.specs.declared.Tally.{Tally}
use Rattle.ledger.specs.Ledgers.{abandoning}
use Rattle.ledger.specs.Samples.{header_of, header, code, sample_issuer, other_issuer, payment_with, trailer}
use Rattle.ledger.specs.Samples.{accepted, refused, one_lane, plain, with_line_end, Sample, Hold}

-- a payment of P4's issuer and of the other one, by the centavos received and the tariff
abbrev pub charged : ℕ → ℕ → List ℕ
charged received tariff = payment_with code received tariff 49 49

abbrev pub other_charged : ℕ → ℕ → List ℕ
other_charged received tariff = payment_with (built_of other_issuer 7 0 (digits_of 25 0)) received tariff 49 49

abbrev pub sums : ℕ → ℕ → ℕ → Tally
sums payments centavos tariff = record { payments = payments; centavos = centavos; tariff = tariff }

-- each lane has the tariffs of its issuer, over two files, one of them lined and of version 06; a payment of 0 centavos
-- has its tariff too
abbrev pub two_lanes : Sample
two_lanes =
    record {
      steps =
          plain header ∷ plain (charged 109 135) ∷ plain (other_charged 0 9_999_999) ∷ plain (charged 20 0)
          ∷ plain (trailer 5 129)
          ∷ with_line_end (header_of version06 2) ∷ with_line_end (other_charged 7 210) ∷ with_line_end (charged 1 6)
          ∷ with_line_end (trailer 4 8) ∷ [];
      outcome =
          record {
            answers = replicate 9 accepted;
            finish = accepted;
            lanes =
                record { issuer = sample_issuer; tally = sums 3 130 141 }
                ∷ record { issuer = other_issuer; tally = sums 2 7 10_000_209 } ∷ [];
            total = sums 5 137 10_000_350;
          };
    }

-- what is refused or abandoned adds no tariff; a Z counts what was received alone: one with the tariff in its total is
-- 14 at 8
abbrev pub not_charged : Sample
not_charged =
    record {
      steps =
          plain header ∷ plain (charged 5 50) ∷ abandoning ∷ plain (charged 5 50)
          ∷ plain header ∷ plain (charged 7 70) ∷ plain (payment_with code 9 90 122 49)
          ∷ plain (trailer 3 77) ∷ plain (trailer 3 7) ∷ [];
      outcome =
          one_lane
          (accepted ∷ accepted ∷ refused 9 1 ∷ accepted ∷ accepted ∷ refused 12 117 ∷ refused 14 8 ∷ accepted ∷ [])
          (sums 1 7 70);
    }

-- Promise: each has its stated outcome.
abbrev pub TariffsHold : Type 0
TariffsHold = Hold (two_lanes ∷ not_charged ∷ [])
