-- Histories of sequence numbers (SPEC.md, "Sequence numbers"), each from a fresh session. Assumes nothing.
use Rattle.std.specs.Prelude.{ℕ, zero, suc, ◌+◌, List, [], ◌∷◌, ◌++◌, replicate}
use Rattle.kinds.specs.Terms.{version04, version06}
use Rattle.ledger.specs.Ledgers.{Step, abandoning}
use Rattle.ledger.specs.Samples.{blanks, header_with, header_of, header, payment, trailer, accepted, refused}
use Rattle.ledger.specs.Samples.{nothing, one_lane, tally, plain, with_line_end, Sample, Hold}

-- a file without payments: its header, and its trailer
abbrev pub empty_file : List ℕ → List Step
empty_file a = plain a ∷ plain (trailer 2 0) ∷ []

-- a header of the samples' pair with this number
abbrev pub numbered : ℕ → List ℕ
numbered number = header_of version04 number

-- a file loaded twice: its header is 26 at 74, and so, with no file open, its payment and its trailer are 9. A number
-- left out is 26 too. The next one is accepted, of the other version and with line ends, and then neither comes again.
abbrev pub twice : Sample
twice =
    record {
      steps =
          plain header ∷ plain (payment 109) ∷ plain (trailer 3 109)
          ∷ plain header ∷ plain (payment 109) ∷ plain (trailer 3 109) ∷ plain (numbered 3)
          ∷ with_line_end (header_of version06 2) ∷ with_line_end (trailer 2 0) ∷ plain header ∷ plain (numbered 2) ∷ [];
      outcome =
          one_lane
          (accepted ∷ accepted ∷ accepted ∷ refused 26 74 ∷ refused 9 1 ∷ refused 9 1 ∷ refused 26 74
          ∷ accepted ∷ accepted ∷ refused 26 74 ∷ refused 26 74 ∷ [])
          (tally 1 109);
    }

-- the first number may be any: 1 follows 999999, and 0 does not; 1 follows 0 too
abbrev pub around : Sample
around =
    record {
      steps =
          empty_file (numbered 999_998) ++ (empty_file (numbered 999_999)
          ++ (plain (numbered 0) ∷ plain (numbered 999_999) ∷ empty_file (numbered 1)));
      outcome =
          nothing
          (accepted ∷ accepted ∷ accepted ∷ accepted ∷ refused 26 74 ∷ refused 26 74 ∷ accepted ∷ accepted ∷ [])
          accepted;
    }

abbrev pub from_zero : Sample
from_zero =
    record {
      steps = empty_file (numbered 0) ++ (plain (numbered 0) ∷ plain (numbered 2) ∷ empty_file (numbered 1));
      outcome = nothing (accepted ∷ accepted ∷ refused 26 74 ∷ refused 26 74 ∷ accepted ∷ accepted ∷ []) accepted;
    }

-- a number is remembered when Z is accepted, not before: after a refused Z and abandoning it may come again, and so may
-- another one, since no file of the pair was accepted
abbrev pub not_yet : Sample
not_yet =
    record {
      steps =
          plain (numbered 7) ∷ plain (trailer 3 0) ∷ abandoning ∷ plain (numbered 7) ∷ abandoning
          ∷ (empty_file (numbered 5) ++ (plain (numbered 6) ∷ abandoning ∷ plain (numbered 7) ∷ empty_file (numbered 6)));
      outcome =
          nothing
          (accepted ∷ refused 13 2 ∷ accepted ∷ accepted ∷ accepted ∷ accepted ∷ refused 26 74 ∷ accepted ∷ accepted
          ∷ [])
          accepted;
    }

-- the text PS0001
abbrev pub ps0001 : List ℕ
ps0001 = 80 ∷ 83 ∷ 48 ∷ 48 ∷ 48 ∷ 49 ∷ []

-- a pair is the bank and the agreement, byte for byte: one agreement of banks 341 and 237 is two pairs, and so is one
-- text at the left and at the right of its field. The header's own fields come first, 26 behind them.
abbrev pub apart : Sample
apart =
    record {
      steps =
          empty_file (header_with (ps0001 ++ blanks 14) 341 9 version04)
          ++ (empty_file (header_with (ps0001 ++ blanks 14) 237 9 version04)
          ++ (empty_file (header_with (blanks 14 ++ ps0001) 237 9 version04)
          ++ (plain (header_with (ps0001 ++ blanks 14) 341 9 version04)
          ∷ plain (header_with (ps0001 ++ blanks 14) 341 9 5) ∷ [])));
      outcome = nothing (replicate 6 accepted ++ (refused 26 74 ∷ refused 10 80 ∷ [])) accepted;
    }

-- so many files, each of another bank, from this one on
abbrev pub many_pairs : ℕ → ℕ → List Step
many_pairs zero bank = []
many_pairs (suc left) bank = empty_file (header_with (blanks 20) bank 1 version04) ++ many_pairs left (bank + 1)

-- 16 pairs, then a 17th, 27 at 3. A remembered one may go on, and its wrong number is still 26.
abbrev pub seventeenth : Sample
seventeenth =
    record {
      steps =
          many_pairs 16 1
          ++ (plain (header_with (blanks 20) 17 1 version04) ∷ plain (header_with (blanks 20) 1 1 version04)
          ∷ (empty_file (header_with (blanks 20) 1 2 version04) ++ (plain (header_with (blanks 20) 17 1 version04) ∷ [])));
      outcome =
          nothing
          (replicate 32 accepted ++ (refused 27 3 ∷ refused 26 74 ∷ accepted ∷ accepted ∷ refused 27 3 ∷ []))
          accepted;
    }

-- Promise: each history has its stated outcome.
abbrev pub NumbersHold : Type 0
NumbersHold = Hold (twice ∷ around ∷ from_zero ∷ not_yet ∷ apart ∷ seventeenth ∷ [])
