-- What the ledger reads off payment records, against the session and the board. Assumes nothing.
use Rattle.std.specs.Prelude.{ℕ, List, [], ◌∷◌, ◌++◌, ◌≡◌}
use Rattle.barcode.specs.declared.Issuer.{Issuer}
use Rattle.record.specs.Values.{payment_shown}
use Rattle.board.specs.Lanes.{same_issuer, lanes_from, issuers_of}
use Rattle.board.specs.Boards.{answer_after}
use Rattle.session.specs.Sessions.{lane_of_payment}
use Rattle.ledger.specs.Ledgers.{lane_of_record, lanes_of_records, equal_issuers, issuers_named, limits_answer}

-- Promises.

-- a record's lane of one is the session's, and issuers are the same if the board says so
abbrev pub LaneIsTheSessions : Type 0
LaneIsTheSessions = (agreed rec : List ℕ) → lane_of_record rec ≡ lane_of_payment (payment_shown agreed rec)

abbrev pub EqualIsTheBoards : Type 0
EqualIsTheBoards = (i j : Issuer) → equal_issuers i j ≡ same_issuer i j

-- the issuers named are those of the board's lanes, in the same order
abbrev pub IssuersAreTheLanes : Type 0
IssuersAreTheLanes = (recs : List (List ℕ)) → issuers_of (lanes_from (lanes_of_records recs)) ≡ issuers_named [] recs

-- 17 and 18 are the board's, for one payment after others
abbrev pub LimitsAreTheBoards : Type 0
LimitsAreTheBoards =
    (recs : List (List ℕ)) (rec : List ℕ)
    → answer_after (lanes_of_records recs) (lane_of_record rec) ≡ limits_answer (recs ++ (rec ∷ []))
