-- A run over many records against the ledger: what the program `quadro` shows. Assumes nothing.
use Rattle.std.specs.Prelude.{ℕ, zero, suc, ◌+◌, Bool, true, false, cond, List, [], ◌∷◌, map, ◌≡◌, ltb, length, get_or, take, drop}
use Rattle.answer.specs.Answers.{Answer, Accepted}
use Rattle.answer.specs.Orders.{Each}
use Rattle.barcode.specs.Agreed.{RightList}
use Rattle.layout.specs.Layouts.{record_length}
use Rattle.file.specs.Forms.{next_length}
use Rattle.board.specs.Boards.{board_with_all}
use Rattle.pairs.specs.Pairs.{memory_with}
use Rattle.session.specs.declared.RunResult.{RunResult}
use Rattle.session.specs.declared.Session.{Session}
use Rattle.session.specs.Sessions.{fresh_session, closed_at, pair_in}
use Rattle.session.specs.Runs.{least_left, pieces_of, run_of, bytes_of}
use Rattle.ledger.specs.Ledgers.{Ledger, fresh_ledger, lanes_of_records, is_open, is_open_lined, ledger_check, Step, taking, ledger_step, ledger_answers}
use Rattle.ledger.specs.Promises.{answers_of, reached, ledger_of}
use Rattle.ledger.specs.WholeFiles.{Whole, records_of, all_in_form, file_of, AllAccepted}

-- the pieces that a run cuts, each by the ledger that those before it left
abbrev pub ledger_piece_length : Ledger → List ℕ → ℕ
ledger_piece_length k bytes = next_length (is_open k.opened) (is_open_lined k.opened) bytes

abbrev pub ledger_piece_of : Ledger → List ℕ → List ℕ
ledger_piece_of k bytes = take (ledger_piece_length k bytes) bytes

abbrev pub ledger_pieces_up_to : List ℕ → ℕ → Ledger → Bool → List ℕ → List (List ℕ)
ledger_pieces_up_to agreed zero k more bytes = []
ledger_pieces_up_to agreed (suc n) k more bytes =
    cond (ltb (length bytes) (least_left more)) []
    (ledger_piece_of k bytes
    ∷ ledger_pieces_up_to agreed n (ledger_step k (taking agreed (ledger_piece_of k bytes))) more
    (drop (ledger_piece_length k bytes) bytes))

abbrev pub ledger_pieces : List ℕ → Ledger → Bool → List ℕ → List (List ℕ)
ledger_pieces agreed k more bytes = ledger_pieces_up_to agreed (length bytes) k more bytes

-- the records that a run took, as steps
abbrev pub steps_of : List ℕ → List (List ℕ) → RunResult → List Step
steps_of agreed recs r = map (taking agreed) (take r.records recs)

-- the ledger's answer to the first record that is left
abbrev pub next_ledger_answer : List ℕ → Ledger → List (List ℕ) → Answer
next_ledger_answer agreed k [] = Accepted
next_ledger_answer agreed k (rec ∷ recs) = ledger_check agreed k rec

-- Promises.

-- The pieces of the bytes of records in one form are those records, if the session's open file, if it has one, is of
-- that form. Where they are bare, none begins with byte 13: a header and bytes 13 and 10 would be read as lined.
abbrev pub PiecesAreTheRecords : Type 0
PiecesAreTheRecords =
    (agreed : List ℕ) (s : Session) (lined : Bool) (recs : List (List ℕ))
    → (s.opened ≡ true → s.file.lined ≡ lined)
    → Each (λ (rec : List ℕ). (length rec ≡ record_length) × (lined ≡ false → get_or rec 0 0 ≡ 13 → ⊥)) recs
    → pieces_of agreed s false (bytes_of (all_in_form lined recs)) ≡ all_in_form lined recs

-- of any session with no file open: a run over the bytes of a file, lined or bare, whose records are all accepted takes
-- them all, and that one file
abbrev pub FileBytesRun : Type 0
FileBytesRun =
    (agreed : List ℕ) (s : Session) (lined : Bool) (a : List ℕ) (recs : List (List ℕ)) (z : List ℕ)
    → s.opened ≡ false → Whole agreed a recs z
    → AllAccepted (answers_of s (file_of agreed lined a recs z))
    → let bytes = bytes_of (all_in_form lined (records_of a recs z)) in
    run_of agreed s false bytes
    ≡ record {
      answer = Accepted;
      session = closed_at (board_with_all s.shown (lanes_of_records recs)) (memory_with s.memory (pair_in a));
      records = length recs + 2;
      files = 1;
      bytes = length bytes;
    }

-- under a right list, whatever the bytes, and whether more are to follow or not, a run from a fresh session takes
-- records that the ledger accepts, which are the first `bytes` of the input, and stops with the ledger's answer to the
-- next; its session is the one that they reach, and its files are the ledger's. If it is accepted, no record is left.
abbrev pub RunIsTheLedgers : Type 0
RunIsTheLedgers =
    (agreed : List ℕ) (more : Bool) (bytes : List ℕ) → RightList agreed
    → let r = run_of agreed fresh_session more bytes in
    let pieces = ledger_pieces agreed fresh_ledger more bytes in
    let steps = steps_of agreed pieces r in
    (r.session ≡ reached steps) × (r.files ≡ length (ledger_of steps).accepted)
    × AllAccepted (ledger_answers fresh_ledger steps)
    × (bytes_of (take r.records pieces) ≡ take r.bytes bytes)
    × (length (bytes_of (take r.records pieces)) ≡ r.bytes)
    × (r.answer ≡ next_ledger_answer agreed (ledger_of steps) (drop r.records pieces))
    × (r.answer ≡ Accepted → r.records ≡ length pieces)
