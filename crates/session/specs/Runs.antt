-- A run: many records of one slice, taken one by one until the first refusal (SPEC.md, "Sessions"). Assumes nothing.
use Rattle.std.specs.Prelude.{Err, None, Option, Some, ℕ, zero, suc, ◌+◌, ◌<◌, Bool, true, cond, List, [], ◌∷◌, ◌++◌, ◌≡◌, ltb, length, get_or, take, drop}
use Rattle.layout.specs.declared.Record.{Record}
use Rattle.answer.specs.declared.Reason.TheVariants.{WrongList}
use Rattle.answer.specs.Answers.{Answer, Accepted, Refused}
use Rattle.barcode.specs.Agreed.{list_answer, RightList}
use Rattle.layout.specs.declared.Record.TheVariants.{Header, Payment, Trailer}
use Rattle.layout.specs.Layouts.{named_by}
use Rattle.file.specs.Forms.{lined_length, next_length}
use Rattle.session.specs.declared.Session.{Session}
use Rattle.session.specs.declared.RunResult.{RunResult}
use Rattle.session.specs.Sessions.{take_answer, next_session, take_under, take_of}

-- the next piece: in an open file as long as its records are; with no file open 152 bytes if they end in CR and LF,
-- else 150. The last piece may be shorter.
abbrev pub piece_length : Session → List ℕ → ℕ
piece_length s bytes = next_length s.opened s.file.lined bytes

abbrev pub piece_of : Session → List ℕ → List ℕ
piece_of s bytes = take (piece_length s bytes) bytes

-- A run takes pieces while any byte is left. If more bytes are to follow, it takes none of fewer than 152 bytes: they
-- may be a part of a record, and CR and LF may follow them.
abbrev pub least_left : Bool → ℕ
least_left more = cond more lined_length 1

-- the pieces of a run, each by the session that those before it left
abbrev pub pieces_up_to : List ℕ → ℕ → Session → Bool → List ℕ → List (List ℕ)
pieces_up_to agreed zero s more bytes = []
pieces_up_to agreed (suc n) s more bytes =
    cond (ltb (length bytes) (least_left more)) []
    (piece_of s bytes
    ∷ pieces_up_to agreed n (take_under agreed s (piece_of s bytes)).session more (drop (piece_length s bytes) bytes))

-- there are no more pieces than bytes
abbrev pub pieces_of : List ℕ → Session → Bool → List ℕ → List (List ℕ)
pieces_of agreed s more bytes = pieces_up_to agreed (length bytes) s more bytes

-- how many files an accepted record closes
abbrev pub files_closed : Option Record → ℕ
files_closed (Some Header) = 0
files_closed (Some Payment) = 0
files_closed (Some Trailer) = 1
files_closed None = 0

-- no record taken
abbrev pub empty_run : Answer → Session → RunResult
empty_run a s = record { answer = a; session = s; records = 0; files = 0; bytes = 0 }

-- so many records, files and bytes more
abbrev pub add_counts : ℕ → ℕ → ℕ → RunResult → RunResult
add_counts records files bytes r =
    record {
      answer = r.answer;
      session = r.session;
      records = records + r.records;
      files = files + r.files;
      bytes = bytes + r.bytes;
    }

-- a refused record ends the run and changes nothing; the records before it stay taken
abbrev pub stopped_if_refused : Answer → Session → RunResult → RunResult
stopped_if_refused Accepted s next = next
stopped_if_refused (Err refusal) s next = empty_run (Err refusal) s

abbrev pub run_all : List ℕ → Session → List (List ℕ) → RunResult
run_all agreed s [] = empty_run Accepted s
run_all agreed s (r ∷ rs) =
    stopped_if_refused (take_answer agreed s r) s
    (add_counts 1 (files_closed (named_by (get_or r 0 0))) (length r) (run_all agreed (next_session agreed s r) rs))

-- under a list that was judged
abbrev pub run_under : List ℕ → Session → Bool → List ℕ → RunResult
run_under agreed s more bytes = run_all agreed s (pieces_of agreed s more bytes)

-- as a caller asks it: the list is judged once, and under a wrong one nothing is taken
abbrev pub run_of : List ℕ → Session → Bool → List ℕ → RunResult
run_of agreed s more bytes = stopped_if_refused (list_answer agreed) s (run_under agreed s more bytes)

-- the bytes of records, or of buffers, with nothing between them
abbrev pub bytes_of : List (List ℕ) → List ℕ
bytes_of [] = []
bytes_of (rec ∷ recs) = rec ++ bytes_of recs

-- Promise: under a right list, a run of any session takes the pieces that it cuts one by one. Its session is the one
-- after those that it took, each accepted, and they are the first `bytes` of the input; its answer is the answer to the
-- next piece, and if it is accepted no piece is left.

abbrev pub AllTaken : List ℕ → Session → List (List ℕ) → Type 0
AllTaken agreed s [] = Unit {0}
AllTaken agreed s (r ∷ rs) =
    ((take_of agreed s r).answer ≡ Accepted) × AllTaken agreed (take_of agreed s r).session rs

abbrev pub session_after_all : List ℕ → Session → List (List ℕ) → Session
session_after_all agreed s [] = s
session_after_all agreed s (r ∷ rs) = session_after_all agreed (take_of agreed s r).session rs

abbrev pub next_answer : List ℕ → Session → List (List ℕ) → Answer
next_answer agreed s [] = Accepted
next_answer agreed s (r ∷ rs) = (take_of agreed s r).answer

abbrev pub RunIsItsTakes : Type 0
RunIsItsTakes =
    (agreed : List ℕ) (s : Session) (more : Bool) (bytes : List ℕ) → RightList agreed
    → let r = run_of agreed s more bytes in
    let pieces = pieces_of agreed s more bytes in
    let taken = take r.records pieces in
    AllTaken agreed s taken × (r.session ≡ session_after_all agreed s taken)
    × (bytes_of taken ≡ take r.bytes bytes) × (length (bytes_of taken) ≡ r.bytes)
    × (r.answer ≡ next_answer agreed r.session (drop r.records pieces))
    × (r.answer ≡ Accepted → r.records ≡ length pieces)

-- Promise: under a wrong list a run answers 25 with no place, takes nothing and leaves its session, whatever the bytes.
abbrev pub WrongListTakesNothing : Type 0
WrongListTakesNothing =
    (agreed : List ℕ) (s : Session) (more : Bool) (bytes : List ℕ) → ¬ RightList agreed
    → run_of agreed s more bytes ≡ empty_run (Refused WrongList 0) s

-- Promise: if it is accepted, fewer bytes are left than a piece needs: none, or if more are to follow at most 151.
abbrev pub RunLeavesFew : Type 0
RunLeavesFew =
    (agreed : List ℕ) (s : Session) (more : Bool) (bytes : List ℕ) → (run_of agreed s more bytes).answer ≡ Accepted
    → length bytes < (run_of agreed s more bytes).bytes + least_left more

-- Promise, of any split of an input: a run over the front, if more is to follow, and then one over what it left and the
-- rest, under the same list, are one run over both; a refusal in the front is the refusal of both together.
abbrev pub FeedingIsOneRun : Type 0
FeedingIsOneRun =
    (agreed : List ℕ) (s : Session) (more : Bool) (front rest : List ℕ)
    → let r = run_of agreed s true front in
    (r.answer ≡ Accepted
    → add_counts r.records r.files r.bytes (run_of agreed r.session more (drop r.bytes front ++ rest))
    ≡ run_of agreed s more (front ++ rest))
    × ((r.answer ≡ Accepted → ⊥) → r ≡ run_of agreed s more (front ++ rest))
