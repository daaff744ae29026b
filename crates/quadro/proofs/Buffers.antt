-- A run counts no more records, files and bytes than it has bytes, and what the program's steps over a buffer return.
-- Assumes nothing.
use Rattle.std.specs.Prelude.{Result, Ok, Err, None, Option, Some}
use Rattle.layout.specs.declared.Record.{Record}
use Prim.Native.Nat.{ℕ, zero, suc, ◌-◌, ◌≤◌}
use mathlib.Core.Bool.{Bool, true, false, cond}
use mathlib.Core.List.{List, [], ◌∷◌}
use mathlib.Core.Path.{◌≡◌, ap, subst}
use native.Mathlib.Omega.{arith}
use borrow.Author.Tests.{eqb-false}
use lib.Dec.{ltb, eqb}
use lib.ListN.{length, get_or, take, drop, length-drop}
use lib.Seq.{length-take-le}
use Rattle.answer.specs.declared.Reason.{Reason}
use Rattle.answer.specs.Answers.{Answer, Accepted, Refused}
use Rattle.answer.specs.Orders.{◌then◌}
use Rattle.answer.proofs.Tests.{split}
use Rattle.layout.specs.declared.Record.TheVariants.{Header, Payment, Trailer}
use Rattle.layout.specs.Layouts.{named_by}
use Rattle.barcode.proofs.Lists.{empty_is_right}
use Rattle.session.specs.declared.Session.{Session}
use Rattle.session.specs.Sessions.{take_answer, next_session, take_under, finish_of}
use Rattle.session.specs.declared.RunResult.{RunResult}
use Rattle.session.specs.Runs.{piece_length, piece_of, least_left, pieces_up_to, pieces_of, files_closed, add_counts, stopped_if_refused, run_all, run_of}
use Rattle.session.proofs.Feeding.{run_right}
use Rattle.day.specs.Days.{ended_of}
use Rattle.day.proofs.Inputs.{taken_within}
use Rattle.quadro.specs.Buffers.{Counted, ReadError, buffer_read, EndsBelow}

-- at most n records and n files
abbrev Few : ℕ → RunResult → Type 0
Few n r = (r.records ≤ n) × (r.files ≤ n)

closed_few : (n : Option Record) → files_closed n ≤ 1
closed_few (Some Header) = omega arith
closed_few (Some Payment) = omega arith
closed_few (Some Trailer) = omega arith
closed_few None = omega arith

one_more :
    (a : Answer) (s : Session) (closed size n : ℕ) (next : RunResult) → closed ≤ 1 → Few n next
    → Few (suc n) (stopped_if_refused a s (add_counts 1 closed size next))
one_more Accepted s closed size n next h c = (omega arith, omega arith)
one_more (Err refusal) s closed size n next h c = (omega arith, omega arith)

all_few : (agreed : List ℕ) (s : Session) (rs : List (List ℕ)) → Few (length rs) (run_all agreed s rs)
all_few agreed s [] = (omega arith, omega arith)
all_few agreed s (r ∷ rs) =
    let named = named_by (get_or r 0 0) in
    let next = next_session agreed s r in
    one_more (take_answer agreed s r) s (files_closed named) (length r) (length rs) (run_all agreed next rs) (closed_few named) (all_few agreed next rs)

pieces_few : (agreed : List ℕ) (n : ℕ) (s : Session) (more : Bool) (bytes : List ℕ) → length (pieces_up_to agreed n s more bytes) ≤ n
pieces_few agreed zero s more bytes = omega arith
pieces_few agreed (suc n) s more bytes =
    go (ltb (length bytes) (least_left more)) (pieces_up_to agreed n next more left) (pieces_few agreed n next more left)
  where
    next : Session
    next = (take_under agreed s (piece_of s bytes)).session

    left : List ℕ
    left = drop (piece_length s bytes) bytes

    go : (t : Bool) (later : List (List ℕ)) → length later ≤ n → length (cond t [] (piece_of s bytes ∷ later)) ≤ suc n
    go true later h = omega arith
    go false later h = omega arith

run_few : (s : Session) (more : Bool) (bytes : List ℕ) → Counted (length bytes) (run_of [] s more bytes)
run_few s more bytes =
    let all = all_few [] s (pieces_of [] s more bytes) in
    let few = pieces_few [] (length bytes) s more bytes in
    let same = run_right [] s more bytes empty_is_right in
    let within = taken_within s more bytes in
    rw same (omega (arith, all.0), omega (arith, all.1), rw same at within)

-- What the program's steps return.

-- the first n bytes of a buffer
pub few_run :
    (s : Session) (more : Bool) (buf : List ℕ) (n : ℕ) {r : RunResult} → n ≤ length buf → r ≡ run_of [] s more (take n buf)
    → Counted n r
few_run s more buf n h e =
    let few = run_few s more (take n buf) in
    let l = length-take-le n buf h in
    rw e (omega (arith, few.0), omega (arith, few.1), omega (arith, few.2))

abbrev answered : RunResult → Answer → RunResult
answered day a =
    record { answer = a; session = day.session; records = day.records; files = day.files; bytes = day.bytes }

pub ended_refused :
    (day : RunResult) {why : Reason} {place : ℕ} → day.answer ≡ Refused why place → day ≡ ended_of day
ended_refused day e =
    let same : day.answer ≡ (day.answer then (finish_of day.session).answer) = rw e in
    ap (answered day) same

-- a read of at most n bytes fills a buffer of n, or the input ended
pub read_within : (n k : ℕ) → k ≤ n → EndsBelow n (buffer_read n (Ok k))
read_within n k h = split (EndsBelow n) (eqb k n) (λ e. tt) (λ e. omega (arith, eqb-false k n e))

-- the bytes behind the first `kept`, as the code passes them
pub ends_behind :
    (buf : List ℕ) (kept : ℕ) (r : Result ℕ ReadError)
    → let n = length (take (length buf - kept) (drop kept buf)) in EndsBelow n (buffer_read n r)
    → EndsBelow (length buf - kept) (buffer_read (length buf - kept) r)
ends_behind buf kept r w =
    subst (λ (n : ℕ). EndsBelow n (buffer_read n r))
    (length-take-le (length buf - kept) (drop kept buf) (omega (arith, length-drop kept buf))) w
