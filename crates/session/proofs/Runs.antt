-- A run, piece by piece. Assumes nothing.
use Rattle.std.specs.Prelude.{Ok, Err}
use Rattle.answer.specs.declared.Refusal.{Refusal}
use Rattle.answer.specs.Answers.{◌gives◌, Answer, Accepted, Refused}
use Rattle.answer.proofs.Orders.{gives_tells, gives_refuses}
use Prim.Native.Nat.{ℕ, zero, suc, ◌+◌, ◌-◌, ◌≤◌, ◌<◌, min}
use mathlib.Core.Bool.{Bool, true, false, cond}
use mathlib.Core.List.{List, [], ◌∷◌}
use mathlib.Core.Logic.{⊎_elim}
use mathlib.Core.Path.{◌≡◌, refl, sym, ap, ◌∙◌}
use native.Mathlib.Nat.{add_assoc, add-zero, zero-add}
use native.Mathlib.Omega.{arith}
use borrow.Author.Tests.{lt-ltb, le-ltb}
use lib.Dec.{ltb}
use lib.ListN.{length, get_or, take, drop, length-take, length-drop, drop_of_length-le}
use lib.Seq.{take_all, drop-drop, get_or-take, get_or-drop}
use Rattle.answer.specs.declared.Reason.{Reason}
use Rattle.answer.proofs.Tests.{lt_or_le}
use Rattle.layout.specs.Layouts.{named_by}
use Rattle.file.specs.Forms.{is_next_lined}
use Rattle.file.proofs.Forms.{at_least_bare}
use Rattle.session.specs.declared.Session.{Session}
use Rattle.session.specs.declared.RunResult.{RunResult}
use Rattle.session.specs.Sessions.{TakeResult, take_answer, next_session, take_under}
use Rattle.session.specs.declared.leading.LeadingPayments.{LeadingPayments}
use Rattle.session.specs.Runs.{piece_length, piece_of, least_left, pieces_up_to, pieces_of, files_closed, empty_run, add_counts, run_under}
use Rattle.session.specs.LeadingPayments.{with_leading, LeadingPaymentsOf}

-- a piece is not empty, and needs a byte
pub piece_some : (s : Session) (bytes : List ℕ) → 0 < piece_length s bytes
piece_some s bytes = omega (arith, at_least_bare (is_next_lined s.opened s.file.lined bytes))

pub least_some : (more : Bool) → 0 < least_left more
least_some true = omega arith
least_some false = omega arith

-- The pieces.

none_up_to : (agreed : List ℕ) (n : ℕ) (s : Session) (more : Bool) (bytes : List ℕ) → length bytes < least_left more → pieces_up_to agreed n s more bytes ≡ []
none_up_to agreed zero s more bytes h = refl
none_up_to agreed (suc n) s more bytes h = rw (lt-ltb (length bytes) (least_left more) h)

-- more fuel than bytes changes nothing
fuel : (agreed : List ℕ) (n m : ℕ) (s : Session) (more : Bool) (bytes : List ℕ) → length bytes ≤ n → length bytes ≤ m
    → pieces_up_to agreed n s more bytes ≡ pieces_up_to agreed m s more bytes
fuel agreed zero m s more bytes h k = sym (none_up_to agreed m s more bytes (omega (arith, least_some more)))
fuel agreed (suc n) zero s more bytes h k = none_up_to agreed (suc n) s more bytes (omega (arith, least_some more))
fuel agreed (suc n) (suc m) s more bytes h k =
    let size = piece_length s bytes in
    let l = length-drop size bytes in
    ap (λ (ps : List (List ℕ)). cond (ltb (length bytes) (least_left more)) [] (piece_of s bytes ∷ ps))
    (fuel agreed n m (take_under agreed s (piece_of s bytes)).session more (drop size bytes) (omega (arith, piece_some s bytes)) (omega (arith, piece_some s bytes)))

pub pieces_cons : (agreed : List ℕ) (s : Session) (more : Bool) (bytes : List ℕ) → least_left more ≤ length bytes
    → pieces_of agreed s more bytes
    ≡ piece_of s bytes ∷ pieces_of agreed (take_under agreed s (piece_of s bytes)).session more (drop (piece_length s bytes) bytes)
pieces_cons agreed s more [] h = absurd (omega (arith, least_some more))
pieces_cons agreed s more (b ∷ bytes) h =
    let all = b ∷ bytes in
    let size = piece_length s all in
    let l = length-drop size all in
    rw (le-ltb (length all) (least_left more) h)
    (ap (λ (ps : List (List ℕ)). piece_of s all ∷ ps)
    (fuel agreed (length bytes) (length (drop size all)) (take_under agreed s (piece_of s all)).session more (drop size all) (omega (arith, piece_some s all)) (omega arith)))

-- The run: no piece is left, the next is refused, or the run goes on behind it.

pub run_none : (agreed : List ℕ) (s : Session) (more : Bool) (bytes : List ℕ) → length bytes < least_left more → run_under agreed s more bytes ≡ empty_run Accepted s
run_none agreed s more bytes h = rw (none_up_to agreed (length bytes) s more bytes h)

-- a record taken alone, as its answer and the session behind it
module _ (agreed : List ℕ) (s : Session) (rec : List ℕ) where
  pub session_given : {next : Session} → take_answer agreed s rec gives next_session agreed s rec ≡ Ok next
      → ◌≡◌ {A = TakeResult} (record { answer = Accepted; session = next }) (take_under agreed s rec)
  session_given e = let t = gives_tells (take_answer agreed s rec) e in rw (t.0, t.1)

  pub session_refused : {refusal : Refusal} → take_answer agreed s rec gives next_session agreed s rec ≡ Err refusal
      → ◌≡◌ {A = TakeResult} (record { answer = Err refusal; session = s }) (take_under agreed s rec)
  session_refused e = rw (gives_refuses (take_answer agreed s rec) _ e)

module _ (agreed : List ℕ) (s : Session) (more : Bool) (bytes : List ℕ) (enough : least_left more ≤ length bytes) where
  pub run_refused : {a : Answer} {why : Reason} {p : ℕ} → a ≡ take_answer agreed s (piece_of s bytes)
      → a ≡ Refused why p → run_under agreed s more bytes ≡ empty_run a s
  run_refused {a} {why} {p} e f =
      let g : take_answer agreed s (piece_of s bytes) ≡ Refused why p = sym e ∙ f in rw (pieces_cons agreed s more bytes enough, g, f)

  pub run_on : take_answer agreed s (piece_of s bytes) ≡ Accepted
      → run_under agreed s more bytes
      ≡ add_counts 1 (files_closed (named_by (get_or (piece_of s bytes) 0 0))) (length (piece_of s bytes))
      (run_under agreed (next_session agreed s (piece_of s bytes)) more (drop (piece_length s bytes) bytes))
  run_on g = rw (pieces_cons agreed s more bytes enough, g)

-- The counts.

pub counts_add : (a b c d e f : ℕ) (r : RunResult) → add_counts a b c (add_counts d e f r) ≡ add_counts (a + d) (b + e) (c + f) r
counts_add a b c d e f r = rw (add_assoc a d r.records, add_assoc b e r.files, add_assoc c f r.bytes)

pub counts_none : (r : RunResult) → add_counts 0 0 0 r ≡ r
counts_none r = rw (zero-add r.records, zero-add r.files, zero-add r.bytes)

counts_empty : (records files bytes : ℕ) (a : Answer) (s : Session)
    → ◌≡◌ {A = RunResult} (record { answer = a; session = s; records = records; files = files; bytes = bytes }) (add_counts records files bytes (empty_run a s))
counts_empty records files bytes a s = rw (add-zero records, add-zero files, add-zero bytes)

-- The piece of so many bytes at an index, or what is left, as the code cuts it.
module _ (bytes : List ℕ) (at size : ℕ) (inside : at < length bytes) (some : 0 < size) {end : ℕ}
    (e : end ≡ at + min size (length bytes - at)) where
  pub piece_part : take (end - at) (drop at bytes) ≡ take size (drop at bytes)
  piece_part =
      ⊎_elim
      (λ (h : length bytes - at < size).
      let n : end - at ≡ length bytes - at = omega arith in
      let l = length-drop at bytes in
      rw n (take_all (length bytes - at) (drop at bytes) (omega arith) ∙ sym (take_all size (drop at bytes) (omega arith))))
      (λ (h : size ≤ length bytes - at). let n : end - at ≡ size = omega arith in rw n)
      (lt_or_le (length bytes - at) size)

  pub piece_rest : drop size (drop at bytes) ≡ drop end bytes
  piece_rest =
      ⊎_elim
      (λ (h : length bytes - at < size).
      let p : length bytes ≤ end = omega arith in
      let q : length bytes ≤ at + size = omega arith in
      drop-drop size at bytes ∙ drop_of_length-le bytes q ∙ sym (drop_of_length-le bytes p))
      (λ (h : size ≤ length bytes - at). let n : at + size ≡ end = omega arith in drop-drop size at bytes ∙ ap (λ (k : ℕ). drop k bytes) n)
      (lt_or_le (length bytes - at) size)

  pub piece_first : get_or (take size (drop at bytes)) 0 0 ≡ get_or bytes at 0
  piece_first =
      get_or-take size (drop at bytes) 0 0 some ∙ get_or-drop at bytes 0 0
      ∙ ap (λ (k : ℕ). get_or bytes k 0) (add-zero at)

  pub piece_end : at + length (take size (drop at bytes)) ≡ end
  piece_end = omega (arith, length-take size (drop at bytes), length-drop at bytes, e)

-- what is left behind an index, as a part of the bytes
whole_part : (bytes : List ℕ) (at : ℕ) → take (length bytes - at) (drop at bytes) ≡ drop at bytes
whole_part bytes at = take_all (length bytes - at) (drop at bytes) (omega (arith, length-drop at bytes))

-- where the next piece ends, by what the code finds in that part
module _ (bytes : List ℕ) (at : ℕ) where
  abbrev part : List ℕ
  part = take (length bytes - at) (drop at bytes)

  pub cut_ends : (s : Session) {n : ℕ} → n ≡ min (piece_length s part) (length part)
      → at + n ≡ at + min (piece_length s (drop at bytes)) (length bytes - at)
  cut_ends s {n} e =
      let f : n ≡ min (piece_length s (drop at bytes)) (length (drop at bytes)) = rw (whole_part bytes at) at e in
      ap (λ (k : ℕ). at + k) (f ∙ ap (min (piece_length s (drop at bytes))) (length-drop at bytes))

  pub cut_grows : {n : ℕ} → at < length bytes → (0 < length part → 0 < n) × (n ≤ length part) → (0 < n) × (at + n ≤ length bytes)
  cut_grows inside h =
      let l : length part ≡ length bytes - at = ap length (whole_part bytes at) ∙ length-drop at bytes in
      (h.0 (omega (arith, l, inside)), omega (arith, l, inside, h.1))

-- The loop at an index, after so many records and files: nothing is left, it goes on behind payments, it stops, or it
-- goes on behind one record.
module _ (agreed : List ℕ) (self s : Session) (more : Bool) (bytes : List ℕ) (at records files : ℕ)
    (inv : add_counts records files at (run_under agreed s more (drop at bytes)) ≡ run_under agreed self more bytes) where
  pub run_ends : length bytes - at < least_left more
      → ◌≡◌ {A = RunResult} (record { answer = Accepted; session = s; records = records; files = files; bytes = at }) (run_under agreed self more bytes)
  run_ends h =
      counts_empty records files at Accepted s
      ∙ ap (add_counts records files at) (sym (run_none agreed s more (drop at bytes) (omega (arith, length-drop at bytes, h)))) ∙ inv

  pub run_paid : {p : LeadingPayments} → LeadingPaymentsOf agreed s more (take (length bytes - at) (drop at bytes)) p
      → add_counts (records + p.progress.records) files (at + p.progress.at)
      (run_under agreed (with_leading s p) more (drop (at + p.progress.at) bytes))
      ≡ run_under agreed self more bytes
  run_paid {p} h =
      let n = p.progress.records in
      let k = p.progress.at in
      let r = run_under agreed (with_leading s p) more (drop k (drop at bytes)) in
      let rest : add_counts n 0 k r ≡ run_under agreed s more (drop at bytes) = rw (whole_part bytes at) at h.rest in
      let none : add_counts records files at (add_counts n 0 k r) ≡ add_counts (records + n) files (at + k) r =
      counts_add records files at n 0 k r ∙ rw (add-zero files) in
      rw (← drop-drop k at bytes) (sym none ∙ ap (add_counts records files at) rest ∙ inv)

  module _ (inside : at < length bytes) (enough : least_left more ≤ length bytes - at) {end : ℕ}
      (e : end ≡ at + min (piece_length s (drop at bytes)) (length bytes - at)) {t : TakeResult}
      (took : t ≡ take_under agreed s (take (end - at) (drop at bytes))) where
    abbrev size : ℕ
    size = piece_length s (drop at bytes)

    abbrev piece : List ℕ
    piece = piece_of s (drop at bytes)

    some : 0 < size
    some = piece_some s (drop at bytes)

    left : least_left more ≤ length (drop at bytes)
    left = omega (arith, length-drop at bytes, enough)

    answered : t.answer ≡ take_answer agreed s piece
    answered = ap (λ (x : TakeResult). x.answer) took ∙ ap (take_answer agreed s) (piece_part bytes at size inside some e)

    pub run_stops : {why : Reason} {p : ℕ} → t.answer ≡ Refused why p
        → ◌≡◌ {A = RunResult} (record { answer = t.answer; session = s; records = records; files = files; bytes = at }) (run_under agreed self more bytes)
    run_stops f =
        counts_empty records files at t.answer s
        ∙ ap (add_counts records files at) (sym (run_refused agreed s more (drop at bytes) left answered f)) ∙ inv

    pub run_goes : {k : ℕ} → t.answer ≡ Accepted → k ≡ files_closed (named_by (get_or bytes at 0))
        → add_counts (records + 1) (files + k) end (run_under agreed t.session more (drop end bytes)) ≡ run_under agreed self more bytes
    run_goes {k} f g =
        let a : take_answer agreed s piece ≡ Accepted = sym answered ∙ f in
        let next : t.session ≡ next_session agreed s piece =
        ap (λ (x : TakeResult). x.session) took
        ∙ ap (λ (x : List ℕ). (take_under agreed s x).session) (piece_part bytes at size inside some e) ∙ rw a in
        let n : files_closed (named_by (get_or piece 0 0)) ≡ k =
        ap (λ (b : ℕ). files_closed (named_by b)) (piece_first bytes at size inside some e) ∙ sym g in
        rw (next, ← piece_rest bytes at size inside some e, ← n, ← piece_end bytes at size inside some e, ← counts_add records files at 1 (files_closed (named_by (get_or piece 0 0))) (length piece) (run_under agreed (next_session agreed s piece) more (drop size (drop at bytes))))
        (ap (add_counts records files at) (sym (run_on agreed s more (drop at bytes) left a)) ∙ inv)
