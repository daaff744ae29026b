-- Buffers, run up to the first refusal, each behind what was left before it, print the page of the input. Assumes
-- nothing.
use Rattle.std.specs.Prelude.{Err}
use Prim.Native.Nat.{ℕ, ◌≤◌}
use mathlib.Core.Bool.{Bool, true, false}
use mathlib.Core.List.{List, [], ◌∷◌, ◌++◌, append_assoc}
use mathlib.Core.Path.{◌≡◌, refl, sym, ap, ◌∙◌}
use native.Mathlib.Omega.{arith}
use lib.ListN.{length, take, drop, length-take}
use lib.Seq.{drop-append-le, drop-drop}
use Rattle.answer.specs.Answers.{Answer, Accepted}
use Rattle.answer.proofs.Orders.{not_both}
use Rattle.barcode.proofs.Lists.{empty_is_right}
use Rattle.session.specs.declared.Session.{Session}
use Rattle.session.specs.declared.RunResult.{RunResult}
use Rattle.session.specs.Runs.{add_counts, run_of, bytes_of}
use Rattle.session.proofs.Runs.{counts_add}
use Rattle.session.proofs.Feeding.{run_is_its_takes, feeding_is_one_run}
use Rattle.day.specs.Days.{fresh_day, run_buffer_of, left_of, ended_of}
use Rattle.day.specs.Inputs.{page_of_day, run_until_refused, BuffersPrintOnePage}

pub taken_within : (s : Session) (more : Bool) (bytes : List ℕ) → (run_of [] s more bytes).bytes ≤ length bytes
taken_within s more bytes =
    let n = (run_of [] s more bytes).bytes in
    let takes = run_is_its_takes [] s more bytes empty_is_right in
    let size : n ≡ length (take n bytes) = sym takes.3 ∙ ap length takes.2 in
    omega (arith, size, length-take n bytes)

-- what a buffer and the bytes that follow it leave is what is left of those that the buffer left and of those that
-- follow
pub left_then :
    (s : Session) (front rest : List ℕ) → (run_of [] s true front).answer ≡ Accepted
    → left_of (run_of [] s true front).session (left_of s front ++ rest) ≡ left_of s (front ++ rest)
left_then s front rest a =
    let r = run_of [] s true front in
    let n = (run_of [] r.session true (left_of s front ++ rest)).bytes in
    ap (drop n) (sym (drop-append-le r.bytes front rest (taken_within s true front)))
    ∙ drop-drop n r.bytes (front ++ rest)
    ∙ ap (λ (r : RunResult). drop r.bytes (front ++ rest)) ((feeding_is_one_run [] s true front rest).0 a)

-- a buffer of a day, and the bytes that follow it
module _ (day : RunResult) (more : Bool) (front rest : List ℕ) where
  abbrev ran : RunResult
  ran = run_buffer_of day true front

  abbrev counted : RunResult → RunResult
  counted r = add_counts day.records day.files day.bytes r

  pub accepted_then :
      ran.answer ≡ Accepted
      → run_buffer_of ran more (left_of day.session front ++ rest) ≡ run_buffer_of day more (front ++ rest)
  accepted_then a =
      let r = run_of [] day.session true front in
      let behind = run_of [] r.session more (left_of day.session front ++ rest) in
      sym (counts_add day.records day.files day.bytes r.records r.files r.bytes behind)
      ∙ ap counted ((feeding_is_one_run [] day.session more front rest).0 a)

  pub refused_then : (ran.answer ≡ Accepted → ⊥) → ran ≡ run_buffer_of day more (front ++ rest)
  refused_then a = ap counted ((feeding_is_one_run [] day.session more front rest).1 a)

-- a buffer behind what was left before it, and those that follow
module _ (day : RunResult) (left b : List ℕ) (bs : List (List ℕ)) (last : List ℕ) where
  abbrev next : RunResult
  next = run_buffer_of day true (left ++ b)

  abbrev next_left : List ℕ
  next_left = left_of day.session (left ++ b)

  abbrev rest : List ℕ
  rest = bytes_of bs ++ last

  in_order : (left ++ b) ++ rest ≡ left ++ (bytes_of (b ∷ bs) ++ last)
  in_order = append_assoc left b rest ∙ ap (λ (l : List ℕ). left ++ l) (sym (append_assoc b (bytes_of bs) last))

  until_buffer :
      (a : Answer) → next.answer ≡ a
      → run_until_refused next next_left bs last ≡ run_buffer_of next false (next_left ++ rest)
      → run_until_refused day left (b ∷ bs) last ≡ run_buffer_of day false ((left ++ b) ++ rest)
  until_buffer Accepted e on =
      let goes : run_until_refused day left (b ∷ bs) last ≡ run_until_refused next next_left bs last = rw e in
      goes ∙ on ∙ accepted_then day false (left ++ b) rest e
  until_buffer (Err refusal) e on =
      let stops : run_until_refused day left (b ∷ bs) last ≡ next = rw e in
      stops ∙ refused_then day false (left ++ b) rest (not_both next.answer e)

until_refused :
    (day : RunResult) (left : List ℕ) (bs : List (List ℕ)) (last : List ℕ)
    → run_until_refused day left bs last ≡ run_buffer_of day false (left ++ (bytes_of bs ++ last))
until_refused day left [] last = refl
until_refused day left (b ∷ bs) last =
    let on = until_refused (run_buffer_of day true (left ++ b)) (left_of day.session (left ++ b)) bs last in
    until_buffer day left b bs last (run_buffer_of day true (left ++ b)).answer refl on
    ∙ ap (run_buffer_of day false) (in_order day left b bs last)

pub buffers_print_one_page : BuffersPrintOnePage
buffers_print_one_page buffers last =
    ap (λ (d : RunResult). page_of_day (ended_of d)) (until_refused fresh_day [] buffers last)
