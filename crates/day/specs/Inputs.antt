-- A whole input and its page (SPEC.md, "The program quadro"), in whatever buffers it comes. Assumes nothing.
use Rattle.std.specs.Prelude.{ℕ, true, false, List, [], ◌∷◌, ◌++◌, ◌≡◌}
use Rattle.answer.specs.Refusals.{answer_number, answer_place}
use Rattle.answer.specs.Orders.{if_accepted}
use Rattle.session.specs.declared.RunResult.{RunResult}
use Rattle.page.specs.Pages.{page_of}
use Rattle.session.specs.Runs.{bytes_of}
use Rattle.day.specs.Days.{fresh_day, run_buffer_of, left_of, ended_of}

-- the page of a day
abbrev pub page_of_day : RunResult → List ℕ
page_of_day day =
    page_of (answer_number day.answer) (answer_place day.answer) day.records day.files day.session.shown

-- the day of an input: a fresh session runs it up to the first refusal, and an input without a refusal ends
abbrev pub day_of_input : List ℕ → RunResult
day_of_input input = ended_of (run_buffer_of fresh_day false input)

-- what quadro prints for an input
abbrev pub page_of_input : List ℕ → List ℕ
page_of_input input = page_of_day (day_of_input input)

-- the day after buffers and a last one, run one after the other up to the first refusal, each behind the bytes that
-- were left before it
abbrev pub run_until_refused : RunResult → List ℕ → List (List ℕ) → List ℕ → RunResult
run_until_refused day left [] last = run_buffer_of day false (left ++ last)
run_until_refused day left (b ∷ bs) last =
    let next = run_buffer_of day true (left ++ b) in
    if_accepted next.answer (run_until_refused next (left_of day.session (left ++ b)) bs last) next

-- Promise: an input prints one page, in whatever buffers it comes.
abbrev pub BuffersPrintOnePage : Type 0
BuffersPrintOnePage =
    (buffers : List (List ℕ)) (last : List ℕ)
    → page_of_day (ended_of (run_until_refused fresh_day [] buffers last)) ≡ page_of_input (bytes_of buffers ++ last)
