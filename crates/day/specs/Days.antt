-- A day (SPEC.md, "The program quadro"): the run over the input, buffer by buffer, under the empty list of agreed
-- issuers, and its end. Assumes nothing.
use Rattle.std.specs.Prelude.{ℕ, Bool, true, List, [], drop}
use Rattle.answer.specs.Answers.{Accepted}
use Rattle.answer.specs.Orders.{◌then◌}
use Rattle.session.specs.declared.Session.{Session}
use Rattle.session.specs.declared.RunResult.{RunResult}
use Rattle.session.specs.Sessions.{fresh_session, finish_of}
use Rattle.session.specs.Runs.{empty_run, add_counts, run_of}

-- no input yet
abbrev pub fresh_day : RunResult
fresh_day = empty_run Accepted fresh_session

-- one more buffer, run by the session that the buffers before it left; more bytes may follow it, or it is the last
abbrev pub run_buffer_of : RunResult → Bool → List ℕ → RunResult
run_buffer_of day more buffer = add_counts day.records day.files day.bytes (run_of [] day.session more buffer)

-- the bytes that a run over a buffer leaves, if more may follow: they come in front of the next buffer
abbrev pub left_of : Session → List ℕ → List ℕ
left_of s buffer = drop (run_of [] s true buffer).bytes buffer

-- the end of the input: refused (19) while a file is open, unless the day was refused before
abbrev pub ended_of : RunResult → RunResult
ended_of day =
    record {
      answer = day.answer then (finish_of day.session).answer;
      session = day.session;
      records = day.records;
      files = day.files;
      bytes = day.bytes;
    }
