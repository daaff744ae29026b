-- A session and the ledger agree at first and after every step, so their answers are equal. Assumes nothing.
use Rattle.std.specs.Prelude.{Err, None, Option as Maybe, Some}
use Prim.Native.Nat.{ℕ, ◌+◌, ◌≤◌}
use mathlib.Core.Bool.{Bool, true, false, not, false≢true}
use mathlib.Core.List.{List, [], ◌∷◌, ◌++◌, append_assoc, append-nil}
use mathlib.Core.Option.{Option, none, some}
use mathlib.Core.Path.{◌≡◌, refl, sym, ap, ap₂, ◌∙◌}
use native.Mathlib.Omega.{arith}
use lib.Dec.{ltb, leb}
use lib.ListN.{length, get_or, length-append}
use Rattle.answer.specs.Refusals.{received_place}
use Rattle.answer.specs.declared.Reason.TheVariants.{WrongLength, NotExpected, FileFull, FileTotalPassed}
use Rattle.answer.specs.Answers.{Answer, Accepted}
use Rattle.answer.specs.Orders.{require, ◌then◌, if_accepted}
use Rattle.answer.proofs.Orders.{not_both, then_accepts, then_groups}
use Rattle.answer.proofs.Steps.{passed}
use Rattle.answer.proofs.Tests.{never, split}
use Rattle.layout.specs.declared.Record.{Record}
use Rattle.layout.specs.declared.Record.TheVariants.{Header, Payment, Trailer}
use Rattle.layout.specs.Layouts.{named_by}
use Rattle.barcode.specs.Agreed.{list_answer}
use Rattle.kinds.specs.Terms.{told}
use Rattle.record.specs.Records.{record_answer}
use Rattle.record.specs.Values.{version_in, trailer_shown, record_shown, shown_unless_refused, decoded_record_under}
use Rattle.file.specs.Files.{most_payments, most_centavos, fresh_file, file_answer, figures_answer}
use Rattle.file.specs.Forms.{body_of, has_line_end, fits_length, end_answer}
use Rattle.file.proofs.Forms.{first_in}
use Rattle.board.specs.declared.Board.{Board}
use Rattle.board.specs.Lanes.{placed, lanes_from}
use Rattle.board.specs.Boards.{lanes_of, post_answer, SoundBoard}
use Rattle.board.proofs.Lanes.{one_payment_more}
use Rattle.board.proofs.Posting.{fit, with_sound, post_places, stays_sound}
use Rattle.board.proofs.Boards.{answers_as_payments}
use Rattle.pairs.specs.declared.Memory.{Memory}
use Rattle.pairs.specs.Pairs.{most_pairs, pair_answer, remembering, pairs_of, memory_answer, memory_with, SoundMemory, has_room_for}
use Rattle.pairs.proofs.Searches.{in_use}
use Rattle.pairs.proofs.Memories.{pair_accepted, pair_is_remembered, memory_stays_sound}
use Rattle.session.specs.declared.Session.{Session}
use Rattle.session.specs.Sessions.{fresh_session, opened_at, closed_at, pair_in, session_terms, session_expects, figures_in, pay_answer, session_with_payment, session_closed, session_answer, session_with, take_answer, next_session, take_of, abandon_of}
use Rattle.ledger.specs.Ledgers.{Opened, Filed, Ledger, fresh_ledger, payment_records, open_records, lane_of_record, lanes_of_records, received_by, received_in, limits_answer, is_open, is_open_lined, ledger_expects, open_version, ledger_terms, filed_with, payment_state_answer, trailer_state_answer, header_state_answer, state_answer, ledger_answer, ledger_check, with_record, next_ledger, Step, taking, abandoning, ledger_step, ledger_after, ledger_answers}
use Rattle.ledger.specs.Promises.{session_step, session_after, answers_of, open_pair, remembered, all_records, Agrees, SessionAgrees, AnswersAreTheLedgers, NextAnswerIsTheLedgers}
use Rattle.ledger.proofs.Records.{records_joined, received_joined, lanes_joined, limits_are_the_boards}
use Rattle.ledger.proofs.Headers.{remembered_joined, header_answer_holds}

-- The answers.

-- a session, and a ledger by its parts
module _ (agreed : List ℕ) (s : Session) (files : List Filed) (rec : List ℕ) where
  payment_answer_holds : (f : Opened) → Agrees s (record { accepted = files; opened = some f })
      → pay_answer s (lane_of_record rec) ≡ payment_state_answer files f rec
  unfolding file_answer
  payment_answer_holds f h =
      let before = payment_records files ++ f.payments in
      let limits =
      answers_as_payments s.work (lanes_of_records before) (lane_of_record rec) h.sound_work h.work
      ∙ limits_are_the_boards before rec in
      rw (limits, h.taken, h.total)
      (then_groups (require (ltb (length f.payments) most_payments) FileFull 1)
      (require (leb (received_in f.payments + received_by rec) most_centavos) FileTotalPassed received_place)
      (limits_answer (before ++ (rec ∷ []))))

  trailer_answer_holds : (f : Opened) → Agrees s (record { accepted = files; opened = some f })
      → figures_answer s.file (figures_in (trailer_shown rec)) ≡ trailer_state_answer f rec
  unfolding figures_answer
  trailer_answer_holds f h = rw (h.taken, h.total)

  opening_answer : (o : Option Opened) → Agrees s (record { accepted = files; opened = o })
      → memory_answer s.memory (pair_in rec) ≡ header_state_answer files rec
  opening_answer o h =
      let few : length (remembered files) ≤ most_pairs =
      omega (arith, ap length h.memory, in_use s.memory h.sound_memory.whole) in
      ap (λ qs. pair_answer qs (pair_in rec)) h.memory ∙ header_answer_holds files rec few

  record_answer_holds : (o : Option Opened) (n : Maybe Record) (a : Answer) → Agrees s (record { accepted = files; opened = o })
      → require (session_expects s.opened n) NotExpected 1 then session_answer s rec (shown_unless_refused a (record_shown agreed n rec))
      ≡ require (ledger_expects o n) NotExpected 1 then a then state_answer files o n rec
  record_answer_holds none (Some Header) Accepted h = rw h.opened (opening_answer none h)
  record_answer_holds none (Some Header) (Err refusal) h = rw h.opened
  record_answer_holds none (Some Payment) a h = rw h.opened
  record_answer_holds none (Some Trailer) a h = rw h.opened
  record_answer_holds none None a h = refl
  record_answer_holds (some f) (Some Header) a h = rw h.opened
  record_answer_holds (some f) (Some Payment) Accepted h = rw h.opened (payment_answer_holds f h)
  record_answer_holds (some f) (Some Payment) (Err refusal) h = rw h.opened
  record_answer_holds (some f) (Some Trailer) Accepted h = rw h.opened (trailer_answer_holds f h)
  record_answer_holds (some f) (Some Trailer) (Err refusal) h = rw h.opened
  record_answer_holds (some f) None a h = refl

-- a record with its end
pub answer_agrees : (agreed : List ℕ) (s : Session) (k : Ledger) (rec : List ℕ) → Agrees s k → take_answer agreed s rec ≡ ledger_answer agreed k rec
answer_agrees agreed s k rec h =
    let n = named_by (get_or rec 0 0) in
    let body = body_of rec in
    let terms : session_terms agreed s ≡ ledger_terms agreed k.opened = ap (λ (v : ℕ). told v agreed) h.version in
    let own = record_answer (ledger_terms agreed k.opened) body in
    let state = state_answer k.accepted k.opened n body in
    let ending = end_answer s.opened s.file.lined rec in
    let shown = session_answer s body (shown_unless_refused own (record_shown agreed n body)) in
    let expects = require (session_expects s.opened n) NotExpected 1 in
    let met = require (ledger_expects k.opened n) NotExpected 1 in
    let same : expects then (shown then ending) ≡ met then (own then (state then ending)) =
    sym (then_groups expects shown ending) ∙ ap (λ (a : Answer). a then ending) (record_answer_holds agreed s k.accepted body k.opened n own h)
    ∙ then_groups met (own then state) ending ∙ ap (λ (a : Answer). met then a) (then_groups own state ending) in
    rw (first_in rec, terms, ← h.opened, ← h.lined)
    (ap (λ (a : Answer). require (fits_length s.opened s.file.lined rec) WrongLength 0 then a) same)

-- as a caller asks both
pub check_agrees : (agreed : List ℕ) (s : Session) (k : Ledger) (rec : List ℕ) → Agrees s k → (take_of agreed s rec).answer ≡ ledger_check agreed k rec
check_agrees agreed s k rec h = ap (λ (a : Answer). list_answer agreed then a) (answer_agrees agreed s k rec h)

-- The session that follows.

record Remembers (m : Memory) (files : List Filed) : Type 0 where
  memory : pairs_of m ≡ remembered files
  sound : SoundMemory m

-- both boards and the memory are those of the accepted files
at_rest : (b : Board) (m : Memory) (files : List Filed) (o : Option Opened)
    → lanes_of b ≡ lanes_from (lanes_of_records (payment_records files)) → SoundBoard b → Remembers m files
    → (is_open o ≡ true → has_room_for m (open_pair o) ≡ true) → open_records o ≡ []
    → Agrees (record { shown = b; work = b; opened = is_open o; file = fresh_file (open_version o) (is_open_lined o); opening = open_pair o; memory = m }) (record { accepted = files; opened = o })
at_rest b m files o e sound remembers room none_yet =
    record {
      opened = refl;
      shown = e;
      work = rw (none_yet, append-nil (payment_records files)) e;
      taken = rw none_yet;
      total = rw none_yet;
      version = refl;
      lined = refl;
      opening = refl;
      memory = remembers.memory;
      room = room;
      sound_memory = remembers.sound;
      sound_shown = sound;
      sound_work = sound;
    }

module _ (agreed : List ℕ) (s : Session) (files : List Filed) (ended : Bool) (rec : List ℕ) where
  remembers : (o : Option Opened) → Agrees s (record { accepted = files; opened = o }) → Remembers s.memory files
  remembers o h = record { memory = h.memory; sound = h.sound_memory }

  opens : (o : Option Opened) → Agrees s (record { accepted = files; opened = o })
      → memory_answer s.memory (pair_in rec) ≡ Accepted
      → Agrees (opened_at s.shown s.memory (version_in rec) ended (pair_in rec)) (with_record files none (Some Header) ended rec)
  opens o h e =
      let room = ((pair_accepted s.memory (pair_in rec)).0 e).1 in
      at_rest s.shown s.memory files (some (record { header = rec; payments = []; lined = ended })) h.shown h.sound_shown (remembers o h) (λ t. room) refl

  drops : (o : Option Opened) → Agrees s (record { accepted = files; opened = o })
      → Agrees (closed_at s.shown s.memory) (record { accepted = files; opened = none })
  drops o h = at_rest s.shown s.memory files none h.shown h.sound_shown (remembers o h) never refl

  module _ (f : Opened) (h : Agrees s (record { accepted = files; opened = some f })) where
    -- the open file's number is remembered
    remembers_file : Remembers (memory_with s.memory s.opening) (files ++ (filed_with f rec ∷ []))
    remembers_file =
        record {
          memory =
              (pair_is_remembered s.memory s.opening h.sound_memory.whole (h.room h.opened)).0
              ∙ ap₂ remembering h.opening h.memory
              ∙ sym (remembered_joined files (filed_with f rec));
          sound = memory_stays_sound.1 s.memory s.opening h.sound_memory;
        }

    closes : Agrees (session_closed s) (with_record files (some f) (Some Trailer) ended rec)
    closes =
        at_rest s.work (memory_with s.memory s.opening) (files ++ (filed_with f rec ∷ [])) none
        (rw (records_joined files (filed_with f rec ∷ []), append-nil f.payments) h.work) h.sound_work
        remembers_file never refl

    more : all_records (with_record files (some f) (Some Payment) ended rec) ≡ (payment_records files ++ f.payments) ++ (rec ∷ [])
    more = sym (append_assoc (payment_records files) f.payments (rec ∷ []))

    pays : pay_answer s (lane_of_record rec) ≡ Accepted
        → Agrees (session_with_payment s (lane_of_record rec)) (with_record files (some f) (Some Payment) ended rec)
    pays e =
        let before = payment_records files ++ f.payments in
        let posted =
        ((then_accepts (file_answer s.file (received_by rec))
        (post_answer s.work (lane_of_record rec))).0 e).1 in
        record {
          opened = h.opened;
          shown = h.shown;
          work =
              post_places s.work (lane_of_record rec) h.sound_work posted
              ∙ ap (placed (lane_of_record rec)) h.work ∙
              sym (one_payment_more (lanes_of_records before) (lane_of_record rec))
              ∙ ap lanes_from (sym (lanes_joined before rec)) ∙
              ap (λ (recs : List (List ℕ)). lanes_from (lanes_of_records recs)) (sym more);
          taken = omega (arith, h.taken, length-append f.payments (rec ∷ []));
          total = omega (arith, h.total, received_joined f.payments rec);
          version = h.version;
          lined = h.lined;
          opening = h.opening;
          memory = h.memory;
          room = h.room;
          sound_memory = h.sound_memory;
          sound_shown = h.sound_shown;
          sound_work =
              with_sound s.work (lane_of_record rec) h.sound_work ((fit s.work (lane_of_record rec)).0 posted);
        }

  followed : (o : Option Opened) (n : Maybe Record) (a : Answer) → Agrees s (record { accepted = files; opened = o })
      → session_expects s.opened n ≡ true
      → session_answer s rec (shown_unless_refused a (record_shown agreed n rec)) ≡ Accepted
      → Agrees (session_with s ended rec (shown_unless_refused a (record_shown agreed n rec))) (with_record files o n ended rec)
  followed o n (Err refusal) h x e = not_both _ refl e
  followed o None Accepted h x e = absurd (false≢true x)
  followed none (Some Header) Accepted h x e = opens none h e
  followed none (Some Payment) Accepted h x e = absurd (false≢true (sym h.opened ∙ x))
  followed none (Some Trailer) Accepted h x e = absurd (false≢true (sym h.opened ∙ x))
  followed (some f) (Some Header) Accepted h x e = absurd (false≢true (sym (ap not h.opened) ∙ x))
  followed (some f) (Some Payment) Accepted h x e = pays f h e
  followed (some f) (Some Trailer) Accepted h x e = closes f h

  abandoned : (o : Option Opened) → Agrees s (record { accepted = files; opened = o })
      → Agrees (abandon_of s) (record { accepted = files; opened = none })
  abandoned none h =
      split (λ (r : Session). Agrees r (record { accepted = files; opened = none })) s.opened (λ t. drops none h) (λ t. h)
  abandoned (some f) h =
      split (λ (r : Session). Agrees r (record { accepted = files; opened = none })) s.opened (λ t. drops (some f) h)
      (λ t. absurd (false≢true (sym t ∙ h.opened)))

pub take_agrees : (agreed : List ℕ) (s : Session) (k : Ledger) (rec : List ℕ) → Agrees s k
    → Agrees (take_of agreed s rec).session (ledger_step k (taking agreed rec))
take_agrees agreed s k rec h = rw (← check_agrees agreed s k rec h) (go (list_answer agreed then take_answer agreed s rec) refl)
  where
    go : (a : Answer) → list_answer agreed then take_answer agreed s rec ≡ a
        → Agrees (if_accepted a (next_session agreed s rec) s) (if_accepted a (next_ledger k rec) k)
    go (Err refusal) e = h
    go Accepted e =
        let n = named_by (get_or rec 0 0) in
        let own = record_answer (session_terms agreed s) (body_of rec) in
        let took = ((then_accepts (list_answer agreed) (take_answer agreed s rec)).0 e).1 in
        let fits = (passed (fits_length s.opened s.file.lined rec) WrongLength 0 took).1 in
        let met = passed (session_expects s.opened n) NotExpected 1 fits in
        let accepts =
        ((then_accepts (session_answer s (body_of rec) (decoded_record_under (session_terms agreed s) (body_of rec))) (end_answer s.opened s.file.lined rec)).0 met.1).0 in
        rw (first_in rec)
        (followed agreed s k.accepted (has_line_end rec) (body_of rec) k.opened n own h met.0 (rw (first_in rec) at accepts))

step_agrees : (s : Session) (k : Ledger) (step : Step) → Agrees s k → Agrees (session_step s step) (ledger_step k step)
step_agrees s k (taking agreed rec) h = take_agrees agreed s k rec h
step_agrees s k abandoning h = abandoned [] s k.accepted false [] k.opened h

-- Any list of steps.

pub steps_agree : (steps : List Step) (s : Session) (k : Ledger) → Agrees s k
    → Agrees (session_after s steps) (ledger_after k steps)
steps_agree [] s k h = h
steps_agree (step ∷ steps) s k h = steps_agree steps (session_step s step) (ledger_step k step) (step_agrees s k step h)

answers_agree : (steps : List Step) (s : Session) (k : Ledger) → Agrees s k → answers_of s steps ≡ ledger_answers k steps
answers_agree [] s k h = refl
answers_agree (taking agreed rec ∷ steps) s k h =
    ap₂ (λ (a : Answer) (rest : List Answer). a ∷ rest) (check_agrees agreed s k rec h)
    (answers_agree steps (session_step s (taking agreed rec)) (ledger_step k (taking agreed rec)) (step_agrees s k (taking agreed rec) h))
answers_agree (abandoning ∷ steps) s k h =
    answers_agree steps (session_step s abandoning) (ledger_step k abandoning) (step_agrees s k abandoning h)

pub fresh_agrees : Agrees fresh_session fresh_ledger
fresh_agrees =
    record {
      opened = refl;
      shown = refl;
      work = refl;
      taken = refl;
      total = refl;
      version = refl;
      lined = refl;
      opening = refl;
      memory = refl;
      room = never;
      sound_memory = memory_stays_sound.0;
      sound_shown = stays_sound.0;
      sound_work = stays_sound.0;
    }

pub session_agrees : SessionAgrees
session_agrees steps = steps_agree steps fresh_session fresh_ledger fresh_agrees

pub answers_are_the_ledgers : AnswersAreTheLedgers
answers_are_the_ledgers steps = answers_agree steps fresh_session fresh_ledger fresh_agrees

pub next_answer_is_the_ledgers : NextAnswerIsTheLedgers
next_answer_is_the_ledgers steps agreed rec =
    check_agrees agreed (session_after fresh_session steps) (ledger_after fresh_ledger steps) rec (session_agrees steps)
