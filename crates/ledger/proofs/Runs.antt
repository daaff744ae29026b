-- A run, record by record, against the ledger. Assumes nothing.
use Rattle.std.specs.Prelude.{Err, None, Option as Maybe, Some}
use Prim.Native.Nat.{ℕ, zero, suc, ◌+◌}
use mathlib.Core.Bool.{Bool, true, cond, false≢true}
use mathlib.Core.List.{List, [], ◌∷◌, map}
use mathlib.Core.Option.{Option, none, some}
use mathlib.Core.Path.{◌≡◌, refl, sym, ap, ap₂, ◌∙◌, subst}
use native.Mathlib.Omega.{arith}
use lib.Dec.{ltb}
use lib.ListN.{length, get_or, take, drop, length-append}
use Rattle.answer.specs.declared.Reason.TheVariants.{WrongLength, NotExpected}
use Rattle.answer.specs.Answers.{Answer, Accepted}
use Rattle.answer.specs.Orders.{◌then◌}
use Rattle.answer.proofs.Orders.{not_both, accepted_takes}
use Rattle.answer.proofs.Steps.{passed}
use Rattle.layout.specs.declared.Record.{Record}
use Rattle.layout.specs.declared.Record.TheVariants.{Header, Payment, Trailer}
use Rattle.layout.specs.Layouts.{named_by}
use Rattle.barcode.specs.Agreed.{RightList}
use Rattle.file.specs.Forms.{body_of, has_line_end, fits_length, next_length}
use Rattle.session.specs.declared.Session.{Session}
use Rattle.session.specs.declared.RunResult.{RunResult}
use Rattle.session.specs.Sessions.{TakeResult, fresh_session, take_answer, next_session, take_under, take_of}
use Rattle.session.specs.Runs.{piece_length, least_left, pieces_up_to, pieces_of, files_closed, add_counts, stopped_if_refused, run_all}
use Rattle.session.proofs.Feeding.{run_right, run_is_its_takes}
use Rattle.ledger.specs.Ledgers.{Opened, Filed, Ledger, fresh_ledger, is_open, is_open_lined, ledger_expects, ledger_answer, ledger_check, filed_with, with_record, next_ledger, Step, taking, ledger_step, ledger_after, ledger_answers}
use Rattle.ledger.specs.Promises.{session_after, Agrees}
use Rattle.ledger.specs.WholeFiles.{AllAccepted}
use Rattle.ledger.specs.Runs.{ledger_piece_length, ledger_piece_of, ledger_pieces_up_to, ledger_pieces, steps_of, next_ledger_answer, RunIsTheLedgers}
use Rattle.ledger.proofs.Agreement.{answer_agrees, check_agrees, take_agrees, fresh_agrees}

-- what is known of a run, from any session and a ledger that agrees with it
pub record RunOn (agreed : List ℕ) (s : Session) (k : Ledger) (recs : List (List ℕ)) (r : RunResult) : Type 0 where
  pub session : r.session ≡ session_after s (steps_of agreed recs r)
  pub files : length k.accepted + r.files ≡ length (ledger_after k (steps_of agreed recs r)).accepted
  pub accepted : AllAccepted (ledger_answers k (steps_of agreed recs r))
  pub answer : r.answer ≡ next_ledger_answer agreed (ledger_after k (steps_of agreed recs r)) (drop r.records recs)
  pub whole : r.answer ≡ Accepted → r.records ≡ length recs

-- an accepted Z adds a file to the ledger, and no other record does
files_after : (files : List Filed) (o : Option Opened) (n : Maybe Record) (ended : Bool) (rec : List ℕ) → ledger_expects o n ≡ true
    → length (with_record files o n ended rec).accepted ≡ length files + files_closed n
files_after files none (Some Header) ended rec e = omega arith
files_after files none (Some Payment) ended rec e = absurd (false≢true e)
files_after files none (Some Trailer) ended rec e = absurd (false≢true e)
files_after files none None ended rec e = absurd (false≢true e)
files_after files (some f) (Some Header) ended rec e = absurd (false≢true e)
files_after files (some f) (Some Payment) ended rec e = omega arith
files_after files (some f) (Some Trailer) ended rec e = length-append files (filed_with f rec ∷ [])
files_after files (some f) None ended rec e = absurd (false≢true e)

-- one more record in front
module _ (agreed rec : List ℕ) (recs : List (List ℕ)) (s next : Session) (k after : Ledger) (c : ℕ) (r : RunResult) where
  one : 1 + r.records ≡ suc r.records
  one = omega arith

  steps_more : steps_of agreed (rec ∷ recs) (add_counts 1 c (length rec) r) ≡ taking agreed rec ∷ steps_of agreed recs r
  steps_more = ap (λ (m : ℕ). map (taking agreed) (take m (rec ∷ recs))) one

  more : (take_of agreed s rec).session ≡ next → ledger_step k (taking agreed rec) ≡ after → ledger_check agreed k rec ≡ Accepted
      → length after.accepted ≡ length k.accepted + c → RunOn agreed next after recs r
      → RunOn agreed s k (rec ∷ recs) (add_counts 1 c (length rec) r)
  more followed noted e grown t =
      let steps = steps_of agreed recs r in
      let same : ledger_after k (steps_of agreed (rec ∷ recs) (add_counts 1 c (length rec) r)) ≡ ledger_after after steps =
      ap (ledger_after k) steps_more ∙ ap (λ (b : Ledger). ledger_after b steps) noted in
      record {
        session =
            t.session ∙ ap (λ (x : Session). session_after x steps) (sym followed)
            ∙ ap (session_after s) (sym steps_more);
        files = omega (arith, t.files, grown) ∙ ap (λ (b : Ledger). length b.accepted) (sym same);
        accepted =
            subst (λ (all : List Step). AllAccepted (ledger_answers k all)) (sym steps_more)
            (e, subst (λ (b : Ledger). AllAccepted (ledger_answers b steps)) (sym noted) t.accepted);
        answer = t.answer ∙ ap₂ (next_ledger_answer agreed) (sym same) (ap (λ (m : ℕ). drop m (rec ∷ recs)) (sym one));
        whole = λ x. omega (arith, t.whole x);
      }

-- under a right list a caller is answered what the judged list gives
pub judged_answer : (agreed : List ℕ) → RightList agreed → (k : Ledger) (rec : List ℕ) → ledger_check agreed k rec ≡ ledger_answer agreed k rec
judged_answer agreed list k rec = ap (λ (a : Answer). a then ledger_answer agreed k rec) list

pub run_on : (agreed : List ℕ) → RightList agreed → (recs : List (List ℕ)) (s : Session) (k : Ledger) → Agrees s k → RunOn agreed s k recs (run_all agreed s recs)
run_on agreed list [] s k h = record { session = refl; files = omega arith; accepted = tt; answer = refl; whole = λ e. refl }
run_on agreed list (rec ∷ recs) s k h = go (take_answer agreed s rec) refl (run_on agreed list recs)
  where
    go : (a : Answer) → take_answer agreed s rec ≡ a
        → ((s : Session) (k : Ledger) → Agrees s k → RunOn agreed s k recs (run_all agreed s recs))
        → RunOn agreed s k (rec ∷ recs) (stopped_if_refused a s (add_counts 1 (files_closed (named_by (get_or rec 0 0))) (length rec) (run_all agreed (next_session agreed s rec) recs)))
    go (Err refusal) e later =
        record {
          session = refl;
          files = omega arith;
          accepted = tt;
          answer = sym e ∙ answer_agrees agreed s k rec h ∙ sym (judged_answer agreed list k rec);
          whole = λ x. not_both _ refl x;
        }
    go Accepted e later =
        let n = named_by (get_or rec 0 0) in
        let next = next_session agreed s rec in
        let after = next_ledger k rec in
        let own : ledger_answer agreed k rec ≡ Accepted = sym (answer_agrees agreed s k rec h) ∙ e in
        let asked : ledger_check agreed k rec ≡ Accepted = judged_answer agreed list k rec ∙ own in
        let followed : (take_of agreed s rec).session ≡ next = accepted_takes (take_of agreed s rec).answer next s (check_agrees agreed s k rec h ∙ asked) in
        let noted : ledger_step k (taking agreed rec) ≡ after = accepted_takes (ledger_check agreed k rec) after k asked in
        let agrees : Agrees next after =
        subst (λ (x : Session). Agrees x after) followed
        (subst (λ (b : Ledger). Agrees (take_of agreed s rec).session b) noted (take_agrees agreed s k rec h)) in
        let expected =
        (passed (ledger_expects k.opened n) NotExpected 1
        (passed (fits_length (is_open k.opened) (is_open_lined k.opened) rec) WrongLength 0 own).1).0 in
        more agreed rec recs s next k after (files_closed n) (run_all agreed next recs) followed noted asked
        (files_after k.accepted k.opened n (has_line_end rec) (body_of rec) expected) (later next after agrees)

-- under a right list the pieces of a session are those of a ledger that agrees with it
pieces_up_to_holds : (agreed : List ℕ) → RightList agreed → (n : ℕ) (s : Session) (k : Ledger) (more : Bool) (bytes : List ℕ) → Agrees s k
    → pieces_up_to agreed n s more bytes ≡ ledger_pieces_up_to agreed n k more bytes
pieces_up_to_holds agreed list zero s k more bytes h = refl
pieces_up_to_holds agreed list (suc n) s k more bytes h =
    let size : piece_length s bytes ≡ ledger_piece_length k bytes =
    ap₂ (λ (opened lined : Bool). next_length opened lined bytes) h.opened h.lined in
    let piece = ledger_piece_of k bytes in
    let rest = drop (ledger_piece_length k bytes) bytes in
    let took : take_under agreed s piece ≡ take_of agreed s piece = rw list in
    let later =
    ap (λ (x : TakeResult). pieces_up_to agreed n x.session more rest) took
    ∙ pieces_up_to_holds agreed list n (take_of agreed s piece).session (ledger_step k (taking agreed piece)) more rest (take_agrees agreed s k piece h) in
    ap (λ (size : ℕ). cond (ltb (length bytes) (least_left more)) [] (take size bytes ∷ pieces_up_to agreed n (take_under agreed s (take size bytes)).session more (drop size bytes))) size
    ∙ ap (λ (ps : List (List ℕ)). cond (ltb (length bytes) (least_left more)) [] (piece ∷ ps)) later

pub same_pieces : (agreed : List ℕ) → RightList agreed → (s : Session) (k : Ledger) (more : Bool) (bytes : List ℕ) → Agrees s k
    → pieces_of agreed s more bytes ≡ ledger_pieces agreed k more bytes
same_pieces agreed list s k more bytes h = pieces_up_to_holds agreed list (length bytes) s k more bytes h

pub run_is_the_ledgers : RunIsTheLedgers
run_is_the_ledgers agreed more bytes list =
    let pieces = ledger_pieces agreed fresh_ledger more bytes in
    let same : pieces_of agreed fresh_session more bytes ≡ pieces = same_pieces agreed list fresh_session fresh_ledger more bytes fresh_agrees in
    let t = run_on agreed list pieces fresh_session fresh_ledger fresh_agrees in
    let takes = run_is_its_takes agreed fresh_session more bytes list in
    let judged = run_right agreed fresh_session more bytes list in
    rw (judged, same)
    (t.session, sym (omega (arith, t.files)), t.accepted, rw (judged, same) at takes.2, rw (judged, same) at takes.3, t.answer, t.whole)
