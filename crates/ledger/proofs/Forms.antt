-- Records with CR and LF behind them, against the same records bare. Assumes nothing.
use Rattle.std.specs.Prelude.{Err, Ok}
use Prim.Native.Nat.{ℕ}
use mathlib.Core.Bool.{Bool, true, false}
use mathlib.Core.List.{List, [], ◌∷◌, map, append-nil}
use mathlib.Core.Path.{◌≡◌, refl, sym, ap, ap₂, ◌∙◌}
use native.Mathlib.Omega.{arith}
use lib.ListN.{length, get_or}
use lib.Seq.{take-take}
use Rattle.answer.specs.declared.Reason.TheVariants.{NotExpected}
use Rattle.answer.specs.Answers.{Answer, Accepted}
use Rattle.answer.specs.Orders.{require, ◌then◌, if_accepted, Each}
use Rattle.answer.proofs.Orders.{then_accepted}
use Rattle.answer.proofs.Tests.{never, unequal}
use Rattle.layout.specs.Layouts.{record_length, named_by}
use Rattle.barcode.specs.Agreed.{list_answer}
use Rattle.record.specs.Values.{Decoded, decoded_record_under}
use Rattle.record.specs.declared.Contents.TheVariants as contents
use Rattle.file.specs.Files.{file_answer, figures_answer}
use Rattle.file.specs.Forms.{in_form, body_of}
use Rattle.file.proofs.Forms.{body_in, ended_in, fits_in, ends_in}
use Rattle.session.specs.declared.Session.{Session}
use Rattle.session.specs.Sessions.{session_terms, session_expects, session_answer, session_with, take_answer, next_session, take_of}
use Rattle.ledger.specs.Ledgers.{taking}
use Rattle.ledger.specs.Promises.{session_after, answers_of}
use Rattle.ledger.specs.WholeFiles.{all_in_form}
use Rattle.ledger.specs.Forms.{as_bare, FormsAgree, OnlyEndedRecords}
use Rattle.ledger.proofs.WholeFiles.{first_of_holds}
use Rattle.ledger.proofs.AcceptedFiles.{taken_right}

-- the answer of a session to a record of 150 bytes, but for its length and its end
abbrev body_answer : List ℕ → Session → List ℕ → Answer
body_answer agreed s rec =
    require (session_expects s.opened (named_by (get_or rec 0 0))) NotExpected 1
    then session_answer s rec (decoded_record_under (session_terms agreed s) rec)

-- of a record in the form of the open file, nothing else decides
module _ (agreed : List ℕ) (s : Session) (lined : Bool) (rec : List ℕ) (n : length rec ≡ record_length) (form : s.opened ≡ true → lined ≡ s.file.lined) where
  pub answer_in : take_answer agreed s (in_form lined rec) ≡ body_answer agreed s rec
  answer_in =
      rw (fits_in s.opened s.file.lined rec n lined form, ends_in s.opened s.file.lined rec n lined form, first_of_holds lined rec n, body_in rec n lined, then_accepted (session_answer s rec (decoded_record_under (session_terms agreed s) rec)))

  pub next_in : next_session agreed s (in_form lined rec) ≡ session_with s lined rec (decoded_record_under (session_terms agreed s) rec)
  next_in = rw (body_in rec n lined, ended_in rec n lined)

-- bare, with nothing behind it
bare_answer : (agreed : List ℕ) (s : Session) (rec : List ℕ) → length rec ≡ record_length → (s.opened ≡ true → false ≡ s.file.lined)
    → take_answer agreed s rec ≡ body_answer agreed s rec
bare_answer agreed s rec n form = ap (take_answer agreed s) (sym (append-nil rec)) ∙ answer_in agreed s false rec n form

bare_next : (agreed : List ℕ) (s : Session) (rec : List ℕ) → length rec ≡ record_length → (s.opened ≡ true → false ≡ s.file.lined)
    → next_session agreed s rec ≡ session_with s false rec (decoded_record_under (session_terms agreed s) rec)
bare_next agreed s rec n form = ap (next_session agreed s) (sym (append-nil rec)) ∙ next_in agreed s false rec n form

-- The form of the open file decides nothing else.

state_bare : (s : Session) (rec : List ℕ) (d : Decoded) → session_answer s rec d ≡ session_answer (as_bare s) rec d
unfolding file_answer figures_answer
state_bare s rec (Ok (contents.Header h)) = refl
state_bare s rec (Ok (contents.Payment p)) = refl
state_bare s rec (Ok (contents.Trailer t)) = refl
state_bare s rec (Err refusal) = refl

answer_bare : (agreed : List ℕ) (s : Session) (rec : List ℕ) → body_answer agreed s rec ≡ body_answer agreed (as_bare s) rec
answer_bare agreed s rec =
    ap (λ (a : Answer). require (session_expects s.opened (named_by (get_or rec 0 0))) NotExpected 1 then a)
    (state_bare s rec (decoded_record_under (session_terms agreed s) rec))

next_bare : (s : Session) (ended : Bool) (rec : List ℕ) (d : Decoded)
    → as_bare (session_with s ended rec d) ≡ as_bare (session_with (as_bare s) false rec d)
next_bare s ended rec (Ok (contents.Header h)) = refl
next_bare s ended rec (Ok (contents.Payment p)) = refl
next_bare s ended rec (Ok (contents.Trailer t)) = refl
next_bare s ended rec (Err refusal) = refl

-- Two sessions that are equal but for the form: the file that is open in the first is lined, in the second bare.
record Twins (s u : Session) : Type 0 where
  same : as_bare s ≡ as_bare u
  lined : s.opened ≡ true → true ≡ s.file.lined
  bare : u.opened ≡ true → false ≡ u.file.lined

pub keeps_form : (s : Session) (ended : Bool) (rec : List ℕ) (d : Decoded) → (s.opened ≡ true → ended ≡ s.file.lined)
    → (session_with s ended rec d).opened ≡ true → ended ≡ (session_with s ended rec d).file.lined
keeps_form s ended rec (Ok (contents.Header h)) form e = refl
keeps_form s ended rec (Ok (contents.Payment p)) form e = form e
keeps_form s ended rec (Ok (contents.Trailer t)) form e = never e
keeps_form s ended rec (Err refusal) form e = form e

twins_next : (s u : Session) (rec : List ℕ) (d : Decoded) → Twins s u → Twins (session_with s true rec d) (session_with u false rec d)
twins_next s u rec d h =
    record {
      same =
          next_bare s true rec d ∙ ap (λ (x : Session). as_bare (session_with x false rec d)) h.same
          ∙ sym (next_bare u false rec d);
      lined = keeps_form s true rec d h.lined;
      bare = keeps_form u false rec d h.bare;
    }

-- one record
module _ (agreed : List ℕ) (s u : Session) (h : Twins s u) (rec : List ℕ) (n : length rec ≡ record_length) where
  one_answer : take_answer agreed s (in_form true rec) ≡ take_answer agreed u rec
  one_answer =
      answer_in agreed s true rec n h.lined ∙ answer_bare agreed s rec ∙ ap (λ (x : Session). body_answer agreed x rec) h.same
      ∙ sym (answer_bare agreed u rec) ∙ sym (bare_answer agreed u rec n h.bare)

  one_terms : session_terms agreed s ≡ session_terms agreed u
  one_terms = ap (session_terms agreed) h.same

  twins_left : (a : Answer) → Twins (if_accepted a (next_session agreed s (in_form true rec)) s) (if_accepted a (next_session agreed u rec) u)
  twins_left (Err refusal) = h
  twins_left Accepted =
      let d = decoded_record_under (session_terms agreed u) rec in
      let lined : next_session agreed s (in_form true rec) ≡ session_with s true rec d = next_in agreed s true rec n h.lined ∙ rw one_terms in
      rw (lined, bare_next agreed u rec n h.bare) (twins_next s u rec d h)

  twins_taken : Twins (take_of agreed s (in_form true rec)).session (take_of agreed u rec).session
  twins_taken = rw one_answer (twins_left (take_of agreed u rec).answer)

both_agree : (agreed : List ℕ) (recs : List (List ℕ)) (s u : Session) → Twins s u → Each (λ (rec : List ℕ). length rec ≡ record_length) recs
    → (answers_of s (map (taking agreed) (all_in_form true recs)) ≡ answers_of u (map (taking agreed) recs))
    × (as_bare (session_after s (map (taking agreed) (all_in_form true recs))) ≡ as_bare (session_after u (map (taking agreed) recs)))
both_agree agreed [] s u h n = (refl, h.same)
both_agree agreed (rec ∷ recs) s u h n =
    let later = both_agree agreed recs (take_of agreed s (in_form true rec)).session (take_of agreed u rec).session (twins_taken agreed s u h rec n.0) n.1 in
    (ap₂ (λ (a : Answer) (rest : List Answer). (list_answer agreed then a) ∷ rest) (one_answer agreed s u h rec n.0) later.0, later.1)

pub forms_agree : FormsAgree
forms_agree agreed s recs closed n =
    both_agree agreed recs s s (record { same = refl; lined = λ e. unequal e closed; bare = λ e. unequal e closed }) n

pub only_ended_records : OnlyEndedRecords
only_ended_records agreed s rec opened lined =
    let body = body_of rec in
    let same : (length body ≡ record_length) → (take_of agreed s (in_form true body)).answer ≡ (take_of agreed (as_bare s) body).answer = λ n.
    ap (λ (a : Answer). list_answer agreed then a)
    (answer_in agreed s true body n (λ e. sym lined) ∙ answer_bare agreed s body ∙ sym (bare_answer agreed (as_bare s) body n (λ e. refl))) in
    let taken : List ℕ → Answer = λ x. (take_of agreed s x).answer in (
      λ e.
          let own = taken_right agreed s rec e in
          let form : rec ≡ in_form true body = rw (opened, lined) at own.form in
          (sym (same own.long) ∙ ap taken (sym form) ∙ e, form),
      λ h.
          let long = (taken_right agreed (as_bare s) body h.0).long in
          let n : length body ≡ record_length = ap length (sym (take-take record_length record_length rec (omega arith))) ∙ long in
          ap taken h.1 ∙ same n ∙ h.0,
    )
