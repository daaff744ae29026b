-- Lined files against bare ones (SPEC.md, "Line ends"). Assumes nothing.
use Rattle.std.specs.Prelude.{ℕ, true, false, List, map, ◌↔◌, ◌≡◌, length}
use Rattle.answer.specs.Answers.{Accepted}
use Rattle.answer.specs.Orders.{Each}
use Rattle.layout.specs.Layouts.{record_length}
use Rattle.file.specs.Forms.{in_form, body_of}
use Rattle.session.specs.declared.Session.{Session}
use Rattle.session.specs.Sessions.{session_working, take_of}
use Rattle.ledger.specs.Ledgers.{taking}
use Rattle.ledger.specs.Promises.{session_after, answers_of}
use Rattle.ledger.specs.WholeFiles.{all_in_form}

-- the session, its open file bare
abbrev pub as_bare : Session → Session
as_bare s =
    session_working s s.work
    (record { taken = s.file.taken; total = s.file.total; version = s.file.version; lined = false })

-- Promise: one statement over both forms. Of any session with no file open, and any records of 150 bytes, whatever they
-- hold, under one list: each taken with CR and LF behind it gets the answer that it gets bare, one after the other, and
-- the sessions left are equal but for the form.
abbrev pub FormsAgree : Type 0
FormsAgree =
    (agreed : List ℕ) (s : Session) (recs : List (List ℕ)) → s.opened ≡ false
    → Each (λ (rec : List ℕ). length rec ≡ record_length) recs
    → let lined = map (taking agreed) (all_in_form true recs) in
    let bare = map (taking agreed) recs in
    (answers_of s lined ≡ answers_of s bare) × (as_bare (session_after s lined) ≡ as_bare (session_after s bare))

-- Promise: in an open lined file a record is accepted exactly if its first 150 bytes would be in a bare one, and CR and
-- LF and nothing more follow.
abbrev pub OnlyEndedRecords : Type 0
OnlyEndedRecords =
    (agreed : List ℕ) (s : Session) (rec : List ℕ) → s.opened ≡ true → s.file.lined ≡ true
    → ((take_of agreed s rec).answer ≡ Accepted)
    ↔ (((take_of agreed (as_bare s) (body_of rec)).answer ≡ Accepted) × (rec ≡ in_form true (body_of rec)))
