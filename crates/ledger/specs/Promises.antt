-- The session against the ledger (SPEC.md, "Sessions" and "Board"; demand 2). Assumes nothing.
use Rattle.std.specs.Prelude.{ℕ, ◌+◌, ◌≤◌, ◌<◌, true, false, ◌&&◌, List, [], ◌∷◌, ◌++◌, ◌↔◌, ◌≡◌, length, get_or, Some}
use Rattle.std.proofs.Math.Option.{Option, none, some}
use Rattle.answer.specs.declared.Reason.TheVariants.{FixedDiffers, BoardTotalPassed}
use Rattle.answer.specs.Answers.{Answer, Accepted, Refused}
use Rattle.answer.specs.Refusals.{answer_number, answer_place, tariff_place}
use Rattle.answer.specs.Orders.{Each}
use Rattle.layout.specs.declared.Record.TheVariants.{Payment, Trailer}
use Rattle.layout.specs.Layouts.{named_by, row_at, version_row}
use Rattle.barcode.specs.Agreed.{RightList}
use Rattle.kinds.specs.Terms.{is_version}
use Rattle.record.specs.Records.{record_check}
use Rattle.record.specs.Values.{trailer_shown}
use Rattle.file.specs.Files.{no_file, file_answer}
use Rattle.file.specs.Forms.{in_form, body_of, fits_length}
use Rattle.board.specs.declared.Lane.{Lane}
use Rattle.board.specs.Lanes.{most_lanes, limit, payments_fit, tariff_fits, lanes_from, sum_by, each, issuers_of, Distinct}
use Rattle.board.specs.Boards.{lanes_of, slot_of, grown_slot, SoundBoard}
use Rattle.pairs.specs.declared.Pair.{Pair}
use Rattle.pairs.specs.Pairs.{most_pairs, remembered_for, remembering, no_pair, pairs_of, memory_with, SoundMemory, has_room_for}
use Rattle.session.specs.declared.Session.{Session}
use Rattle.session.specs.Sessions.{fresh_session, pair_in, session_terms, take_of, abandon_of, finish_of}
use Rattle.ledger.specs.Ledgers.{Opened, Filed, Ledger, fresh_ledger, headers_of, payment_records, open_records, received_by, lane_of_record, lanes_of_records, is_open, is_open_lined, received_in, tariff_in, of_issuer, issuers_named, ledger_check, Step, taking, abandoning, header_terms, open_version, ledger_after, ledger_answers}

-- The same steps through a session.

abbrev pub session_step : Session → Step → Session
session_step s (taking agreed rec) = (take_of agreed s rec).session
session_step s abandoning = abandon_of s

abbrev pub session_after : Session → List Step → Session
session_after s [] = s
session_after s (step ∷ steps) = session_after (session_step s step) steps

abbrev pub answers_of : Session → List Step → List Answer
answers_of s [] = []
answers_of s (taking agreed rec ∷ steps) =
    (take_of agreed s rec).answer ∷ answers_of (take_of agreed s rec).session steps
answers_of s (abandoning ∷ steps) = answers_of (abandon_of s) steps

-- From a fresh session and a fresh ledger: the board shown, and the payment records of the accepted files.

abbrev pub reached : List Step → Session
reached steps = session_after fresh_session steps

abbrev pub ledger_of : List Step → Ledger
ledger_of steps = ledger_after fresh_ledger steps

abbrev pub shown_lanes : List Step → List Lane
shown_lanes steps = lanes_of (reached steps).shown

abbrev pub accepted_records : List Step → List (List ℕ)
accepted_records steps = payment_records (ledger_of steps).accepted

-- what a memory remembers of files that were accepted one after the other, by their headers
abbrev pub remembered_after : List Pair → List (List ℕ) → List Pair
remembered_after qs [] = qs
remembered_after qs (h ∷ hs) = remembered_after (remembering (pair_in h) qs) hs

abbrev pub remembered : List Filed → List Pair
remembered files = remembered_after [] (headers_of files)

-- the pair and the number of the open file; zeros with none open
abbrev pub open_pair : Option Opened → Pair
open_pair none = no_pair
open_pair (some f) = pair_in f.header

-- The invariant: the board shown has the payments of the accepted files, the working board those of the open file too;
-- the session's version is the one that the open file's header names, and its form is the open file's. The memory has
-- what it remembers of the accepted files, and room for the open one.

abbrev pub all_records : Ledger → List (List ℕ)
all_records k = payment_records k.accepted ++ open_records k.opened

pub record Agrees (s : Session) (k : Ledger) : Type 0 where
  pub opened : s.opened ≡ is_open k.opened
  pub shown : lanes_of s.shown ≡ lanes_from (lanes_of_records (payment_records k.accepted))
  pub work : lanes_of s.work ≡ lanes_from (lanes_of_records (all_records k))
  pub taken : s.file.taken ≡ length (open_records k.opened)
  pub total : s.file.total ≡ received_in (open_records k.opened)
  pub version : s.file.version ≡ open_version k.opened
  pub lined : s.file.lined ≡ is_open_lined k.opened
  pub opening : s.opening ≡ open_pair k.opened
  pub memory : pairs_of s.memory ≡ remembered k.accepted
  pub room : s.opened ≡ true → has_room_for s.memory s.opening ≡ true
  pub sound_memory : SoundMemory s.memory
  pub sound_shown : SoundBoard s.shown
  pub sound_work : SoundBoard s.work

-- Promises, of any list of steps from a fresh session.

abbrev pub SessionAgrees : Type 0
SessionAgrees = (steps : List Step) → Agrees (reached steps) (ledger_of steps)

-- the answers are the ledger's, step by step, and so is the answer to whatever record comes next
abbrev pub AnswersAreTheLedgers : Type 0
AnswersAreTheLedgers = (steps : List Step) → answers_of fresh_session steps ≡ ledger_answers fresh_ledger steps

abbrev pub NextAnswerIsTheLedgers : Type 0
NextAnswerIsTheLedgers =
    (steps : List Step) (agreed rec : List ℕ)
    → (take_of agreed (reached steps) rec).answer ≡ ledger_check agreed (ledger_of steps) rec

-- the lanes shown are the payments of the accepted files grouped by issuer, in order of first appearance
abbrev pub LanesAreThePayments : Type 0
LanesAreThePayments = (steps : List Step) → shown_lanes steps ≡ lanes_from (lanes_of_records (accepted_records steps))

abbrev pub LanesInOrder : Type 0
LanesInOrder =
    (steps : List Step) → issuers_of (shown_lanes steps) ≡ issuers_named [] (accepted_records steps)

-- each lane shows exactly the payments of its issuer: their number, the centavos received and the tariffs, at full size
abbrev pub EachLaneIsExact : Type 0
EachLaneIsExact =
    (steps : List Step)
    → Each
    (λ (l : Lane).
    (l.tally.payments ≡ length (of_issuer l.issuer (accepted_records steps)))
    × (l.tally.centavos ≡ received_in (of_issuer l.issuer (accepted_records steps)))
    × (l.tally.tariff ≡ tariff_in (of_issuer l.issuer (accepted_records steps))))
    (shown_lanes steps)

-- the sums over the lanes, and the board's totals, are the sums over the payment records of all accepted files
abbrev pub SumsAreTheRecords : Type 0
SumsAreTheRecords =
    (steps : List Step)
    → (sum_by (each (λ t. t.payments)) (shown_lanes steps) ≡ length (accepted_records steps))
    × (sum_by (each (λ t. t.centavos)) (shown_lanes steps) ≡ received_in (accepted_records steps))
    × (sum_by (each (λ t. t.tariff)) (shown_lanes steps) ≡ tariff_in (accepted_records steps))

abbrev pub TotalsAreTheRecords : Type 0
TotalsAreTheRecords =
    (steps : List Step)
    → let recs = accepted_records steps in
    (reached steps).shown.total
    ≡ record { payments = length recs; centavos = received_in recs; tariff = tariff_in recs }

abbrev pub NoIssuerHasTwoLanes : Type 0
NoIssuerHasTwoLanes = (steps : List Step) → Distinct (issuers_of (shown_lanes steps))

abbrev pub WithinLimits : Type 0
WithinLimits =
    (steps : List Step)
    → (length (shown_lanes steps) ≤ most_lanes) × ((reached steps).shown.total.payments ≤ limit)
    × ((reached steps).shown.total.centavos ≤ limit) × ((reached steps).shown.total.tariff ≤ limit)

-- in an open file and under a right list, a Z with right fields is accepted exactly if its count and total are the true
-- ones and CR and LF are all that follows it in a lined file, nothing in a bare one
abbrev pub TrueTrailersOnly : Type 0
TrueTrailersOnly =
    (steps : List Step) (f : Opened) (agreed rec : List ℕ)
    → (ledger_of steps).opened ≡ some f → record_check (header_terms agreed f.header) (body_of rec) ≡ Accepted
    → named_by (get_or rec 0 0) ≡ Some Trailer
    → ((take_of agreed (reached steps) rec).answer ≡ Accepted)
    ↔ (((trailer_shown (body_of rec)).count ≡ length f.payments + 2)
    × ((trailer_shown (body_of rec)).total ≡ received_in f.payments) × (rec ≡ in_form f.lined (body_of rec)))

-- a session with a file open has a version, 4 or 6; one with none open has no version, payments and centavos, and is
-- not lined
abbrev pub OpenFilesHaveAVersion : Type 0
OpenFilesHaveAVersion =
    (steps : List Step)
    → ((reached steps).opened ≡ true → is_version (reached steps).file.version ≡ true)
    × ((reached steps).opened ≡ false → (reached steps).file ≡ no_file)

-- Promises, of any session, one in an arbitrary state included.

-- in an open file whose version is another number than 4 and 6, every G whose length fits is refused 10 at the
-- version's place in a header
abbrev pub PaymentsTakenUnderAVersion : Type 0
PaymentsTakenUnderAVersion =
    (agreed : List ℕ) (s : Session) (rec : List ℕ) → RightList agreed → s.opened ≡ true
    → is_version s.file.version ≡ false → fits_length true s.file.lined rec ≡ true
    → named_by (get_or rec 0 0) ≡ Some Payment
    → (take_of agreed s rec).answer ≡ Refused FixedDiffers (row_at version_row).first

-- 18 points at the tariff exactly if a file is open, what is taken has a length that fits it and is a G that is right
-- in itself, the file takes it, there is a lane for its issuer, payments and centavos fit with it, and the tariffs of
-- its lane or of the total do not; whatever follows it
abbrev pub TariffsAreAskedLast : Type 0
TariffsAreAskedLast =
    (agreed : List ℕ) (s : Session) (rec : List ℕ)
    → let body = body_of rec in let p = lane_of_record body in let slot = slot_of s.work p.issuer in
    let lane = (grown_slot slot p).lane.tally in let total = (grown_slot slot p).total in
    ((take_of agreed s rec).answer ≡ Refused BoardTotalPassed tariff_place)
    ↔ ((s.opened ≡ true) × (fits_length true s.file.lined rec ≡ true) × (named_by (get_or rec 0 0) ≡ Some Payment)
    × (record_check (session_terms agreed s) body ≡ Accepted) × (file_answer s.file (received_by body) ≡ Accepted)
    × (slot.at < most_lanes) × (payments_fit lane ≡ true) × (payments_fit total ≡ true)
    × ((tariff_fits lane && tariff_fits total) ≡ false))

-- a refused record changes nothing
abbrev pub RefusalKeepsSession : Type 0
RefusalKeepsSession =
    (agreed : List ℕ) (s : Session) (rec : List ℕ) → ((take_of agreed s rec).answer ≡ Accepted → ⊥)
    → (take_of agreed s rec).session ≡ s

-- the board shown stays as it was until a Z is accepted; then the payments of the open file are shown together
abbrev pub OnlyTrailersShow : Type 0
OnlyTrailersShow =
    (agreed : List ℕ) (s : Session) (rec : List ℕ) → (named_by (get_or rec 0 0) ≡ Some Trailer → ⊥)
    → (take_of agreed s rec).session.shown ≡ s.shown

abbrev pub TrailersShowAll : Type 0
TrailersShowAll =
    (agreed : List ℕ) (s : Session) (rec : List ℕ) → named_by (get_or rec 0 0) ≡ Some Trailer
    → (take_of agreed s rec).answer ≡ Accepted → (take_of agreed s rec).session.shown ≡ s.work

abbrev pub NoTrailer : Step → Type 0
NoTrailer (taking agreed rec) = named_by (get_or rec 0 0) ≡ Some Trailer → ⊥
NoTrailer abandoning = Unit {0}

abbrev pub NothingShowsBefore : Type 0
NothingShowsBefore = (s : Session) (steps : List Step) → Each NoTrailer steps → (session_after s steps).shown ≡ s.shown

-- every record but an accepted Z leaves the memory as it was; a Z has the number of the open file remembered for its
-- pair, if the pair is there or has room, as in every session that steps reach (the array has 16 entries, as every
-- array of the code has)
abbrev pub OnlyTrailersRemember : Type 0
OnlyTrailersRemember =
    (agreed : List ℕ) (s : Session) (rec : List ℕ)
    → (named_by (get_or rec 0 0) ≡ Some Trailer → (take_of agreed s rec).answer ≡ Accepted → ⊥)
    → (take_of agreed s rec).session.memory ≡ s.memory

abbrev pub TrailersRemember : Type 0
TrailersRemember =
    (agreed : List ℕ) (s : Session) (rec : List ℕ) → named_by (get_or rec 0 0) ≡ Some Trailer
    → (take_of agreed s rec).answer ≡ Accepted
    → ((take_of agreed s rec).session.memory ≡ memory_with s.memory s.opening)
    × (length s.memory.pairs ≡ most_pairs → has_room_for s.memory s.opening ≡ true
    → remembered_for s.opening (pairs_of (take_of agreed s rec).session.memory) ≡ some s.opening.sequence)

-- an abandoned file leaves the board and the memory as they were; with no file open nothing changes
abbrev pub AbandonKeepsBoard : Type 0
AbandonKeepsBoard = (s : Session) → (abandon_of s).shown ≡ s.shown

abbrev pub AbandonKeepsMemory : Type 0
AbandonKeepsMemory = (s : Session) → (abandon_of s).memory ≡ s.memory

abbrev pub AbandonDropsFile : Type 0
AbandonDropsFile = (s : Session) → (abandon_of s).opened ≡ false

abbrev pub AbandonNothing : Type 0
AbandonNothing = (s : Session) → s.opened ≡ false → abandon_of s ≡ s

-- finishing changes nothing, and answers 19 at place 0 while a file is open, else 0
abbrev pub FinishKeepsSession : Type 0
FinishKeepsSession = (s : Session) → (finish_of s).session ≡ s

abbrev pub FinishAnswers : Type 0
FinishAnswers =
    (s : Session)
    → ((answer_number (finish_of s).answer ≡ 19) ↔ (s.opened ≡ true))
    × ((answer_number (finish_of s).answer ≡ 0) ↔ (s.opened ≡ false))
    × (answer_place (finish_of s).answer ≡ 0)
