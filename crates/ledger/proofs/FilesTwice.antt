-- A file that was accepted is not accepted again. Assumes nothing.
use Rattle.std.specs.Prelude.{Some}
use Prim.Native.Nat.{ℕ}
use mathlib.Core.Bool.{Bool, false}
use mathlib.Core.List.{List, [], ◌∷◌, ◌++◌, map}
use mathlib.Core.Option.{Option, none, some}
use mathlib.Core.Path.{◌≡◌, refl, sym, ap, subst, ◌∙◌}
use borrow.Author.Tests.{ne_eqb}
use Rattle.answer.specs.Refusals.{sequence_place}
use Rattle.answer.specs.declared.Reason.TheVariants.{NotFollowing}
use Rattle.answer.specs.Answers.{Answer, Refused}
use Rattle.answer.specs.Orders.{◌then◌, Each}
use Rattle.answer.proofs.Tests.{unequal}
use Rattle.barcode.specs.Agreed.{RightList}
use Rattle.layout.specs.declared.Record.{Record}
use Rattle.layout.specs.declared.Record.TheVariants.{Header, Payment, Trailer}
use Rattle.layout.specs.Layouts.{named_by}
use Rattle.kinds.specs.Terms.{Terms}
use Rattle.record.proofs.Shown.{accepted_is}
use Rattle.file.specs.Forms.{in_form}
use Rattle.board.specs.Lanes.{lanes_from}
use Rattle.pairs.specs.Pairs.{next_number, remembered_for, follows, pairs_of}
use Rattle.pairs.proofs.Memories.{no_number_follows_itself}
use Rattle.session.specs.declared.Session.{Session}
use Rattle.session.specs.Sessions.{TakeResult, pair_in, session_expects, take_answer, take_of}
use Rattle.session.specs.Runs.{empty_run, run_all, run_of, bytes_of}
use Rattle.session.proofs.Feeding.{run_right}
use Rattle.ledger.specs.Ledgers.{Filed, payment_records, lanes_of_records, headers_of, number_shown, are_of_one_pair, latest_number, header_terms, is_open, Step, taking}
use Rattle.ledger.specs.Promises.{session_after, reached, ledger_of, shown_lanes}
use Rattle.ledger.specs.WholeFiles.{IsRight, SoundFile, records_of, all_in_form, file_of}
use Rattle.ledger.specs.Numbers.{FileAgainIsRefused, FileTwiceIsRefused}
use Rattle.ledger.proofs.Headers.{one_pair_self}
use Rattle.ledger.proofs.Records.{records_joined}
use Rattle.ledger.proofs.Agreement.{session_agrees}
use Rattle.ledger.proofs.Shown.{lanes_are_the_payments}
use Rattle.ledger.proofs.Sessions.{refusal_keeps_session}
use Rattle.ledger.proofs.WholeFiles.{right_under_any_terms, first_of_holds, headers_ask_the_memory}
use Rattle.ledger.proofs.AcceptedFiles.{taken_right}
use Rattle.ledger.proofs.LedgerFiles.{ledger_files_are_whole}
use Rattle.ledger.proofs.FileBytes.{file_pieces}
use Rattle.ledger.proofs.Numbers.{last_number_is_remembered}

-- The number of a file behind which no accepted file is of its pair.

none_later : (a : List ℕ) (files : List Filed) → Each (λ (g : Filed). are_of_one_pair g.header a ≡ false) files
    → latest_number a (headers_of files) ≡ none
none_later a [] h = refl
none_later a (g ∷ files) h = rw (none_later a files h.1, h.0)

latest_here : (before : List Filed) (f : Filed) (after : List Filed)
    → Each (λ (g : Filed). are_of_one_pair g.header f.header ≡ false) after
    → latest_number f.header (headers_of (before ++ (f ∷ after))) ≡ some (number_shown f.header)
latest_here [] f after h = rw (none_later f.header after h, one_pair_self f.header)
latest_here (g ∷ before) f after h = rw (latest_here before f after h)

-- With no file open neither a payment nor a trailer is taken.

module _ (agreed : List ℕ) (s : Session) (closed : s.opened ≡ false) (lined : Bool) (t : Terms) where
  not_taken : (r : Record) (rec : List ℕ) → session_expects false (Some r) ≡ false → IsRight t r rec
      → (take_of agreed s (in_form lined rec)).session ≡ s
  not_taken r rec e h =
      let named = ap named_by (first_of_holds lined rec (accepted_is t rec h.0).0) ∙ h.1 in
      refusal_keeps_session agreed s (in_form lined rec)
      (λ x. unequal (rw (closed, named) at (taken_right agreed s (in_form lined rec) x).expected) e)

  rest_not_taken : (recs : List (List ℕ)) (z : List ℕ) → Each (IsRight t Payment) recs → IsRight t Trailer z
      → session_after s (map (taking agreed) (all_in_form lined (recs ++ (z ∷ [])))) ≡ s
  rest_not_taken [] z h last = not_taken Trailer z refl last
  rest_not_taken (rec ∷ recs) z h last =
      ap (λ (x : Session). session_after x (map (taking agreed) (all_in_form lined (recs ++ (z ∷ [])))))
      (not_taken Payment rec refl h.0)
      ∙ rest_not_taken recs z h.1 last

each_at : {A : Type 0} (P : A → Type 0) (xs : List A) (x : A) (ys : List A) → Each P (xs ++ (x ∷ ys)) → P x
each_at P [] x ys h = h.0
each_at P (y ∷ xs) x ys h = each_at P xs x ys h.1

module _ (steps : List Step) (agreed : List ℕ) (lined : Bool) (before : List Filed) (f : Filed) (after : List Filed)
    (right : RightList agreed) (none_open : (ledger_of steps).opened ≡ none) (are : (ledger_of steps).accepted ≡ before ++ (f ∷ after))
    (not-next : follows (latest_number f.header (headers_of (before ++ (f ∷ after)))) (number_shown f.header) ≡ false) where
  abbrev s : Session
  s = reached steps

  abbrev t : Terms
  t = header_terms [] f.header

  closed : s.opened ≡ false
  closed = (session_agrees steps).opened ∙ ap is_open none_open

  sound : SoundFile f
  sound = each_at SoundFile before f after (subst (Each SoundFile) are (ledger_files_are_whole steps))

  remembered : remembered_for (pair_in f.header) (pairs_of s.memory) ≡ latest_number f.header (headers_of (before ++ (f ∷ after)))
  remembered =
      last_number_is_remembered steps f.header
      ∙ ap (λ (files : List Filed). latest_number f.header (headers_of files)) are

  header_refused : take_of agreed s (in_form lined f.header)
      ≡ record { answer = Refused NotFollowing sequence_place; session = s }
  header_refused =
      let own = right_under_any_terms t (header_terms agreed f.header) Header f.header refl sound.whole.header in
      headers_ask_the_memory agreed s lined f.header right closed own ∙ rw (remembered, not-next)

  abbrev all : List (List ℕ)
  all = all_in_form lined (records_of f.header f.payments f.trailer)

  run_refused : run_of agreed s false (bytes_of all) ≡ empty_run (Refused NotFollowing sequence_place) s
  run_refused =
      let whole = sound.whole in
      let pieces = file_pieces agreed s lined t f.header f.payments f.trailer closed whole.header whole.payments whole.trailer in
      let answer : take_answer agreed s (in_form lined f.header) ≡ Refused NotFollowing sequence_place =
      sym (ap (λ (a : Answer). a then take_answer agreed s (in_form lined f.header)) right)
      ∙ ap (λ (x : TakeResult). x.answer) header_refused in
      run_right agreed s false (bytes_of all) right ∙ ap (run_all agreed s) pieces ∙ rw answer

  session_stays : session_after s (file_of agreed lined f.header f.payments f.trailer) ≡ s
  session_stays =
      ap (λ (x : TakeResult). session_after x.session (map (taking agreed) (all_in_form lined (f.payments ++ (f.trailer ∷ []))))) header_refused
      ∙ rest_not_taken agreed s closed lined t f.payments f.trailer sound.whole.payments sound.whole.trailer

  shown_once : shown_lanes steps ≡ lanes_from (lanes_of_records (payment_records before ++ (f.payments ++ payment_records after)))
  shown_once =
      lanes_are_the_payments steps
      ∙ ap (λ (files : List Filed). lanes_from (lanes_of_records (payment_records files))) are
      ∙ ap (λ (recs : List (List ℕ)). lanes_from (lanes_of_records recs)) (records_joined before (f ∷ after))

pub file_again_is_refused : FileAgainIsRefused
file_again_is_refused steps agreed lined before f after right none_open are not-next = (
  header_refused steps agreed lined before f after right none_open are not-next,
  run_refused steps agreed lined before f after right none_open are not-next,
  session_stays steps agreed lined before f after right none_open are not-next,
  shown_once steps agreed lined before f after right none_open are not-next,
)

pub file_twice_is_refused : FileTwiceIsRefused
file_twice_is_refused steps agreed lined before f after right none_open are others =
    let n = number_shown f.header in
    file_again_is_refused steps agreed lined before f after right none_open are
    (ap (λ (o : Option ℕ). follows o n) (latest_here before f after others) ∙ ne_eqb n (next_number n) (no_number_follows_itself n))
