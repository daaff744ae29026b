-- A run over the bytes of a file, lined or bare, whose records are all accepted. Assumes nothing.
use Rattle.std.specs.Prelude.{Err, None, Some}
use Prim.Native.Nat.{ℕ, suc, ◌+◌, ◌≤◌}
use mathlib.Core.Bool.{Bool, true, false, and-false}
use mathlib.Core.List.{List, [], ◌∷◌, ◌++◌, map, append-nil}
use mathlib.Core.Path.{◌≡◌, refl, sym, ap, ap₂, ◌∙◌}
use native.Mathlib.Omega.{arith}
use borrow.Author.Tests.{ne_eqb}
use lib.Dec.{eqb}
use lib.ListN.{length, get_or, take, drop, length-append, length-take, get_or-append}
use lib.Seq.{take_at, drop_at, get_or-take, get_or-append-add}
use Rattle.answer.specs.Answers.{Answer, Accepted}
use Rattle.answer.specs.Orders.{if_accepted, Each}
use Rattle.answer.proofs.Orders.{then_accepts, accepted_takes}
use Rattle.answer.proofs.Tests.{unequal}
use Rattle.layout.specs.declared.Record.{Record}
use Rattle.layout.specs.declared.Record.TheVariants.{Header, Payment, Trailer}
use Rattle.layout.specs.Layouts.{record_length, named_by}
use Rattle.barcode.specs.Agreed.{list_answer}
use Rattle.kinds.specs.Terms.{Terms}
use Rattle.record.specs.Values.{decoded_record_under}
use Rattle.record.proofs.Shown.{accepted_is}
use Rattle.file.specs.Forms.{end_of, in_form, lined_length, length_of, has_line_end, is_next_lined}
use Rattle.file.proofs.Forms.{length_in, ended_in, not_ended}
use Rattle.board.specs.Boards.{board_with_all}
use Rattle.session.specs.declared.Session.{Session}
use Rattle.session.specs.declared.RunResult.{RunResult}
use Rattle.pairs.specs.Pairs.{memory_with}
use Rattle.session.specs.Sessions.{closed_at, pair_in, session_terms, take_answer, next_session, take_under, take_of}
use Rattle.session.specs.Runs.{piece_length, piece_of, pieces_of, files_closed, add_counts, stopped_if_refused, run_all, bytes_of}
use Rattle.session.proofs.Runs.{pieces_cons}
use Rattle.session.proofs.Feeding.{run_right}
use Rattle.ledger.specs.Ledgers.{lanes_of_records, header_terms, taking}
use Rattle.ledger.specs.Promises.{session_after, answers_of}
use Rattle.ledger.specs.WholeFiles.{IsRight, records_of, all_in_form, AllAccepted}
use Rattle.ledger.specs.Runs.{PiecesAreTheRecords, FileBytesRun}
use Rattle.ledger.proofs.WholeFiles.{first_of_holds, as_many, file_posted}
use Rattle.ledger.proofs.Forms.{next_in, keeps_form}

-- The pieces.

-- without CR behind it a record is not ended
no_cr : (bytes : List ℕ) → (get_or bytes record_length 0 ≡ 13 → ⊥) → has_line_end bytes ≡ false
unfolding has_line_end
no_cr bytes h = rw (ne_eqb (get_or bytes record_length 0) 13 h) (and-false (eqb (length bytes) lined_length))

-- a record of 150 bytes, which does not begin with 13 if it is bare
abbrev Joins : Bool → List ℕ → Type 0
Joins lined rec = (length rec ≡ record_length) × (lined ≡ false → get_or rec 0 0 ≡ 13 → ⊥)

-- what follows a record among others of its form
ahead : (lined : Bool) (rec : List ℕ) (recs : List (List ℕ)) → length rec ≡ record_length → Each (Joins lined) recs
    → has_line_end (take lined_length (in_form lined rec ++ bytes_of (all_in_form lined recs))) ≡ lined
ahead true rec recs n h =
    ap has_line_end (take_at (in_form true rec) (bytes_of (all_in_form true recs)) lined_length (length_in rec n true)) ∙ ended_in rec n true
ahead false rec [] n h =
    let bytes = in_form false rec ++ [] in
    let l : length bytes ≡ record_length = ap length (append-nil (in_form false rec)) ∙ length_in rec n false in
    not_ended (take lined_length bytes) (λ e. omega (arith, e, length-take lined_length bytes, l))
ahead false rec (next ∷ recs) n h =
    let rest = in_form false next ++ bytes_of (all_in_form false recs) in
    let bytes = in_form false rec ++ rest in
    let at : get_or (take lined_length bytes) record_length 0 ≡ get_or next 0 0 =
    get_or-take lined_length bytes record_length 0 (omega arith)
    ∙ ap (λ (k : ℕ). get_or bytes k 0) (sym (omega (arith, length_in rec n false)))
    ∙ get_or-append-add (in_form false rec) rest 0 0
    ∙ get_or-append (in_form false next) (bytes_of (all_in_form false recs)) 0 0 (omega (arith, length_in next h.0.0 false))
    ∙ first_of_holds false next h.0.0 in
    no_cr (take lined_length bytes) (λ e. h.0.1 refl (sym at ∙ e))

pub pieces_are_the_records : PiecesAreTheRecords
pieces_are_the_records agreed s lined [] form h = refl
pieces_are_the_records agreed s lined (rec ∷ recs) form h =
    let rest = bytes_of (all_in_form lined recs) in
    let bytes = in_form lined rec ++ rest in
    let n = h.0.0 in
    let own : length (in_form lined rec) ≡ length_of lined = length_in rec n lined in
    let size : piece_length s bytes ≡ length_of lined =
    ap length_of (piece_form s.opened refl) in
    let piece : piece_of s bytes ≡ in_form lined rec =
    ap (λ (k : ℕ). take k bytes) size ∙ take_at (in_form lined rec) rest (length_of lined) own in
    let left : drop (piece_length s bytes) bytes ≡ rest =
    ap (λ (k : ℕ). drop k bytes) size ∙ drop_at (in_form lined rec) rest (length_of lined) own in
    let enough : 1 ≤ length bytes = omega (arith, length-append (in_form lined rec) rest, length-append rec (end_of lined), n) in
    pieces_cons agreed s false bytes enough
    ∙ ap₂ (λ (r l : List ℕ). r ∷ pieces_of agreed (take_under agreed s r).session false l) piece left
    ∙ ap (λ (rs : List (List ℕ)). in_form lined rec ∷ rs)
    (pieces_are_the_records agreed (take_under agreed s (in_form lined rec)).session lined recs (keeps (take_answer agreed s (in_form lined rec))) h.1)
  where
    piece_form : (t : Bool) → s.opened ≡ t → is_next_lined s.opened s.file.lined (in_form lined rec ++ bytes_of (all_in_form lined recs)) ≡ lined
    piece_form true e = rw e (form e)
    piece_form false e = rw e (ahead lined rec recs h.0.0 h.1)

    keeps : (a : Answer) → (if_accepted a (next_session agreed s (in_form lined rec)) s).opened ≡ true
        → (if_accepted a (next_session agreed s (in_form lined rec)) s).file.lined ≡ lined
    keeps (Err refusal) e = form e
    keeps Accepted e =
        let d = decoded_record_under (session_terms agreed s) rec in
        let next = next_in agreed s lined rec h.0.0 (λ x. sym (form x)) in
        rw next (sym (keeps_form s lined rec d (λ x. sym (form x)) (rw next at e)))

-- Records that are all accepted.

abbrev closed_in : List (List ℕ) → ℕ
closed_in [] = 0
closed_in (rec ∷ recs) = files_closed (named_by (get_or rec 0 0)) + closed_in recs

abbrev taken : Session → ℕ → ℕ → ℕ → RunResult
taken s records files bytes = record { answer = Accepted; session = s; records = records; files = files; bytes = bytes }

run_accepted : (agreed : List ℕ) (recs : List (List ℕ)) (s : Session) → AllAccepted (answers_of s (map (taking agreed) recs))
    → run_all agreed s recs ≡ taken (session_after s (map (taking agreed) recs)) (length recs) (closed_in recs) (length (bytes_of recs))
run_accepted agreed [] s h = refl
run_accepted agreed (rec ∷ recs) s h =
    let c = files_closed (named_by (get_or rec 0 0)) in
    let after = session_after (take_of agreed s rec).session (map (taking agreed) recs) in
    let own : take_answer agreed s rec ≡ Accepted = ((then_accepts (list_answer agreed) (take_answer agreed s rec)).0 h.0).1 in
    let next : (take_of agreed s rec).session ≡ next_session agreed s rec = accepted_takes (take_of agreed s rec).answer (next_session agreed s rec) s h.0 in
    let one : 1 + length recs ≡ suc (length recs) = omega arith in
    ap (λ (a : Answer). stopped_if_refused a s (add_counts 1 c (length rec) (run_all agreed (next_session agreed s rec) recs))) own
    ∙ ap (λ (x : Session). add_counts 1 c (length rec) (run_all agreed x recs)) (sym next)
    ∙ ap (add_counts 1 c (length rec)) (run_accepted agreed recs (take_of agreed s rec).session h.1)
    ∙ ap₂ (λ (n k : ℕ). taken after n (c + closed_in recs) k) one (sym (length-append rec (bytes_of recs)))

-- A file's records.

long : (t : Terms) (r : Record) (rec : List ℕ) → IsRight t r rec → length rec ≡ record_length
long t r rec h = (accepted_is t rec h.0).0

-- they do not begin with 13
named_no_cr : (r : Record) (b : ℕ) → named_by b ≡ Some r → b ≡ 13 → ⊥
unfolding named_by
named_no_cr r b h e =
    let none : None ≡ Some r = rw e at h in
    let z : ◌≡◌ {A = ℕ} 0 1 = cc in
    omega arith

joins : (lined : Bool) (t : Terms) (r : Record) (rec : List ℕ) → IsRight t r rec → Joins lined rec
joins lined t r rec h = (long t r rec h, λ e. named_no_cr r (get_or rec 0 0) h.1)

all_join : (lined : Bool) (t : Terms) (recs : List (List ℕ)) (z : List ℕ) → Each (IsRight t Payment) recs → IsRight t Trailer z
    → Each (Joins lined) (recs ++ (z ∷ []))
all_join lined t [] z h right = (joins lined t Trailer z right, tt)
all_join lined t (rec ∷ recs) z h right = (joins lined t Payment rec h.0, all_join lined t recs z h.1 right)

-- how many files a record closes, in either form
closes : (lined : Bool) (t : Terms) (r : Record) (rec : List ℕ) → IsRight t r rec
    → files_closed (named_by (get_or (in_form lined rec) 0 0)) ≡ files_closed (Some r)
closes lined t r rec h = ap (λ (b : ℕ). files_closed (named_by b)) (first_of_holds lined rec (long t r rec h)) ∙ ap files_closed h.1

one_closed : (lined : Bool) (t : Terms) (recs : List (List ℕ)) (z : List ℕ) → Each (IsRight t Payment) recs → IsRight t Trailer z
    → closed_in (all_in_form lined (recs ++ (z ∷ []))) ≡ 1
one_closed lined t [] z h right = omega (arith, closes lined t Trailer z right)
one_closed lined t (rec ∷ recs) z h right = omega (arith, closes lined t Payment rec h.0, one_closed lined t recs z h.1 right)

-- with no file open, the pieces of a file's bytes are its records
pub file_pieces : (agreed : List ℕ) (s : Session) (lined : Bool) (t : Terms) (a : List ℕ) (recs : List (List ℕ)) (z : List ℕ) → s.opened ≡ false
    → IsRight t Header a → Each (IsRight t Payment) recs → IsRight t Trailer z
    → let all = all_in_form lined (records_of a recs z) in pieces_of agreed s false (bytes_of all) ≡ all
file_pieces agreed s lined t a recs z none_open first payments last =
    pieces_are_the_records agreed s lined (records_of a recs z) (λ x. unequal x none_open)
    (joins lined t Header a first, all_join lined t recs z payments last)

pub file_bytes_run : FileBytesRun
file_bytes_run agreed s lined a recs z none_open whole e =
    let t = header_terms agreed a in
    let records = records_of a recs z in
    let all = all_in_form lined records in
    let pieces = file_pieces agreed s lined t a recs z none_open whole.header whole.payments whole.trailer in
    let after = closed_at (board_with_all s.shown (lanes_of_records recs)) (memory_with s.memory (pair_in a)) in
    let left : session_after s (map (taking agreed) all) ≡ after = file_posted agreed s lined a recs z none_open whole e in
    let count : length all ≡ length recs + 2 = as_many lined records ∙ omega (arith, length-append recs (z ∷ [])) in
    let closed : closed_in all ≡ 1 =
    omega (arith, closes lined t Header a whole.header, one_closed lined t recs z whole.payments whole.trailer) in
    run_right agreed s false (bytes_of all) whole.list
    ∙ ap (run_all agreed s) pieces ∙ run_accepted agreed all s e
    ∙ ap (λ (x : Session). taken x (length all) (closed_in all) (length (bytes_of all))) left
    ∙ ap₂ (λ (n c : ℕ). taken after n c (length (bytes_of all))) count closed
