-- Every accepted file of a ledger is whole: what holds of the open file, and of the accepted ones, is kept by each
-- step. Assumes nothing.
use Rattle.std.specs.Prelude.{None, Option as Maybe, Some}
use Prim.Native.Nat.{ℕ, ◌+◌, ◌≤◌}
use mathlib.Core.Bool.{Bool, true, false, false≢true}
use mathlib.Core.List.{List, [], ◌∷◌, ◌++◌}
use mathlib.Core.Option.{Option, none, some}
use mathlib.Core.Path.{◌≡◌, refl, sym, ap, ◌∙◌}
use native.Mathlib.Omega.{arith}
use borrow.Author.Tests.{ltb-true, leb-true}
use lib.Dec.{ltb, leb}
use lib.ListN.{length, get_or, length-append}
use Rattle.answer.specs.Refusals.{received_place}
use Rattle.answer.specs.declared.Reason.TheVariants.{FileFull, FileTotalPassed}
use Rattle.answer.specs.Answers.{Accepted}
use Rattle.answer.specs.Orders.{Each}
use Rattle.answer.proofs.Steps.{passed}
use Rattle.layout.specs.declared.Record.{Record}
use Rattle.layout.specs.declared.Record.TheVariants.{Header, Payment, Trailer}
use Rattle.layout.specs.Layouts.{named_by}
use Rattle.barcode.proofs.Lists.{empty_is_right}
use Rattle.kinds.specs.Terms.{told, is_version}
use Rattle.record.specs.Records.{record_answer}
use Rattle.record.proofs.Shown.{header_version}
use Rattle.file.specs.declared.File.{File}
use Rattle.file.specs.Files.{most_payments, most_centavos, no_file}
use Rattle.file.specs.Forms.{body_of, has_line_end}
use Rattle.file.proofs.Forms.{first_in}
use Rattle.ledger.specs.Ledgers.{Opened, Filed, Ledger, fresh_ledger, open_records, received_by, received_in, is_open, is_open_lined, ledger_expects, header_terms, open_version, ledger_terms, state_answer, filed_with, with_record, Step}
use Rattle.ledger.specs.Promises.{reached, ledger_of, Agrees, OpenFilesHaveAVersion}
use Rattle.ledger.specs.WholeFiles.{IsRight, SoundFile, LedgerFilesAreWhole}
use Rattle.ledger.proofs.Histories.{all_keep}
use Rattle.ledger.proofs.Records.{received_joined}
use Rattle.ledger.proofs.Agreement.{session_agrees}
use Rattle.ledger.proofs.Sessions.{figures_accept}
use Rattle.ledger.proofs.WholeFiles.{right_under_any_terms}

-- what holds of the open file, read under the empty list
record Right (f : Opened) : Type 0 where
  header : IsRight (header_terms [] f.header) Header f.header
  payments : Each (IsRight (header_terms [] f.header) Payment) f.payments
  few : length f.payments ≤ most_payments
  low : received_in f.payments ≤ most_centavos

abbrev RightIfOpen : Option Opened → Type 0
RightIfOpen none = Unit {0}
RightIfOpen (some f) = Right f

record Kept (k : Ledger) : Type 0 where
  files : Each SoundFile k.accepted
  opened : RightIfOpen k.opened

each_last : {A : Type 0} (P : A → Type 0) (xs : List A) (x : A) → Each P xs → P x → Each P (xs ++ (x ∷ []))
each_last P [] x h p = (p, tt)
each_last P (y ∷ xs) x h p = (h.0, each_last P xs x h.1 p)

module _ (files : List Filed) (ended : Bool) (rec : List ℕ) (all : Each SoundFile files) where
  with_payment : (f : Opened) → Right f → record_answer (header_terms [] f.header) rec ≡ Accepted → named_by (get_or rec 0 0) ≡ Some Payment
      → state_answer files (some f) (Some Payment) rec ≡ Accepted
      → Kept (with_record files (some f) (Some Payment) ended rec)
  with_payment f h own n e =
      let room = passed (ltb (length f.payments) most_payments) FileFull 1 e in
      let less =
      passed (leb (received_in f.payments + received_by rec) most_centavos) FileTotalPassed received_place
      room.1 in
      let few = ltb-true (length f.payments) most_payments room.0 in
      let low = leb-true (received_in f.payments + received_by rec) most_centavos less.0 in
      record {
        files = all;
        opened =
            record {
              header = h.header;
              payments = each_last (IsRight (header_terms [] f.header) Payment) f.payments rec h.payments (own, n);
              few = omega (arith, few, length-append f.payments (rec ∷ []));
              low = omega (arith, low, received_joined f.payments rec);
            };
      }

  with_trailer : (f : Opened) → Right f → record_answer (header_terms [] f.header) rec ≡ Accepted → named_by (get_or rec 0 0) ≡ Some Trailer
      → state_answer files (some f) (Some Trailer) rec ≡ Accepted
      → Kept (with_record files (some f) (Some Trailer) ended rec)
  with_trailer f h own n e =
      record {
        files =
            each_last SoundFile files (filed_with f rec) all
            (record {
              whole = record { list = empty_is_right; header = h.header; payments = h.payments; trailer = (own, n) };
              few = h.few;
              low = h.low;
              figures = (figures_accept f rec).0 e;
            });
        opened = tt;
      }

  with_record_holds : (o : Option Opened) (n : Maybe Record) → record_answer (ledger_terms [] o) rec ≡ Accepted → RightIfOpen o → named_by (get_or rec 0 0) ≡ n
      → ledger_expects o n ≡ true → state_answer files o n rec ≡ Accepted → Kept (with_record files o n ended rec)
  with_record_holds none (Some Header) own h is x e =
      record {
        files = all;
        opened = record { header = right_under_any_terms (told 0 []) (header_terms [] rec) Header rec refl (own, is); payments = tt; few = omega arith; low = omega arith };
      }
  with_record_holds none (Some Payment) own h is x e = absurd (false≢true x)
  with_record_holds none (Some Trailer) own h is x e = absurd (false≢true x)
  with_record_holds none None own h is x e = absurd (false≢true x)
  with_record_holds (some f) (Some Header) own h is x e = absurd (false≢true x)
  with_record_holds (some f) (Some Payment) own h is x e = with_payment f h own is e
  with_record_holds (some f) (Some Trailer) own h is x e = with_trailer f h own is e
  with_record_holds (some f) None own h is x e = absurd (false≢true x)

-- after any steps from a fresh ledger
kept : (steps : List Step) → Kept (ledger_of steps)
kept steps =
    all_keep Kept (λ k h. record { files = h.files; opened = tt })
    (λ k rec h e.
    with_record_holds k.accepted (has_line_end rec) (body_of rec) h.files k.opened (named_by (get_or rec 0 0)) e.own
    h.opened (ap named_by (first_in rec)) e.expected e.state)
    fresh_ledger steps (record { files = tt; opened = tt })

pub ledger_files_are_whole : LedgerFilesAreWhole
ledger_files_are_whole steps = (kept steps).files

-- So the version of an open file is one, and the session's.

pub open_files_have_a_version : OpenFilesHaveAVersion
open_files_have_a_version steps = go (ledger_of steps) (kept steps).opened (session_agrees steps)
  where
    file_is : {f : File} → f.taken ≡ 0 → f.total ≡ 0 → f.version ≡ 0 → f.lined ≡ false → f ≡ no_file
    file_is e g h l i = record { taken = e i; total = g i; version = h i; lined = l i }

    by : (o : Option Opened) (k : Ledger) → k.opened ≡ o → RightIfOpen o → Agrees (reached steps) k
        → ((reached steps).opened ≡ true → is_version (reached steps).file.version ≡ true)
        × ((reached steps).opened ≡ false → (reached steps).file ≡ no_file)
    by none k e right h = (
      λ t. absurd (false≢true (sym (h.opened ∙ ap is_open e) ∙ t)),
      λ t.
          file_is (h.taken ∙ ap (λ (x : Option Opened). length (open_records x)) e)
          (h.total ∙ ap (λ (x : Option Opened). received_in (open_records x)) e)
          (h.version ∙ ap open_version e) (h.lined ∙ ap is_open_lined e),
    )
    by (some f) k e right h = (
      λ t.
          let named = header_version (header_terms [] f.header) f.header right.header.0 right.header.1 in
          ap is_version (h.version ∙ ap open_version e) ∙ named,
      λ t. absurd (false≢true (sym t ∙ h.opened ∙ ap is_open e)),
    )

    go : (k : Ledger) → RightIfOpen k.opened → Agrees (reached steps) k
        → ((reached steps).opened ≡ true → is_version (reached steps).file.version ≡ true)
        × ((reached steps).opened ≡ false → (reached steps).file ≡ no_file)
    go k right h = by k.opened k refl right h
