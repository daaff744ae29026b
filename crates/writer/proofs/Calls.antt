-- Laws of a call: its answer, the size of the caller's buffer, and what it leaves. Assumes nothing.
use Prim.Native.Nat.{ℕ, ◌^◌, ◌<◌}
use mathlib.Core.Bool.{true, ◌&&◌, and-eq-true_iff}
use mathlib.Core.List.{List}
use mathlib.Core.Path.{◌≡◌, refl, sym, ap, ◌∙◌}
use native.Mathlib.Omega.{arith}
use borrow.Author.Tests.{eqb-true}
use lib.Dec.{eqb}
use lib.ListN.{length}
use Rattle.answer.specs.declared.Reason.TheVariants.{WrongLength, NotExpected}
use Rattle.answer.specs.Answers.{Answer, Accepted}
use Rattle.answer.specs.Orders.{require, ◌then◌, if_accepted}
use Rattle.answer.proofs.Orders.{require_accepts, then_accepts, refusal_keeps}
use Rattle.decimal.specs.Numbers.{digits_of, put_number_answer}
use Rattle.decimal.specs.Places.{put_at}
use Rattle.decimal.proofs.Numbers.{digits_fill, number_put}
use Rattle.decimal.proofs.Places.{put_whole}
use Rattle.layout.specs.declared.Record.{Record}
use Rattle.layout.specs.declared.Record.TheVariants.{Trailer}
use Rattle.layout.specs.Layouts.{layout_of, given_length}
use Rattle.file.specs.declared.Figures.{Figures}
use Rattle.file.specs.Files.{figures_of, closing_answer}
use Rattle.file.specs.Forms.{length_of}
use Rattle.file.proofs.Files.{closing_accepts, figures_fit}
use Rattle.writer.specs.declared.Stage.{Stage}
use Rattle.writer.specs.declared.Stage.TheVariants.{Open}
use Rattle.writer.specs.declared.Writer.{Writer}
use Rattle.writer.specs.Writers.{writer_expects, fits_buffer, is_lined_buffer, call_answer, count_bytes}
use Rattle.writer.specs.Promises.{RefusalKeepsWriter}
use Rattle.writer.proofs.Buffers.{fitting_size}

-- the caller's buffer fits where the call is accepted: it is as long as a record of its form, and
-- of the form of an open file
call_fits : (w : Writer) (r : Record) (given size : ℕ) → call_answer w r given size ≡ Accepted
    → fits_buffer w.stage w.file.lined size ≡ true
call_fits w r given size e =
    let fits = fits_buffer w.stage w.file.lined size in
    let lengths = fits && eqb given (given_length r) in
    let both = (then_accepts (require lengths WrongLength 0) (require (writer_expects w.stage r) NotExpected 1)).0 e in
    ((and-eq-true_iff fits (eqb given (given_length r))).0 ((require_accepts lengths WrongLength 0).0 both.0)).0

pub call_size : (w : Writer) (r : Record) (given size : ℕ) → call_answer w r given size ≡ Accepted
    → size ≡ length_of (is_lined_buffer size)
call_size w r given size e = fitting_size w.stage w.file.lined size (call_fits w r given size e)

pub open_call_size : (w : Writer) (r : Record) (given size : ℕ) → w.stage ≡ Open
    → call_answer w r given size ≡ Accepted → size ≡ length_of w.file.lined
open_call_size w r given size opened e =
    let same = ap (λ (s : Stage). fits_buffer s w.file.lined size) (sym opened) in
    eqb-true size (length_of w.file.lined) (same ∙ call_fits w r given size e)

pub refusal_keeps_writer : RefusalKeepsWriter
refusal_keeps_writer a new old h = refusal_keeps a new old h

-- the record is made into 150 bytes of the writer's own; the caller's buffer is as long as a record of either form
pub size_is : (w : Writer) (r : Record) (n size : ℕ) {call a : Answer} (rest : Answer)
    → call ≡ call_answer w r n size → a ≡ call then rest → a ≡ Accepted → size ≡ length_of (is_lined_buffer size)
size_is w r n size {call} rest c t h = call_size w r n size (sym c ∙ ((then_accepts call rest).0 (sym t ∙ h)).0)

-- Z is given six digits, those of its count, which fit where the file closes
pub six : 6 ≡ given_length Trailer
unfolding given_length layout_of
six = refl

pub count_written : (w : Writer) (digits : List ℕ) {figures : Figures} {count : List ℕ} {width : Answer}
    → (closing_answer w.file ≡ Accepted) × (figures ≡ figures_of w.file) → length digits ≡ 6
    → width ≡ put_number_answer (length digits) 0 6 figures.count
    → count ≡ if_accepted width (put_at 0 (digits_of 6 figures.count) digits) digits
    → count ≡ count_bytes w
count_written w digits {figures} closed n q p =
    let x = (figures_of w.file).count in
    let e : figures.count ≡ x = ap (λ (f : Figures). f.count) closed.1 in
    let fits : figures.count < 10 ^ 6 = rw e (figures_fit w.file ((closing_accepts w.file).0 closed.0)).0 in
    number_put 0 6 figures.count digits (omega arith) fits q p
    ∙ put_whole (digits_of 6 figures.count) digits ((digits_fill 6 figures.count).0 ∙ sym n) ∙ ap (digits_of 6) e ∙ ap (λ (d : ℕ). digits_of d x) six
