-- Nothing is lost in crossing: what the forms say is what the engine's values say. Assumes nothing.
use Rattle.std.specs.Prelude.{ℕ, List, ◌≡◌}
use Rattle.answer.specs.Answers.{Answer, Accepted}
use Rattle.barcode.specs.Shown.{shown_free}
use Rattle.kinds.specs.Terms.{Terms}
use Rattle.record.specs.Values.{shown_field}
use Rattle.writer.specs.declared.Writer.{Writer}
use Rattle.writer.specs.Writers.{WriteResult}
use Rattle.hollytrot.specs.declared.CWriter.{CWriter}
use Rattle.hollytrot.specs.Forms.{c_answer_of, bytes_in, free_part, field_part, writer_of, c_writer_of, c_write_result_of}

-- a number and a place are the form of at most one answer
abbrev pub AnswersStayApart : Type 0
AnswersStayApart = (a b : Answer) → c_answer_of a ≡ c_answer_of b → a ≡ b

-- a writer comes back from its form
abbrev pub WriterComesBack : Type 0
WriterComesBack = (w : Writer) → writer_of (c_writer_of w) ≡ w

-- a refusal returns the given writer itself, whatever the number of its stage
abbrev pub RefusalKeepsCWriter : Type 0
RefusalKeepsCWriter =
    (p : CWriter) (w : WriteResult) → (w.answer ≡ Accepted → ⊥) → (c_write_result_of p w).writer ≡ p

-- the parts are the bytes that barcode and record show
abbrev pub FreePartIsShown : Type 0
FreePartIsShown = (agreed code : List ℕ) → bytes_in (free_part agreed code) code ≡ shown_free agreed code

abbrev pub FieldPartIsShown : Type 0
FieldPartIsShown =
    (t : Terms) (row : ℕ) (rec : List ℕ) → bytes_in (field_part t row rec) rec ≡ shown_field t row rec
