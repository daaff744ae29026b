-- The two forms of a file (SPEC.md, "Line ends"): bare, where records follow each other with nothing between them, and
-- lined, where CR and LF follow each, the last included. Its header decides. Assumes nothing.
use Rattle.std.specs.Prelude.{ℕ, ◌+◌, Bool, cond, ◌&&◌, ◌||◌, List, [], ◌∷◌, ◌++◌, ◌↔◌, ◌≡◌, eqb, leb, length, get_or, take}
use Rattle.std.proofs.Math.Bool as bool
use Rattle.answer.specs.declared.Reason.TheVariants.{NoLineEnd}
use Rattle.answer.specs.Answers.{Answer, Accepted}
use Rattle.answer.specs.Orders.{require}
use Rattle.layout.specs.Layouts.{record_length}

-- CR and LF
abbrev pub line_end : List ℕ
line_end = 13 ∷ 10 ∷ []

-- what follows each record of a file, lined or bare
abbrev pub end_of : Bool → List ℕ
end_of lined = cond lined line_end []

-- a record as a file of this form has it
abbrev pub in_form : Bool → List ℕ → List ℕ
in_form lined rec = rec ++ end_of lined

-- the bytes of a record with CR and LF, and of a record in a file of either form
abbrev pub lined_length : ℕ
lined_length = record_length + length line_end

abbrev pub length_of : Bool → ℕ
length_of lined = cond lined lined_length record_length

-- the record in what is taken: its first 150 bytes
abbrev pub body_of : List ℕ → List ℕ
body_of bytes = take record_length bytes

-- CR and LF follow the record, and nothing more
unfoldable pub has_line_end : List ℕ → Bool
has_line_end bytes =
    eqb (length bytes) lined_length
    && (eqb (get_or bytes record_length 0) (get_or line_end 0 0) && eqb (get_or bytes (record_length + 1) 0) (get_or line_end 1 0))

-- How long what is taken may be: with no file open 150 bytes, or 152 that end in CR and LF; in an open bare file 150;
-- in an open lined file 150 to 152.
unfoldable pub fits_length : Bool → Bool → List ℕ → Bool
fits_length opened lined bytes =
    cond opened
    (cond lined (leb record_length (length bytes) && leb (length bytes) lined_length) (eqb (length bytes) record_length))
    (eqb (length bytes) record_length || has_line_end bytes)

-- where a record's line end starts
abbrev pub end_place : ℕ
end_place = record_length + 1

-- 22: in an open lined file CR and LF follow each record, and nothing more
unfoldable pub end_answer : Bool → Bool → List ℕ → Answer
end_answer opened lined bytes = cond (opened && lined) (require (has_line_end bytes) NoLineEnd end_place) Accepted

-- whether what is taken is lined: as the open file is; a header, with no file open, by what follows it
abbrev pub is_taken_lined : Bool → Bool → List ℕ → Bool
is_taken_lined opened lined bytes = cond opened lined (has_line_end bytes)

-- where a run cuts what is left of an input: whether the next piece is lined, and its length, unless fewer bytes are left
abbrev pub is_next_lined : Bool → Bool → List ℕ → Bool
is_next_lined opened lined bytes = is_taken_lined opened lined (take lined_length bytes)

abbrev pub next_length : Bool → Bool → List ℕ → ℕ
next_length opened lined bytes = length_of (is_next_lined opened lined bytes)

-- Promises.

-- exactly that: the bytes are a record's 150, then CR and LF
abbrev pub LineEndIsCrAndLf : Type 0
LineEndIsCrAndLf =
    (bytes : List ℕ)
    → (has_line_end bytes ≡ bool.true)
    ↔ ((length (body_of bytes) ≡ record_length) × (bytes ≡ in_form bool.true (body_of bytes)))

-- what passes both checks is 150 bytes in its form: a record whose length fits and whose end is not refused
abbrev pub FittingIsInForm : Type 0
FittingIsInForm =
    (opened lined : Bool) (bytes : List ℕ)
    → ((fits_length opened lined bytes ≡ bool.true) × (end_answer opened lined bytes ≡ Accepted))
    ↔ ((length (body_of bytes) ≡ record_length) × (bytes ≡ in_form (is_taken_lined opened lined bytes) (body_of bytes)))
