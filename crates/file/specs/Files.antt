-- The open file (SPEC.md, "Sessions" and "Writer"): refusals 13 to 16, once for session and writer. Assumes nothing.
use Rattle.std.specs.Prelude.{ℕ, ◌+◌, ◌^◌, ◌<◌, ◌≤◌, Bool, false, List, [], ◌∷◌, ◌↔◌, ◌≡◌, eqb, ltb, leb, length}
use Rattle.answer.specs.Refusals.{received_place}
use Rattle.answer.specs.declared.Reason.TheVariants.{CountDiffers, TotalDiffers, FileFull, FileTotalPassed}
use Rattle.answer.specs.Answers.{Answer, Accepted}
use Rattle.answer.specs.Orders.{require, ◌then◌, if_accepted}
use Rattle.file.specs.declared.File.{File}
use Rattle.file.specs.declared.Figures.{Figures}

-- the most payments of a file, and the most centavos: what a trailer can show
abbrev pub most_payments : ℕ
most_payments = 999_997

abbrev pub most_centavos : ℕ
most_centavos = 99_999_999_999_999_999

-- a file without payments, whose header names this version, lined or bare
abbrev pub fresh_file : ℕ → Bool → File
fresh_file version lined = record { taken = 0; total = 0; version = version; lined = lined }

-- where no file is open: no version either, and no line ends
abbrev pub no_file : File
no_file = fresh_file 0 false

-- 15 for a payment when the most were taken, then 16 for one that takes the total past the most
unfoldable pub file_answer : File → ℕ → Answer
file_answer f received =
    require (ltb f.taken most_payments) FileFull 1
    then require (leb (f.total + received) most_centavos) FileTotalPassed received_place

-- the file with one payment more
abbrev pub file_with : File → ℕ → File
file_with f received =
    record { taken = f.taken + 1; total = f.total + received; version = f.version; lined = f.lined }

-- the answer to a payment and the file after it; a refusal leaves the file as it was
pub record FileResult : Type 0 where
  pub answer : Answer
  pub file : File

abbrev pub file_result_of : File → ℕ → FileResult
file_result_of f received =
    record { answer = file_answer f received; file = if_accepted (file_answer f received) (file_with f received) f }

-- the figures of the one right trailer: header and trailer are counted too
abbrev pub figures_of : File → Figures
figures_of f = record { count = f.taken + 2; total = f.total }

-- where a trailer shows its count and its total
abbrev pub count_place : ℕ
count_place = 2

abbrev pub total_place : ℕ
total_place = 8

-- 13, then 14, for a trailer that shows other figures
unfoldable pub figures_answer : File → Figures → Answer
figures_answer f shown =
    require (eqb shown.count (figures_of f).count) CountDiffers count_place
    then require (eqb shown.total (figures_of f).total) TotalDiffers total_place

-- 15, then 16, for a file in an arbitrary state, whose figures a trailer has no room for
unfoldable pub closing_answer : File → Answer
closing_answer f =
    require (leb f.taken most_payments) FileFull 1
    then require (leb f.total most_centavos) FileTotalPassed received_place

-- the answer to the end of a file and the figures of its trailer; zeros where the file is refused
pub record CloseResult : Type 0 where
  pub answer : Answer
  pub figures : Figures

abbrev pub close_result_of : File → CloseResult
close_result_of f =
    let none : Figures = record { count = 0; total = 0 } in
    record { answer = closing_answer f; figures = if_accepted (closing_answer f) (figures_of f) none }

-- what holds of a fresh file and of every file that comes from it
pub record FileWithin (f : File) : Type 0 where
  pub taken : f.taken ≤ most_payments
  pub total : f.total ≤ most_centavos

-- payments one after the other: the first refusal, and the file with them all
abbrev pub file_answers : File → List ℕ → Answer
file_answers f [] = Accepted
file_answers f (x ∷ xs) = file_answer f x then file_answers (file_with f x) xs

abbrev pub file_with_all : File → List ℕ → File
file_with_all f [] = f
file_with_all f (x ∷ xs) = file_with_all (file_with f x) xs

abbrev pub received_of : List ℕ → ℕ
received_of [] = 0
received_of (x ∷ xs) = x + received_of xs

-- Promises: of one payment.

abbrev pub FileAccepts : Type 0
FileAccepts =
    (f : File) (received : ℕ)
    → (file_answer f received ≡ Accepted) ↔ ((f.taken < most_payments) × (f.total + received ≤ most_centavos))

abbrev pub RefusalKeepsFile : Type 0
RefusalKeepsFile =
    (f : File) (received : ℕ) → ((file_result_of f received).answer ≡ Accepted → ⊥) → (file_result_of f received).file ≡ f

abbrev pub StaysWithin : Type 0
StaysWithin =
    ((version : ℕ) (lined : Bool) → FileWithin (fresh_file version lined))
    × ((f : File) (received : ℕ) → FileWithin f → FileWithin (file_result_of f received).file)

-- Promises: of all payments of a file. A fresh file takes a list of them exactly where it is within the limits, counts
-- it and adds it up.

abbrev pub FreshFileTakes : Type 0
FreshFileTakes =
    (version : ℕ) (lined : Bool) (xs : List ℕ)
    → (file_answers (fresh_file version lined) xs ≡ Accepted)
    ↔ ((length xs ≤ most_payments) × (received_of xs ≤ most_centavos))

abbrev pub FreshFileHolds : Type 0
FreshFileHolds =
    (version : ℕ) (lined : Bool) (xs : List ℕ)
    → file_with_all (fresh_file version lined) xs
    ≡ record { taken = length xs; total = received_of xs; version = version; lined = lined }

-- Promises: of the trailer. Exactly one is right, and its six and seventeen digits have room for a file within its
-- limits.

abbrev pub OneRightTrailer : Type 0
OneRightTrailer = (f : File) (shown : Figures) → (figures_answer f shown ≡ Accepted) ↔ (shown ≡ figures_of f)

abbrev pub ClosingAccepts : Type 0
ClosingAccepts = (f : File) → (closing_answer f ≡ Accepted) ↔ FileWithin f

abbrev pub FiguresFit : Type 0
FiguresFit = (f : File) → FileWithin f → ((figures_of f).count < 10 ^ 6) × ((figures_of f).total < 10 ^ 17)
