-- The versions of the layout, and the terms under which a record is read and written (SPEC.md, "Records").
-- Assumes nothing.
use Rattle.std.specs.Prelude.{ℕ, Bool, ◌||◌, cond, List, eqb}
use Rattle.answer.specs.declared.Reason.TheVariants.{FixedDiffers}
use Rattle.answer.specs.Answers.{Answer, Accepted}
use Rattle.answer.specs.Orders.{require}
use Rattle.layout.specs.declared.Record.{Record}
use Rattle.layout.specs.declared.Record.TheVariants.{Header, Payment, Trailer}
use Rattle.layout.specs.Layouts.{row_at, version_row}

-- the versions, 04 and 06, as numbers
abbrev pub version04 : ℕ
version04 = 4

abbrev pub version06 : ℕ
version06 = 6

abbrev pub is_version : ℕ → Bool
is_version version = eqb version version04 || eqb version version06

-- how many captures a version has with the customer's bill, and as many again without it, and how many payment forms; a
-- number that is no version has none of either
abbrev pub captures_of : ℕ → ℕ
captures_of version = cond (eqb version version04) 6 (cond (eqb version version06) 9 0)

abbrev pub forms_of : ℕ → ℕ
forms_of version = cond (eqb version version04) 3 (cond (eqb version version06) 6 0)

-- what is known of a record beside its bytes: the version that it is told, which is that of its file's header, and the
-- keys of the issuers that agreed on due dates. Any number and any list can be told; a wrong list is refused before
-- (`record_check`).
pub record Terms : Type 0 where
  pub version : ℕ
  pub agreed : List ℕ

abbrev pub told : ℕ → List ℕ → Terms
told version agreed = record { version = version; agreed = agreed }

-- a G needs a version: told another number it is refused 10 at the version's place in a header; A and Z ignore it
unfoldable pub version_answer : ℕ → Record → Answer
version_answer version Header = Accepted
version_answer version Payment = require (is_version version) FixedDiffers (row_at version_row).first
version_answer version Trailer = Accepted
