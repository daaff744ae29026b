-- 25 before everything (SPEC.md, "Agreed issuers"): what each call answers that is lent a wrong list. Assumes nothing.
use Rattle.std.specs.Prelude.{ℕ, Bool, List, ◌≡◌}
use Rattle.answer.specs.declared.Reason.TheVariants.{WrongList}
use Rattle.answer.specs.Answers.{Answer, Refused}
use Rattle.barcode.specs.declared.Issuer.{Issuer}
use Rattle.barcode.specs.Agreed.{RightList, barcode_check}
use Rattle.barcode.specs.Building.{build_check}
use Rattle.line.specs.Lines.{line_check, to_code_check, to_line_check}
use Rattle.layout.specs.declared.Record.{Record}
use Rattle.kinds.specs.Terms.{told}
use Rattle.record.specs.Records.{record_check}
use Rattle.fields.specs.Joining.{join_check}
use Rattle.fields.specs.Making.{make_check}
use Rattle.session.specs.declared.Session.{Session}
use Rattle.session.specs.Sessions.{take_of}
use Rattle.session.specs.Runs.{run_of}
use Rattle.writer.specs.declared.Writer.{Writer}
use Rattle.writer.specs.Writers.{payment_check}

-- the answer to a wrong list
abbrev pub Wrong : Answer → Type 0
Wrong a = a ≡ Refused WrongList 0

-- Promise: it is the answer of every call that is lent a list, whatever else it is given.
abbrev pub WrongListsAreFirst : Type 0
WrongListsAreFirst =
    (agreed : List ℕ) → ¬ RightList agreed
    → ((code : List ℕ) → Wrong (barcode_check agreed code))
    × ((size : ℕ) (i : Issuer) (kind amount : ℕ) (rest : List ℕ) → Wrong (build_check agreed size i kind amount rest))
    × ((line : List ℕ) → Wrong (line_check agreed line))
    × ((size : ℕ) (line : List ℕ) → Wrong (to_code_check agreed size line))
    × ((size : ℕ) (code : List ℕ) → Wrong (to_line_check agreed size code))
    × ((version : ℕ) (rec : List ℕ) → Wrong (record_check (told version agreed) rec))
    × ((version : ℕ) (rec : List ℕ) (size : ℕ) → Wrong (join_check (told version agreed) rec size))
    × ((version : ℕ) (r : Record) (given amounts : List ℕ) (size : ℕ)
    → Wrong (make_check (told version agreed) r given amounts size))
    × ((s : Session) (rec : List ℕ) → Wrong (take_of agreed s rec).answer)
    × ((s : Session) (more : Bool) (bytes : List ℕ) → Wrong (run_of agreed s more bytes).answer)
    × ((w : Writer) (given : List ℕ) (received tariff size : ℕ)
    → Wrong (payment_check agreed w given received tariff size))
