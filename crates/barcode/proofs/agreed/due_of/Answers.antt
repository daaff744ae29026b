use mathlib.Core.Path.{refl, sym, ap, ◌∙◌}
use Rattle.calendar.specs.Dates.{date_of}
use Rattle.barcode.proofs.agreed.due_of.Goals as goal

pub returns-then-is_agreed : goal.returns-then-is_agreed
returns-then-is_agreed c =
    rw (sym c.is_agreed.ensures ∙ c.if-is_agreed.true) (c.read_date.ensures ∙ ap date_of c.due_digits.ensures)

pub returns-else-is_agreed : goal.returns-else-is_agreed
returns-else-is_agreed c = rw (sym c.is_agreed.ensures ∙ c.if-is_agreed.false) refl
