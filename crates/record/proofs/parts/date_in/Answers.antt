use mathlib.Core.Path.{ap, ◌∙◌}
use Rattle.calendar.specs.Dates.{date_of}
use Rattle.record.proofs.parts.date_in.Goals as goal

pub returns : goal.returns
returns c = c.read_date.ensures ∙ ap date_of c.field_bytes.ensures
