use mathlib.Core.Path.{ap, ◌∙◌}
use Rattle.decimal.specs.LowHalves.{low_number_of}
use Rattle.record.proofs.parts.number_in.Goals as goal

pub returns : goal.returns
returns c = c.low_number.ensures ∙ ap low_number_of c.field_bytes.ensures
