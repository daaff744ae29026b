use mathlib.Core.Path.{ap, ◌∙◌}
use Rattle.barcode.specs.Shown.{decoded_under}
use Rattle.record.proofs.parts.barcode_in.Goals as goal

pub returns : goal.returns
returns c = c.decode.ensures ∙ ap (decoded_under _) c.field_bytes.ensures
