use Rattle.barcode.proofs.Shown.{as_free}
use Rattle.barcode.proofs.reading.free_of.Goals as goal

pub returns : goal.returns
returns c = as_free _ c.issuer_end-end.ensures.value c.digit.ensures
