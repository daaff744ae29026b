use mathlib.Core.Path.{sym, ◌∙◌}
use Rattle.barcode.proofs.Codes.{good}
use Rattle.barcode.proofs.Lists.{under_tells}
use Rattle.barcode.proofs.judged.decode.Goals as goal

pub fields_of-requires : goal.fields_of-requires
fields_of-requires c =
    (good _ (under_tells c.args.agreed.now _ (sym c.check_whole.ensures ∙ c.in_ok-check_whole.was)).0).digits
