use borrow.Author.Rules.{rules}
use Rattle.barcode.proofs.Shown.{as_fields}
use Rattle.barcode.proofs.reading.fields_of.Goals as goal

pub returns : goal.returns
returns c =
    as_fields c.args.agreed.now c.args.code.now (search rules) c.requires c.issuer_of-issuer.ensures c.digit.ensures
    c.low_number.ensures c.free_of.ensures c.due_of.ensures
