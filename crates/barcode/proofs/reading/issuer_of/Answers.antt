use borrow.Author.Rules.{rules}
use Rattle.barcode.proofs.Codes.{as_issuer}
use Rattle.barcode.proofs.reading.issuer_of.Goals as goal

pub returns : goal.returns
returns c =
    as_issuer c.args.code.now (search rules) c.requires c.digit-segment.ensures c.issuer_end-end.ensures.value c.low_number.ensures
