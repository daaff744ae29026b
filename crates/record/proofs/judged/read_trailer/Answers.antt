use mathlib.Core.List.{[]}
use borrow.Author.Rules.{rules}
use Rattle.layout.specs.Layouts.{row_at, table, layout_of}
use Rattle.kinds.specs.Terms.{told}
use Rattle.record.proofs.Shown.{trailer_read}
use Rattle.record.proofs.judged.read_trailer.Goals as goal

pub returns : goal.returns
unfolding row_at table layout_of
returns c =
    trailer_read (told 0 []) c.args.rec.now (search rules) (c.requires (told 0 [])) c.number_in.ensures c.number_in-2.ensures
