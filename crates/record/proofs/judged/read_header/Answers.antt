use mathlib.Core.List.{[]}
use mathlib.Core.Path.{ap, ◌∙◌}
use borrow.Author.Rules.{rules}
use Rattle.layout.specs.Layouts.{row_at, table, layout_of}
use Rattle.kinds.specs.Terms.{told}
use Rattle.record.specs.Values.{day_of}
use Rattle.record.proofs.Shown.{header_read}
use Rattle.record.proofs.judged.read_header.Goals as goal

pub returns : goal.returns
unfolding row_at table layout_of
returns c =
    header_read (told 0 []) c.args.rec.now (search rules) (c.requires (told 0 [])) c.number_in.ensures
    (c.day_of.ensures ∙ ap day_of c.date_in.ensures) c.number_in-2.ensures c.number_in-3.ensures
