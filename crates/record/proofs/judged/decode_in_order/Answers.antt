use mathlib.Core.List.{[]}
use mathlib.Core.Path.{sym, ◌∙◌}
use lib.ListN.{get_or}
use Rattle.std.proofs.lemmas.Result.{IfOk-at_ok}
use Rattle.layout.specs.Layouts.{named_by}
use Rattle.record.proofs.Exact.{other_shown}
use Rattle.record.proofs.Shown.{other_ignores, other_shows}
use Rattle.record.proofs.judged.decode_in_order.Goals as goal

pub header_or_trailer-requires : goal.header_or_trailer-requires
header_or_trailer-requires c =
    let rec = c.args.rec.now in
    let same = IfOk-at_ok _ c.in_ok-rec.was c.whole.ensures.bytes in
    let accepted = rw same at (sym c.check_whole.ensures ∙ c.in_ok-check_whole.was) in
    let none = other_shown _ rec c.requires accepted in
    rw same (record { accepted = λ t. other_ignores t _ rec none ∙ accepted; other = none })

pub returns : goal.returns
returns c =
    let rec = c.args.rec.now in
    let same = IfOk-at_ok _ c.in_ok-rec.was c.whole.ensures.bytes in
    let accepted = rw same at (sym c.check_whole.ensures ∙ c.in_ok-check_whole.was) in
    let none = other_shown _ rec c.requires accepted in
    rw accepted ((rw same at c.header_or_trailer.ensures) ∙ other_shows [] c.args.agreed.now (named_by (get_or rec 0 0)) rec none)
