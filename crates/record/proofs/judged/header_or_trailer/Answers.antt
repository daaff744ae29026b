use mathlib.Core.List.{[]}
use mathlib.Core.Path.{sym, ◌∙◌}
use lib.ListN.{get_or}
use Rattle.layout.specs.declared.Record.TheVariants.{Header, Trailer}
use Rattle.layout.specs.Layouts.{named_by}
use Rattle.kinds.specs.Terms.{told}
use Rattle.record.proofs.Shown.{accepted_is, accepted_named, trailer_named, header_named}
use Rattle.record.proofs.judged.header_or_trailer.Goals as goal

pub read_trailer-requires : goal.read_trailer-requires
read_trailer-requires c =
    let named = trailer_named _ (sym c.is_trailer.ensures ∙ c.if-is_trailer.true) in
    λ t. (accepted_named t Trailer _ (c.requires.accepted t) named).2

pub returns-then-is_trailer : goal.returns-then-is_trailer
returns-then-is_trailer c =
    let named = trailer_named (named_by (get_or c.args.rec.now 0 0)) (sym c.is_trailer.ensures ∙ c.if-is_trailer.true) in
    rw (named, c.read_trailer.ensures)

pub read_header-requires : goal.read_header-requires
read_header-requires c =
    let accepted = (accepted_is (told 0 []) c.args.rec.now (c.requires.accepted (told 0 []))).1 in
    let named = header_named (told 0 []) _ c.args.rec.now accepted c.requires.other (sym c.is_trailer.ensures ∙ c.if-is_trailer.false) in
    λ t. (accepted_named t Header _ (c.requires.accepted t) named).2

pub returns : goal.returns
returns c =
    let accepted = (accepted_is (told 0 []) c.args.rec.now (c.requires.accepted (told 0 []))).1 in
    let named = header_named (told 0 []) (named_by (get_or c.args.rec.now 0 0)) c.args.rec.now accepted c.requires.other (sym c.is_trailer.ensures ∙ c.if-is_trailer.false) in
    rw (named, c.read_header.ensures)
