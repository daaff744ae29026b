use mathlib.Core.Path.{sym, ◌∙◌}
use Rattle.calendar.proofs.Dates.{as_spelled, judged}
use Rattle.calendar.proofs.read_date.Goals as goal

pub returns : goal.returns
returns c =
    let bs = c.args.bytes.now in
    let n = c.if-bytes-ne8.false in
    let all = sym c.all_of.ensures ∙ c.if-not-all_of.false in
    let d = as_spelled bs n c.pair.ensures.value c.pair-2.ensures.value c.pair-3.ensures.value c.pair-4.ensures.value in
    c.then_some.ensures ∙ judged bs n all d c.is_date.ensures
