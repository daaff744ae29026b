use mathlib.Core.Path.{◌≡◌}
use lib.ListN.{drop}
use Rattle.answer.specs.Orders.{first_refusal}
use Rattle.kinds.specs.Terms.{told}
use Rattle.record.specs.Records.{field_answer, layout_answer}
use Rattle.record.proofs.walk.layout_answer.Given as goal

abbrev pub invariant-loop-f : goal.invariant-loop-f
invariant-loop-f l =
    let t = told l.version l.agreed in
    first_refusal (field_answer t l.rec) (drop l.f-index l.f-items) ≡ layout_answer t l.fn.which l.rec
