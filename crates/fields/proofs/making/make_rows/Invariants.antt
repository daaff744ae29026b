use mathlib.Core.List.{[], ◌∷◌}
use lib.ListN.{drop}
use Rattle.layout.specs.Layouts.{layout_of}
use Rattle.kinds.specs.Terms.{told}
use Rattle.fields.proofs.Makes.{Making}
use Rattle.fields.specs.Making.{made_of, making_answer}
use Rattle.fields.proofs.making.make_rows.Given as goal

abbrev pub invariant-loop-f : goal.invariant-loop-f
invariant-loop-f l =
    let t = told l.version l.agreed in
    let amounts = l.first ∷ l.second ∷ [] in
    let layout = layout_of l.fn.which in
    Making t (drop l.f-index l.f-items) l.given amounts l.made l.done l.at l.used
    (making_answer t layout l.given amounts) (made_of layout l.given amounts)
