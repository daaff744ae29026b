use Prim.Native.Nat.{◌-◌}
use mathlib.Core.Path.{ap, ◌∙◌}
use native.Mathlib.Omega.{arith}
use borrow.Author.Rules.{rules}
use Rattle.answer.specs.Orders.{moved_by, capped_behind}
use Rattle.answer.proofs.Orders.{behind_is_exact}
use Rattle.kinds.proofs.KindLaws.{kind_place}
use Rattle.record.proofs.FieldBytes.{part_length}
use Rattle.kinds.specs.Terms.{told}
use Rattle.kinds.specs.Kinds.{kind_answer}
use Rattle.record.specs.Records.{field_bytes, field_answer}
use Rattle.record.proofs.walk.field_answer.Goals as goal

pub returns : goal.returns
unfolding field_answer
returns c =
    let f = c.args.f in
    let t = told c.args.version c.args.agreed.now in
    let k = c.check-answer.ensures ∙ ap (kind_answer t f.kind) c.field_bytes.ensures in
    let bs = field_bytes f c.args.rec.now in
    let n = part_length f c.args.rec.now c.requires (search rules) in
    let near = kind_place t f.kind bs (omega (arith, n, c.requires.end)) in
    let held = behind_is_exact (f.first - 1) (kind_answer t f.kind bs) (omega (arith, near, c.requires.order, c.requires.end)) in
    c.behind.ensures ∙ ap (moved_by (capped_behind (f.first - 1))) k ∙ held
