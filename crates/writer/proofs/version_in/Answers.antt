use Prim.Native.Nat.{◌≤◌}
use mathlib.Core.Path.{◌∙◌}
use native.Mathlib.Omega.{arith}
use borrow.Author.Rules.{rules}
use lib.ListN.{length}
use lib.Dec.{lit<}
use Rattle.decimal.proofs.Numbers.{nineteen_fit}
use Rattle.layout.specs.Layouts.{row_at, table, layout_of, no_field, version_row}
use Rattle.layout.proofs.Layouts.{row_lies}
use Rattle.record.specs.Records.{field_bytes}
use Rattle.record.proofs.FieldBytes.{part_length}
use Rattle.writer.proofs.version_in.Goals as goal

pub returns : goal.returns
unfolding row_at table layout_of
returns c =
    let bytes = field_bytes (row_at version_row) c.args.header.now in
    let two : length bytes ≤ 19 = omega (arith, part_length (row_at version_row) c.args.header.now (row_lies version_row no_field (lit< tt)) (search rules)) in
    c.number.ensures ∙ nineteen_fit bytes two
