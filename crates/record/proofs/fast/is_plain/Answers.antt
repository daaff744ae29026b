use mathlib.Core.Path.{ap, ◌∙◌}
use native.Mathlib.Omega.{arith}
use borrow.Author.Rules.{rules}
use lib.ListN.{length}
use Rattle.layout.specs.Layouts.{row_at, table, layout_of}
use Rattle.record.proofs.FastPath.{parts_fail, blanks_are}
use Rattle.record.proofs.FieldBytes.{places_length}
use Rattle.record.proofs.fast.is_plain.Goals as goal

pub parts_hold-requires : goal.parts_hold-requires
parts_hold-requires c =
    let text = ap length c.field_bytes.ensures ∙ places_length c.args.rec.now (search rules) 2 21 (omega arith) in
    let other = ap length c.span-behind.ensures ∙ places_length c.args.rec.now (search rules) 109 140 (omega arith) in
    let digits = ap length c.span-numbers.ensures ∙ places_length c.args.rec.now (search rules) 82 108 (omega arith) in
    record { text_rows = (omega (arith, text), omega (arith, text)); other_rows = (omega (arith, other), omega (arith, other)); digit_rows = (omega (arith, digits), omega (arith, digits)) }

pub returns-then-not-parts_hold : goal.returns-then-not-parts_hold
unfolding row_at table layout_of
returns-then-not-parts_hold c =
    let texts = rw (c.field_bytes.ensures, c.span-behind.ensures, c.span-numbers.ensures) at c.parts_hold.ensures in
    parts_fail c.args.rec.now texts c.if-not-parts_hold.true

pub returns : goal.returns
unfolding row_at table layout_of
returns c =
    let texts = rw (c.field_bytes.ensures, c.span-behind.ensures, c.span-numbers.ensures) at c.parts_hold.ensures in
    let blanks = rw c.field_bytes-2.ensures at c.all_of.ensures in
    blanks_are c.args.rec.now texts c.if-not-parts_hold.false blanks
