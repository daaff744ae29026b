use mathlib.Core.Path.{sym}
use lib.ListN.{get_or-eq_default}
use Rattle.layout.proofs.Tables.{get_d_any}
use Rattle.layout.specs.Layouts.{row, no_field, row_at, table, layout_of}
use Rattle.layout.specs.declared.Kind.TheVariants.{Mark}
use Rattle.layout.proofs.row.Goals as goal

pub returns-then-i-lt-FIELD_COUNT : goal.returns-then-i-lt-FIELD_COUNT
unfolding row_at table layout_of
returns-then-i-lt-FIELD_COUNT c = get_d_any table c.args.i (row 0 0 (Mark 0)) no_field c.if-i-lt-FIELD_COUNT.true

pub returns-else-i-lt-FIELD_COUNT : goal.returns-else-i-lt-FIELD_COUNT
unfolding row_at table layout_of
returns-else-i-lt-FIELD_COUNT c = sym (get_or-eq_default table no_field c.if-i-lt-FIELD_COUNT.false)
