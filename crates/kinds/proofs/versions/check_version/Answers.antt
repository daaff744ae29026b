use Rattle.layout.specs.Layouts.{row_at, table, layout_of}
use Rattle.kinds.specs.Terms.{version_answer}
use Rattle.kinds.proofs.versions.check_version.Goals as goal

pub returns-in-Payment : goal.returns-in-Payment
unfolding version_answer row_at table layout_of
returns-in-Payment c = rw (c.in-Payment.is, c.require.ensures, c.is_version.ensures)
