use Rattle.layout.specs.Layouts.{rows_of, layout_of}
use Rattle.layout.proofs.rows_of.Goals as goal

pub returns-in-Header : goal.returns-in-Header
unfolding rows_of layout_of
returns-in-Header c = rw c.in-Header.is

pub returns-in-Payment : goal.returns-in-Payment
unfolding rows_of layout_of
returns-in-Payment c = rw c.in-Payment.is

pub returns-in-Trailer : goal.returns-in-Trailer
unfolding rows_of layout_of
returns-in-Trailer c = rw c.in-Trailer.is
