use Rattle.layout.specs.Layouts.{given_length, layout_of}
use Rattle.layout.proofs.given_length.Goals as goal

pub returns-in-Header : goal.returns-in-Header
unfolding given_length layout_of
returns-in-Header c = rw c.in-Header.is

pub returns-in-Payment : goal.returns-in-Payment
unfolding given_length layout_of
returns-in-Payment c = rw c.in-Payment.is

pub returns-in-Trailer : goal.returns-in-Trailer
unfolding given_length layout_of
returns-in-Trailer c = rw c.in-Trailer.is
