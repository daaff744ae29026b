use Rattle.writer.proofs.fits_buffer.Goals as goal

pub returns-in-Fresh : goal.returns-in-Fresh
returns-in-Fresh c = rw c.in-Fresh.is c.is_either_length.ensures

pub returns-in-Open : goal.returns-in-Open
returns-in-Open c = rw (c.in-Open.is, c.record_length.ensures)

pub returns-in-Closed : goal.returns-in-Closed
returns-in-Closed c = rw (c.in-Closed.is, c.record_length-in-Closed.ensures)
