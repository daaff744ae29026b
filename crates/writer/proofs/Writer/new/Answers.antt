use Rattle.writer.proofs.Writer.new.Goals as goal

pub returns : goal.returns
returns c = rw c.new.ensures
