use Rattle.pairs.proofs.Memory.new.Goals as goal

pub returns : goal.returns
returns c = rw c.none-unused.ensures
