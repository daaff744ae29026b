use Rattle.modulus.proofs.check.Goals as goal

pub returns : goal.returns
returns c = cc
