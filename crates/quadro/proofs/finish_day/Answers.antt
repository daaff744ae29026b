use Rattle.answer.proofs.Orders.{answer_alone, and_then}
use Rattle.quadro.proofs.finish_day.Goals as goal

pub returns : goal.returns
returns c = rw (c.and-2.ensures, c.and.ensures, c.finish.ensures.answer, answer_alone, and_then)
