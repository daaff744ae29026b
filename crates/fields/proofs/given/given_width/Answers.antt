use Rattle.fields.proofs.Parts.{part_order, part_width}
use Rattle.fields.proofs.given.given_width.Goals as goal

pub overflow_sub-result : goal.overflow_sub-result
overflow_sub-result c = part_order c.requires c.given_of-given.ensures

pub returns : goal.returns
returns c = part_width c.requires c.given_of-given.ensures
