use mathlib.Core.Path.{sym}
use Rattle.page.proofs.Plain.{needed_log, needed_none}
use Rattle.page.proofs.digits_needed.Goals as goal

pub returns-in-Some-clause-counted : goal.returns-in-Some-clause-counted
returns-in-Some-clause-counted c =
    needed_log c.args.n c.in-Some.log c.in-Some.ensures.power_le c.in-Some.ensures.next_power_gt

pub returns-in-None-clause-counted : goal.returns-in-None-clause-counted
returns-in-None-clause-counted c = sym (needed_none c.args.n c.in-None.ensures.none)
