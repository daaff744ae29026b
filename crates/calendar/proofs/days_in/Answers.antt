use mathlib.Core.Path.{sym, ◌∙◌}
use Rattle.calendar.proofs.Months.{month_days, no_month}
use Rattle.calendar.specs.Dates.{days_in}
use Rattle.calendar.proofs.days_in.Goals as goal

pub returns-then-is_leap : goal.returns-then-is_leap
unfolding days_in
returns-then-is_leap c = simp (c.if-month-eq2.true, sym c.is_leap.ensures ∙ c.if-is_leap.true)

pub returns-then-month-eq2 : goal.returns-then-month-eq2
unfolding days_in
returns-then-month-eq2 c = simp (c.if-month-eq2.true, sym c.is_leap.ensures ∙ c.if-is_leap.false)

pub returns-then-month-eq0 : goal.returns-then-month-eq0
unfolding days_in
returns-then-month-eq0 c = simp c.if-month-eq0.true

pub returns-then-month-gt12 : goal.returns-then-month-gt12
returns-then-month-gt12 c = no_month _ _ c.if-month-gt12.true

pub returns : goal.returns
returns c = c.month_end.ensures ∙ month_days _ _ c.if-month-eq2.false c.if-month-eq0.false c.if-month-gt12.false
