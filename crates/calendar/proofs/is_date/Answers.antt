use borrow.Author.Tests.{le-leb, lt-leb}
use Rattle.calendar.proofs.Dates.{by_days}
use Rattle.calendar.specs.Dates.{is_date}
use Rattle.calendar.proofs.is_date.Goals as goal

pub returns-then-date-lt1900 : goal.returns-then-date-lt1900
unfolding is_date
returns-then-date-lt1900 c = simp (lt-leb _ _ c.if-date-lt1900.true)

pub returns-then-date-gt2199 : goal.returns-then-date-gt2199
unfolding is_date
returns-then-date-gt2199 c = simp (le-leb _ _ c.if-date-lt1900.false, lt-leb _ _ c.if-date-gt2199.true)

pub returns-then-date-lt1 : goal.returns-then-date-lt1
unfolding is_date
returns-then-date-lt1 c = simp (le-leb _ _ c.if-date-lt1900.false, le-leb _ _ c.if-date-gt2199.false, lt-leb _ _ c.if-date-lt1.true)

pub returns : goal.returns
returns c = by_days _ c.if-date-lt1900.false c.if-date-gt2199.false c.if-date-lt1.false c.days_in.ensures
