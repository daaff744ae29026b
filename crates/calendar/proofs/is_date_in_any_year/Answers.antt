use borrow.Author.Tests.{leb-true}
use Rattle.decimal.proofs.Finite.{never}
use Rattle.calendar.proofs.AnyYear.{early_day, late_day}
use Rattle.calendar.proofs.is_date_in_any_year.Goals as goal

pub returns-then-century-lt19 : goal.returns-then-century-lt19
returns-then-century-lt19 c = never

pub returns-then-century-gt21 : goal.returns-then-century-gt21
returns-then-century-gt21 c = never

pub returns-then-month-lt1 : goal.returns-then-month-lt1
returns-then-month-lt1 c = never

pub returns-then-month-gt12 : goal.returns-then-month-gt12
returns-then-month-gt12 c = never

pub returns-then-day-lt1 : goal.returns-then-day-lt1
returns-then-day-lt1 c = never

pub returns-then-day-le28 : goal.returns-then-day-le28
returns-then-day-le28 c =
    let a = c.args in
    λ e.
    early_day a.century a.month a.day c.if-century-lt19.false c.if-century-gt21.false c.if-month-lt1.false
    c.if-month-gt12.false c.if-day-lt1.false c.if-day-le28.true

pub returns-then-month-eq2 : goal.returns-then-month-eq2
returns-then-month-eq2 c = never

pub returns : goal.returns
returns c =
    let a = c.args in
    λ e.
    late_day a.century a.month a.day c.if-century-lt19.false c.if-century-gt21.false c.if-month-lt1.false
    c.if-month-gt12.false c.if-day-lt1.false c.if-month-eq2.false c.month_end.ensures
    (leb-true a.day c.month_end.result e)
