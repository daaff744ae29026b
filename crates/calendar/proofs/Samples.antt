-- The edges, by computation. Assumes nothing.
use mathlib.Core.Path.{refl}
use Rattle.decimal.specs.Bytes.{is_of}
use Rattle.decimal.specs.Numbers.{value_of, digits_of}
use Rattle.calendar.specs.Dates.{is_leap, days_in, is_date, date_of}
use Rattle.calendar.specs.Samples.{edges, Hold}

pub edges_hold : Hold edges
unfolding date_of is_date days_in is_leap digits_of value_of is_of
edges_hold = refl
