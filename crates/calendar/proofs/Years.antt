-- The closed form for the days before a year is the sum of the years' days, 365 or 366.
use Rattle.std.proofs.Common.{◌≡◌, ℕ, ◌+◌, ◌≤◌}
use Rattle.std.proofs.Common.{arith}
use Rattle.std.proofs.lemmas.Bool.Decides.{nat_tests}
use Rattle.calendar.specs.Gregorian.{leap_year, multiples_below, days_before_year}
use Rattle.calendar.proofs.Months.{year_days}

pub year_step : (y : ℕ) → days_before_year (y + 1) ≡ days_before_year y + year_days (leap_year y)
unfolding days_before_year leap_year multiples_below
year_step y = grind (arith, nat_tests)

pub year_grows : (a b : ℕ) → a ≤ b → days_before_year a ≤ days_before_year b
unfolding days_before_year multiples_below
year_grows a b h = omega arith
