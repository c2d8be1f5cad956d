-- A known weekday, the weekdays of a month, and the third Monday.
use Rattle.std.proofs.Common.{◌≡◌, sym, ◌∙◌, refl, ℕ, ◌+◌, ◌-◌, ◌%◌, ◌≤◌, arith}
use Rattle.std.proofs.lemmas.Bool.Decides.{nat_tests}
use Rattle.numbers.specs.Sum.{sum_below}
use Rattle.numbers.specs.Range.{within}
use Rattle.calendar.specs.Gregorian.{leap_year, month_days, multiples_below, days_before_year, day_of_year, day_number}
use Rattle.calendar.specs.Week.{monday, tuesday, sunday, weekday, weekday_of_day}
use Rattle.calendar.specs.Holidays.{day_of_third_monday, third_monday}

pub known_weekday : weekday 2011 7 5 ≡ tuesday
unfolding sum_below within leap_year month_days multiples_below days_before_year day_of_year day_number weekday
known_weekday = refl

-- by the weekday of the 1st
module _ (first : ℕ) (seven : first ≤ sunday) where
  pub from_15 : 15 ≤ day_of_third_monday first
  unfolding day_of_third_monday
  from_15 = grind (arith, nat_tests, seven)

  pub to_21 : day_of_third_monday first ≤ 21
  unfolding day_of_third_monday
  to_21 = grind (arith, nat_tests)

  pub is_monday : weekday_of_day first (day_of_third_monday first) ≡ monday
  unfolding day_of_third_monday weekday_of_day
  is_monday = grind (arith, nat_tests, seven)

  pub only_monday : (d : ℕ) → 15 ≤ d → d ≤ 21 → weekday_of_day first d ≡ monday → d ≡ day_of_third_monday first
  unfolding weekday_of_day
  only_monday d from to is = omega (arith, from_15, to_21, is_monday, from, to, is)

  pub as_before : day_of_third_monday first ≡ 1 + (7 - first) % 7 + 14
  unfolding weekday_of_day
  as_before = omega (arith, from_15, to_21, is_monday, seven)

-- in the calendar
module _ (y m : ℕ) where
  pub weekday_small : (d : ℕ) → weekday y m d ≤ sunday
  unfolding weekday
  weekday_small d = omega arith

  pub in_calendar : (d : ℕ) → 1 ≤ d → weekday_of_day (weekday y m 1) d ≡ weekday y m d
  unfolding weekday_of_day weekday day_number day_of_year
  in_calendar d from = omega (arith, from)

  pub third_monday_from : 15 ≤ third_monday (weekday y) m
  unfolding third_monday
  third_monday_from = from_15 (weekday y m 1) (weekday_small 1)

  pub third_monday_to : third_monday (weekday y) m ≤ 21
  unfolding third_monday
  third_monday_to = to_21 (weekday y m 1) (weekday_small 1)

  pub third_monday_is : weekday y m (third_monday (weekday y) m) ≡ monday
  unfolding third_monday
  third_monday_is =
      sym (in_calendar (day_of_third_monday (weekday y m 1)) (omega (arith, third_monday_from))) ∙ is_monday (weekday y m 1) (weekday_small 1)

  pub third_monday_only : (d : ℕ) → 15 ≤ d → d ≤ 21 → weekday y m d ≡ monday → d ≡ third_monday (weekday y) m
  unfolding third_monday
  third_monday_only d from to is =
      only_monday (weekday y m 1) (weekday_small 1) d from to (in_calendar d (omega (arith, from)) ∙ is)
