-- The day of the delivery year is one of its days.
use Rattle.std.proofs.Common.{◌≡◌, refl, Bool, true, ℕ, ◌+◌, ◌≤◌, ◌<◌, arith}
use Rattle.std.proofs.lemmas.Bool.Decides.{nat_tests}
use Rattle.numbers.specs.Sum.{sum_below}
use Rattle.numbers.specs.Range.{within}
use Rattle.numbers.proofs.Sums.{sum_grows, sum_term}
use Rattle.calendar.specs.Gregorian.{month_days, leap_year, is_date, day_of_year, day_number}
use Rattle.calendar.specs.DeliveryYear.{delivery_days, calendar_year, is_delivery_date, delivery_day}
use Rattle.calendar.proofs.Months.{year_small, year_months, before_june}
use Rattle.calendar.proofs.Years.{year_step}
use Rattle.calendar.proofs.Dates.{DateFacts, date_facts}

-- day n is one of the days of delivery year y, which begin at 1 June
pub record InYear (y n : ℕ) : Type 0 where
  pub from : day_number y 6 1 ≤ n
  pub to : n < day_number y 6 1 + delivery_days y

june_in_year : (y m d : ℕ) → is_date y m d ≡ true → 6 ≤ m → InYear y (day_number y m d)
unfolding delivery_days day_number day_of_year
june_in_year y m d e june =
    let f : DateFacts y m d = date_facts y m d e in
    record {
      from = omega (arith, sum_grows 6 m (month_days (leap_year y)) june);
      to =
          omega (
            arith,
            sum_term m 13 (month_days (leap_year y)) (omega arith),
            year_months (leap_year y),
            before_june (leap_year y),
            before_june (leap_year (y + 1)),
          );
    }

may_in_year : (y m d : ℕ) → is_date (y + 1) m d ≡ true → m < 6 → InYear y (day_number (y + 1) m d)
unfolding delivery_days day_number day_of_year
may_in_year y m d e may =
    let f : DateFacts (y + 1) m d = date_facts (y + 1) m d e in
    record {
      from = omega (arith, year_step y, before_june (leap_year y));
      to =
          omega (
            arith,
            sum_term m 6 (month_days (leap_year (y + 1))) may,
            year_step y,
            before_june (leap_year y),
            before_june (leap_year (y + 1)),
          );
    }

pub in_year : (y m d : ℕ) → is_delivery_date y m d ≡ true → InYear y (day_number (calendar_year y m) m d)
unfolding is_delivery_date calendar_year
in_year y m d e = grind (arith, nat_tests, june_in_year y m d, may_in_year y m d)

june_first : (y : ℕ) → is_delivery_date y 6 1 ≡ true
unfolding is_delivery_date calendar_year is_date within month_days
june_first y = refl

may_last : (y : ℕ) → is_delivery_date y 5 31 ≡ true
unfolding is_delivery_date calendar_year is_date within month_days
may_last y = refl

may_days : (leap : Bool) → sum_below 6 (month_days leap) ≡ sum_below 5 (month_days leap) + 31
unfolding sum_below month_days within
may_days leap = refl

pub first_day : (y : ℕ) → delivery_day y 6 1 ≡ 0
unfolding delivery_day calendar_year
first_day y = grind (arith, nat_tests, june_first y)

pub last_day : (y : ℕ) → delivery_day y 5 31 + 1 ≡ delivery_days y
unfolding delivery_day delivery_days day_number day_of_year calendar_year
last_day y =
    grind (arith, nat_tests, may_last y, year_step y, may_days (leap_year (y + 1)), before_june (leap_year y), before_june (leap_year (y + 1)))

pub day_below : (y m d : ℕ) → delivery_day y m d < delivery_days y
unfolding delivery_day
day_below y m d = grind (arith, nat_tests, in_year y m d, last_day y)

pub days_at_most : (y : ℕ) → delivery_days y ≤ 366
unfolding delivery_days
days_at_most y = year_small (leap_year (y + 1))

pub day_small : (y m d : ℕ) → delivery_day y m d < 366
day_small y m d = omega (arith, day_below y m d, days_at_most y)
