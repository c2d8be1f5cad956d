-- Dates: what being one says, the next one, and their order.
use Rattle.std.proofs.Common.{◌≡◌, true, ℕ, ◌+◌, ◌≤◌, ◌<◌, arith}
use Rattle.std.proofs.lemmas.Bool.Decides.{nat_tests}
use Rattle.numbers.specs.Range.{within}
use Rattle.numbers.proofs.Sums.{sum_one_more, sum_term}
use Rattle.calendar.specs.Gregorian.{month_days, leap_year, days_of_month, is_date, days_before_year, day_of_year, day_number, Date, is_earlier, next_date}
use Rattle.calendar.specs.Laws.{day_number_of, is_date_of}
use Rattle.calendar.proofs.Months.{no_month, month_starts, year_months, before_january, with_december}
use Rattle.calendar.proofs.Years.{year_step, year_grows}

-- what a date in the calendar has
pub record DateFacts (y m d : ℕ) : Type 0 where
  pub month : m ≤ 12
  pub from : 1 ≤ d
  pub to : d ≤ days_of_month y m

pub date_facts : (y m d : ℕ) → is_date y m d ≡ true → DateFacts y m d
unfolding is_date within
date_facts y m d e =
    record {
      month = grind (arith, nat_tests, no_month (leap_year y) m);
      from = grind (arith, nat_tests);
      to = grind (arith, nat_tests);
    }

pub next_is_date : (y m d : ℕ) → is_date y m d ≡ true → is_date_of (next_date y m d) ≡ true
unfolding is_date next_date within
next_is_date y m d e =
    grind (arith, nat_tests, date_facts y m d e, month_starts (leap_year y) (m + 1), month_starts (leap_year (y + 1)) 1)

pub day_number_steps : (y m d : ℕ) → is_date y m d ≡ true → day_number_of (next_date y m d) ≡ day_number y m d + 1
unfolding day_number day_of_year next_date
day_number_steps y m d e =
    grind (
      arith,
      nat_tests,
      date_facts y m d e,
      sum_one_more m (month_days (leap_year y)),
      year_step y,
      before_january (leap_year (y + 1)),
      with_december (leap_year y) m,
    )

-- a date's day is one of its year
day_in_year : (y m d : ℕ) → is_date y m d ≡ true → day_number y m d ≤ days_before_year (y + 1)
unfolding day_number day_of_year
day_in_year y m d e =
    let f : DateFacts y m d = date_facts y m d e in
    omega (arith, year_step y, year_months (leap_year y), sum_term m 13 (month_days (leap_year y)) (omega (arith, f.month)))

by_year : (y m d y' m' d' : ℕ) → is_date y m d ≡ true → is_date y' m' d' ≡ true → y < y' → day_number y m d < day_number y' m' d'
unfolding day_number day_of_year
by_year y m d y' m' d' e e' h =
    omega (arith, day_in_year y m d e, year_grows (y + 1) y' (omega arith), (date_facts y' m' d' e').from)

by_month : (y m d m' d' : ℕ) → is_date y m d ≡ true → is_date y m' d' ≡ true → m < m' → day_number y m d < day_number y m' d'
unfolding day_number day_of_year
by_month y m d m' d' e e' h =
    omega (arith, (date_facts y m d e).to, sum_term m m' (month_days (leap_year y)) h, (date_facts y m' d' e').from)

by_day : (y m d d' : ℕ) → d < d' → day_number y m d < day_number y m d'
unfolding day_number day_of_year
by_day y m d d' h = omega arith

pub day_number_orders : (s t : Date) → is_date_of s ≡ true → is_date_of t ≡ true → is_earlier s t ≡ true → day_number_of s < day_number_of t
unfolding is_earlier
day_number_orders s t ds dt e = grind (arith, nat_tests, by_year, by_month, by_day)
