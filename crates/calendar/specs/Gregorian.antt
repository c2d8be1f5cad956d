-- The Gregorian calendar: leap years, the days of a month, which dates there are, and the number of each day.
-- 01, Records ("a Gregorian leap year") and Places of refusal, row 6 ("a date not in the calendar").
use Rattle.std.specs.Prelude.{Bool, not, cond, ◌&&◌, ◌||◌, ℕ, ◌+◌, ◌-◌, ◌*◌, ◌/◌, ◌%◌, ltb, eqb}
use Rattle.numbers.specs.Range.{within}
use Rattle.numbers.specs.Sum.{sum_below}

-- every fourth year is leap, but of the full centuries only every fourth
unfoldable pub leap_year : ℕ → Bool
leap_year y = eqb (y % 4) 0 && (not (eqb (y % 100) 0) || eqb (y % 400) 0)

-- The days of month m, in a leap year or in a common one. A number that is no month has none.
unfoldable pub month_days : Bool → ℕ → ℕ
month_days leap m =
    cond (eqb m 2) (cond leap 29 28)
    (cond (eqb m 4 || eqb m 6 || eqb m 9 || eqb m 11) 30
    (cond (within 1 12 m) 31 0))

abbrev pub days_of_month : ℕ → ℕ → ℕ
days_of_month y m = month_days (leap_year y) m

-- day d of month m of year y is in the calendar
unfoldable pub is_date : ℕ → ℕ → ℕ → Bool
is_date y m d = within 1 (days_of_month y m) d

-- how many multiples of n are below y, 0 among them
unfoldable pub multiples_below : ℕ → ℕ → ℕ
multiples_below n y = (y + (n - 1)) / n

-- the days of the years before y, from year 0 on: 365 each, and one more for each leap year among them
unfoldable pub days_before_year : ℕ → ℕ
days_before_year y = 365 * y + multiples_below 4 y - multiples_below 100 y + multiples_below 400 y

-- the days of the months before month m of year y
abbrev pub days_before_month : ℕ → ℕ → ℕ
days_before_month y m = sum_below m (month_days (leap_year y))

-- the day of the year: 1 January is day 1
unfoldable pub day_of_year : ℕ → ℕ → ℕ → ℕ
day_of_year y m d = days_before_month y m + d

-- The number of a day: 1 January of year 0 is day 1. That each next date has the next number is a law (Laws.antt).
unfoldable pub day_number : ℕ → ℕ → ℕ → ℕ
day_number y m d = days_before_year y + day_of_year y m d

pub record Date : Type 0 where
  pub year : ℕ
  pub month : ℕ
  pub day : ℕ

-- one date comes before another: by year, then month, then day
unfoldable pub is_earlier : Date → Date → Bool
is_earlier s t =
    ltb s.year t.year
    || eqb s.year t.year && (ltb s.month t.month || eqb s.month t.month && ltb s.day t.day)

-- the date after day d of month m of year y
unfoldable pub next_date : ℕ → ℕ → ℕ → Date
next_date y m d =
    cond (ltb d (days_of_month y m)) (record { year = y; month = m; day = d + 1 })
    (cond (ltb m 12) (record { year = y; month = m + 1; day = 1 })
    (record { year = y + 1; month = 1; day = 1 }))
