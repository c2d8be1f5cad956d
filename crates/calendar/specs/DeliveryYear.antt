-- The delivery year: year y runs from 1 June y to 31 May y + 1.
-- 01, Records.
use Rattle.std.specs.Prelude.{Bool, cond, ◌&&◌, ℕ, ◌+◌, ◌-◌, leb}
use Rattle.calendar.specs.Gregorian.{leap_year, is_date, day_number}
use Rattle.calendar.specs.Peak.{peak_hour}
use Rattle.calendar.specs.declared.delivery_year.DeliveryDate.{DeliveryDate}

-- no date of any year
abbrev pub no_date : DeliveryDate
no_date = record { year = 0; month = 0; day = 0 }

-- 366 days if y + 1 is a leap year, else 365: document 01's "days"
unfoldable pub delivery_days : ℕ → ℕ
delivery_days y = cond (leap_year (y + 1)) 366 365

-- months 6 to 12 lie in y, 1 to 5 in y + 1
unfoldable pub calendar_year : ℕ → ℕ → ℕ
calendar_year y m = cond (leb 6 m) y (y + 1)

-- day d of month m is a date of delivery year y
unfoldable pub is_delivery_date : ℕ → ℕ → ℕ → Bool
is_delivery_date y m d = is_date (calendar_year y m) m d

-- The day of the delivery year: day 0 is 1 June. What is no date of the year is given 0 too.
unfoldable pub delivery_day : ℕ → ℕ → ℕ → ℕ
delivery_day y m d = cond (is_delivery_date y m d) (day_number (calendar_year y m) m d - day_number y 6 1) 0

-- 01, Hours: day d of month m is a date of delivery year y, and its hour ending h is peak
unfoldable pub is_delivery_peak : ℕ → ℕ → ℕ → ℕ → Bool
is_delivery_peak y m d h = is_delivery_date y m d && peak_hour (calendar_year y m) m d h
