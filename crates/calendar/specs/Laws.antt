-- What makes the formulas of this folder the calendar.
use Rattle.std.specs.Prelude.{◌≡◌, ◌≢◌, ◌⊎◌, Bool, true, false, cond, ◌||◌, ℕ, ◌+◌, ◌-◌, ◌*◌, ◌%◌, ◌≤◌, ◌<◌}
use Rattle.numbers.specs.Range.{within}
use Rattle.calendar.specs.Gregorian.{Date, leap_year, is_date, days_before_year, day_number, is_earlier, next_date}
use Rattle.calendar.specs.Week.{monday, tuesday, friday, saturday, sunday, weekday, weekday_of_day}
use Rattle.calendar.specs.Peak.{day_hours, hour_bits, has_hour}
use Rattle.calendar.specs.Holidays.{day_of_third_monday, third_monday, falls_on, has_june_19, is_holiday}
use Rattle.calendar.specs.DeliveryYear.{delivery_days, delivery_day}

abbrev pub is_date_of : Date → Bool
is_date_of t = is_date t.year t.month t.day

abbrev pub day_number_of : Date → ℕ
day_number_of t = day_number t.year t.month t.day

pub record CalendarLaws : Type 0 where
  -- the days before a year, a closed form, are the sum of the days of the years before it
  pub year_step : (y : ℕ) → days_before_year (y + 1) ≡ days_before_year y + cond (leap_year y) 366 365
  -- the next date is a date, and its number is the next number: over month ends, year ends and leap days, in all years
  pub next_is_date : (y m d : ℕ) → is_date y m d ≡ true → is_date_of (next_date y m d) ≡ true
  pub day_number_steps : (y m d : ℕ) → is_date y m d ≡ true → day_number_of (next_date y m d) ≡ day_number y m d + 1
  -- dates in their order have numbers in their order, so that no date lies between one and the next
  pub day_number_orders : (s t : Date) → is_date_of s ≡ true → is_date_of t ≡ true → is_earlier s t ≡ true → day_number_of s < day_number_of t
  -- a known weekday (01, figure a): 5 July 2011 is a Tuesday
  pub known_weekday : weekday 2011 7 5 ≡ tuesday
  -- the third Monday is the only Monday from 15 to 21
  pub third_monday_from : (y m : ℕ) → 15 ≤ third_monday (weekday y) m
  pub third_monday_to : (y m : ℕ) → third_monday (weekday y) m ≤ 21
  pub third_monday_is : (y m : ℕ) → weekday y m (third_monday (weekday y) m) ≡ monday
  pub third_monday_only : (y m d : ℕ) → 15 ≤ d → d ≤ 21 → weekday y m d ≡ monday → d ≡ third_monday (weekday y) m
  -- the delivery year: day 0 is 1 June, the last day is 31 May, and every date's day is one of the year's
  pub first_day : (y : ℕ) → delivery_day y 6 1 ≡ 0
  pub last_day : (y : ℕ) → delivery_day y 5 31 + 1 ≡ delivery_days y
  pub day_below : (y m d : ℕ) → delivery_day y m d < delivery_days y

-- The day of the third Monday by the weekday of the month's 1st, in a year of the calendar or in none.
-- 02, Item 4: "It is shown for each that this day is a Monday and the only one from 15 to 21. Answers are identical."
pub record ThirdMondayLaws : Type 0 where
  -- for each of the seven
  pub from_15 : (first : ℕ) → first ≤ sunday → 15 ≤ day_of_third_monday first
  pub to_21 : (first : ℕ) → first ≤ sunday → day_of_third_monday first ≤ 21
  pub is_monday : (first : ℕ) → first ≤ sunday → weekday_of_day first (day_of_third_monday first) ≡ monday
  pub only_monday : (first : ℕ) → first ≤ sunday → (d : ℕ) → 15 ≤ d → d ≤ 21 → weekday_of_day first d ≡ monday → d ≡ day_of_third_monday first
  -- as before, it is the first Monday, as many days after the 1st as are left to a Monday, and 14 days
  pub as_before : (first : ℕ) → first ≤ sunday → day_of_third_monday first ≡ 1 + (7 - first) % 7 + 14
  -- each month of the calendar has these weekdays
  pub in_calendar : (y m d : ℕ) → 1 ≤ d → weekday_of_day (weekday y m 1) d ≡ weekday y m d

-- hours of a day as bits
pub record HourBitLaws : Type 0 where
  -- 02, Item 3: of three bytes "the lowest bit of the last byte is the hour ending 1, the highest of the first the hour ending 24"
  pub lowest_bit : has_hour 1 1 ≡ true
  pub highest_bit : has_hour (128 * 65536) 24 ≡ true
  -- and between these eight hours a byte
  pub last_byte : (a b c h : ℕ) → within 1 8 h ≡ true → has_hour (a * 65536 + b * 256 + c) h ≡ has_hour c h
  pub middle_byte : (a b c h : ℕ) → c < 256 → within 1 8 h ≡ true → has_hour (a * 65536 + b * 256 + c) (h + 8) ≡ has_hour b h
  pub first_byte : (a b c h : ℕ) → b < 256 → c < 256 → within 1 8 h ≡ true → has_hour (a * 65536 + b * 256 + c) (h + 16) ≡ has_hour a h
  -- the bits of the hours at which f holds
  pub bits_of_hours : (f : ℕ → Bool) (h : ℕ) → within 1 day_hours h ≡ true → has_hour (hour_bits f) h ≡ f h
  -- no hour is outside 1 to 24
  pub no_other_hour : (hours h : ℕ) → within 1 day_hours h ≡ false → has_hour hours h ≡ false

abbrev pub next_of : Date → Date
next_of t = next_date t.year t.month t.day

abbrev pub weekday_of : Date → ℕ
weekday_of t = weekday t.year t.month t.day

-- a holiday falls on date t
abbrev pub holiday_falls_on : Date → Bool
holiday_falls_on t = falls_on (weekday t.year) (has_june_19 t.year) t.month t.day

abbrev pub is_holiday_of : Date → Bool
is_holiday_of t = is_holiday t.year t.month t.day

-- date s is the one before or the one after date t, a Monday to Friday, and a holiday
pub record KeptBeside (t s : Date) : Type 0 where
  pub is_date : is_date_of s ≡ true
  pub beside : (next_of s ≡ t) ⊎ (next_of t ≡ s)
  pub weekday : weekday_of s < saturday
  pub is_holiday : is_holiday_of s ≡ true

-- there is such a date beside t, and no other
pub record KeptOnce (t : Date) : Type 0 where
  pub kept : Date
  pub is_kept : KeptBeside t kept
  pub only : (s : Date) → KeptBeside t s → s ≡ kept

-- 02, Item 1
pub record HolidayLaws : Type 0 where
  -- a Friday is a holiday if and only if a holiday falls on it or on the Saturday after it
  pub friday_before : (t : Date) → is_date_of t ≡ true → weekday_of t ≡ friday → is_holiday_of t ≡ (holiday_falls_on t || holiday_falls_on (next_of t))
  -- a Monday, if and only if one falls on it or on the Sunday before it
  pub monday_after : (t : Date) → is_date_of t ≡ true → weekday_of t ≡ sunday → is_holiday_of (next_of t) ≡ (holiday_falls_on (next_of t) || holiday_falls_on t)
  -- any other day, if and only if one falls on it: so no Saturday and no Sunday is a holiday that is only kept
  pub other_days : (t : Date) → weekday_of t ≢ friday → weekday_of t ≢ monday → is_holiday_of t ≡ holiday_falls_on t
  -- a holiday that falls on a Saturday or a Sunday is kept on exactly one Monday to Friday beside it. Years are counted from year
  -- 0, whose 1 January has no date before it.
  pub kept_once : (t : Date) → 1 ≤ t.year → is_date_of t ≡ true → saturday ≤ weekday_of t → holiday_falls_on t ≡ true → KeptOnce t
