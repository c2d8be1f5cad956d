-- Days of the week. 01, Hours.
use Rattle.std.specs.Prelude.{ℕ, ◌+◌, ◌-◌, ◌%◌}
use Rattle.calendar.specs.Gregorian.{day_number}

-- the days of the week are counted from Monday, 0, to Sunday, 6
abbrev pub monday : ℕ
monday = 0

abbrev pub tuesday : ℕ
tuesday = 1

abbrev pub wednesday : ℕ
wednesday = 2

abbrev pub thursday : ℕ
thursday = 3

abbrev pub friday : ℕ
friday = 4

abbrev pub saturday : ℕ
saturday = 5

abbrev pub sunday : ℕ
sunday = 6

-- The weekday of a date: day 1, which is 1 January of year 0, is a Saturday.
unfoldable pub weekday : ℕ → ℕ → ℕ → ℕ
weekday y m d = (day_number y m d + 4) % 7

-- The weekday of day d of a month, by that of its 1st. That each month of the calendar has these is a law (Laws.antt).
unfoldable pub weekday_of_day : ℕ → ℕ → ℕ
weekday_of_day first d = (first + (d - 1)) % 7
