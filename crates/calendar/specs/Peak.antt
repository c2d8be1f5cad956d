-- Peak hours, and the peak question.
-- 01, Hours; 002 (b), where they are called Peak-Hour Periods.
use Rattle.std.specs.Prelude.{Bool, cond, ◌&&◌, ◌||◌, ℕ, ◌+◌, ◌-◌, eqb, Option, Some, None}
use Rattle.std.specs.Int.{bit_at}
use Rattle.numbers.specs.Range.{within}
use Rattle.numbers.specs.Sum.{sum_below}
use Rattle.numbers.specs.Bits.{bits_below}
use Rattle.calendar.specs.Gregorian.{is_date}
use Rattle.calendar.specs.Week.{weekday}
use Rattle.calendar.specs.Holidays.{work_day, has_june_19}

-- June to August, hours ending 15 to 19
unfoldable pub summer_peak : ℕ → ℕ → Bool
summer_peak m h = within 6 8 m && within 15 19 h

-- January and February, hours ending 8, 9, 19 and 20
unfoldable pub winter_peak : ℕ → ℕ → Bool
winter_peak m h = within 1 2 m && (within 8 9 h || within 19 20 h)

-- 01, Records: a day has hours ending 1 to 24
abbrev pub day_hours : ℕ
day_hours = 24

-- hours of a day as bits, as 02, Item 3 numbers them: "the lowest bit .. is the hour ending 1, the highest .. the hour ending 24".
-- Those at which f holds,
abbrev pub hour_bits : (ℕ → Bool) → ℕ
hour_bits f = bits_below day_hours (λ k. f (k + 1))

-- and whether the hour ending h is one of them
abbrev pub has_hour : ℕ → ℕ → Bool
has_hour hours h = within 1 day_hours h && eqb (bit_at hours (h - 1)) 1

-- how many they are
abbrev pub hour_count : ℕ → ℕ
hour_count hours = sum_below day_hours (λ k. cond (has_hour hours (k + 1)) 1 0)

-- the month and hour of a peak hour
unfoldable pub peak_period : ℕ → ℕ → Bool
peak_period m h = summer_peak m h || winter_peak m h

-- day d of month m of the calendar year y is Monday to Friday, not a holiday
abbrev pub peak_day : ℕ → ℕ → ℕ → Bool
peak_day y m d = work_day (weekday y) (has_june_19 y) m d

-- the hour ending h of day d of month m of the calendar year y is peak
unfoldable pub peak_hour : ℕ → ℕ → ℕ → ℕ → Bool
peak_hour y m d h = peak_day y m d && peak_period m h

-- the peak question has an answer: not for a date not in the calendar, an hour outside 1 to 24 or a year outside 2007 to 2100
unfoldable pub is_answered : ℕ → ℕ → ℕ → ℕ → Bool
is_answered y m d h = is_date y m d && within 1 24 h && within 2007 2100 y

-- what the peak question answers: 1 peak, 0 not, 2 where it has no answer
unfoldable pub peak_answer : ℕ → ℕ → ℕ → ℕ → ℕ
peak_answer y m d h = cond (is_answered y m d h) (cond (peak_hour y m d h) 1 0) 2

-- the number that stands for an answer
unfoldable pub peak_number : Option Bool → ℕ
peak_number None = 2
peak_number (Some is_peak) = cond is_peak 1 0
