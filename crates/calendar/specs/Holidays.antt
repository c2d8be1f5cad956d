-- Holidays, and the days that they leave for work, by rules that ask no more of a year than the weekdays of its dates, by month
-- and day, and whether 19 June is a holiday in it. A year of the calendar hands in its own.
-- 02, Item 1 (5 U.S.C. 6103 and Executive Order 11582), whose holidays replace those of 01, Hours.
use Rattle.std.specs.Prelude.{Bool, not, cond, ◌&&◌, ◌||◌, ℕ, leb, ltb, eqb}
use Rattle.calendar.specs.Week.{monday, tuesday, wednesday, thursday, friday, saturday, sunday, weekday}

-- day d of month m is day n of month k
abbrev pub is_day : ℕ → ℕ → ℕ → ℕ → Bool
is_day k n m d = eqb m k && eqb d n

-- 02, Item 4: the day of the third Monday, "a choice on the weekday of the 1st". What is no weekday has none, and 0 is no day.
unfoldable pub day_of_third_monday : ℕ → ℕ
day_of_third_monday first =
    cond (eqb first monday) 15
    (cond (eqb first sunday) 16
    (cond (eqb first saturday) 17
    (cond (eqb first friday) 18
    (cond (eqb first thursday) 19
    (cond (eqb first wednesday) 20
    (cond (eqb first tuesday) 21 0))))))

module _ (weekdays : ℕ → ℕ → ℕ) where
  -- the third Monday of month m
  unfoldable pub third_monday : ℕ → ℕ
  third_monday m = day_of_third_monday (weekdays m 1)

module _ (june_19 : Bool) where
  -- day d of month m is the day before a holiday that has a date: before 1 January (of the year after), 4 July, 19 June
  unfoldable pub day_before : ℕ → ℕ → Bool
  day_before m d = is_day 12 31 m d || is_day 7 3 m d || june_19 && is_day 6 18 m d

  -- and the day after
  unfoldable pub day_after : ℕ → ℕ → Bool
  day_after m d = is_day 1 2 m d || is_day 7 5 m d || june_19 && is_day 6 20 m d

module _ (weekdays : ℕ → ℕ → ℕ) (june_19 : Bool) where
  -- a holiday falls on day d of month m: 1 January, third Monday of January, third Monday of February, 4 July, and 19 June
  unfoldable pub falls_on : ℕ → ℕ → Bool
  falls_on m d =
      is_day 1 1 m d
      || is_day 1 (third_monday weekdays 1) m d
      || is_day 2 (third_monday weekdays 2) m d
      || is_day 7 4 m d
      || june_19 && is_day 6 19 m d

  -- A holiday that falls on Saturday is a holiday on the Friday before too, and one that falls on Sunday on the Monday after.
  -- It is asked of that Friday and that Monday, since a year's weekdays do not say on which day the next begins; laws say it
  -- of all dates in the paper's words, over the ends of years (HolidayLaws).
  unfoldable pub kept_on : ℕ → ℕ → Bool
  kept_on m d = day_before june_19 m d && eqb (weekdays m d) friday || day_after june_19 m d && eqb (weekdays m d) monday

  -- a holiday falls on the day, or is kept on it
  unfoldable pub free_day : ℕ → ℕ → Bool
  free_day m d = falls_on m d || kept_on m d

  -- Monday to Friday, not a holiday
  unfoldable pub work_day : ℕ → ℕ → Bool
  work_day m d = ltb (weekdays m d) saturday && not (free_day m d)

-- 19 June is a holiday from calendar year 2021
unfoldable pub has_june_19 : ℕ → Bool
has_june_19 y = leb 2021 y

-- day d of month m of the calendar year y is a holiday
abbrev pub is_holiday : ℕ → ℕ → ℕ → Bool
is_holiday y m d = free_day (weekday y) (has_june_19 y) m d
