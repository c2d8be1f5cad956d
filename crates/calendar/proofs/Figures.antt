-- The definitions give figures a to d, and those of 02, Item 1.
use Rattle.std.proofs.Common.{refl}
use Rattle.numbers.specs.Sum.{sum_below}
use Rattle.numbers.specs.Range.{within}
use Rattle.numbers.specs.Rows.{EachGiven}
use Rattle.calendar.specs.Gregorian.{leap_year, month_days, is_date, multiples_below, days_before_year, day_of_year, day_number}
use Rattle.calendar.specs.Week.{weekday}
use Rattle.calendar.specs.Holidays.{day_of_third_monday, third_monday, falls_on, day_before, day_after, kept_on, free_day, work_day, has_june_19}
use Rattle.calendar.specs.Peak.{summer_peak, winter_peak, peak_period, peak_hour, is_answered, peak_answer}
use Rattle.calendar.specs.Figures.{CalendarGiven, calendar_rows}

pub calendar_figures : EachGiven CalendarGiven calendar_rows
unfolding sum_below within leap_year month_days is_date multiples_below days_before_year day_of_year day_number
    weekday day_of_third_monday third_monday falls_on day_before day_after kept_on free_day work_day has_june_19
    summer_peak winter_peak peak_period peak_hour is_answered peak_answer
calendar_figures = (refl, (refl, (refl, (refl, (refl, (refl, (refl, (refl, (refl, (refl, (refl, (refl, (refl, (refl, (refl, (refl, (refl, (refl, (refl, (refl, (refl, (refl, (refl, (refl, (refl, (refl, (refl, (refl, tt))))))))))))))))))))))))))))
