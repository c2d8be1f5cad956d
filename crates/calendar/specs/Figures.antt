-- Figures a to d of document 01 ("Figures to be proved in a table"), and those of 02, Item 1.
use Rattle.std.specs.Prelude.{◌≡◌, List, [], ◌∷◌, ℕ}
use Rattle.calendar.specs.Week.{monday, tuesday, friday, saturday, sunday, weekday}
use Rattle.calendar.specs.Peak.{peak_answer}

-- what the paper states of a date: its weekday, or the answer to the peak question at an hour
pub data CalendarRow : Type 0 where
  weekday_is : ℕ → ℕ → ℕ → ℕ → CalendarRow
  peak_is : ℕ → ℕ → ℕ → ℕ → ℕ → CalendarRow

-- the definitions give the row
abbrev pub CalendarGiven : CalendarRow → Type 0
CalendarGiven (weekday_is y m d w) = weekday y m d ≡ w
CalendarGiven (peak_is y m d h answer) = peak_answer y m d h ≡ answer

abbrev pub calendar_rows : List CalendarRow
calendar_rows =
    -- a. Tuesday 5 July 2011: hour 14 no, 15 and 19 peak, 20 no.
    weekday_is 2011 7 5 tuesday
    ∷ peak_is 2011 7 5 14 0
    ∷ peak_is 2011 7 5 15 1
    ∷ peak_is 2011 7 5 19 1
    ∷ peak_is 2011 7 5 20 0
    -- b. Monday 4 July 2011, hour 15: no.
    ∷ weekday_is 2011 7 4 monday
    ∷ peak_is 2011 7 4 15 0
    -- c. 17 January 2011, hour 8: no; 18 January: 8, 9, 19, 20 peak, 10 and 18 no.
    ∷ peak_is 2011 1 17 8 0
    ∷ peak_is 2011 1 18 8 1
    ∷ peak_is 2011 1 18 9 1
    ∷ peak_is 2011 1 18 19 1
    ∷ peak_is 2011 1 18 20 1
    ∷ peak_is 2011 1 18 10 0
    ∷ peak_is 2011 1 18 18 0
    -- d. 29 February 2012, hour 19, peak; in 2011 and 2100 no such date.
    ∷ peak_is 2012 2 29 19 1
    ∷ peak_is 2011 2 29 19 2
    ∷ peak_is 2100 2 29 19 2
    -- 1. Not peak: 3 July 2009, hour 15; 5 July 2010, hour 15; 2 January 2012, hour 8; 18 June 2021, hour 15; 20 June 2022,
    -- hour 15 (19 June 2022 is a Sunday). Peak: 18 June 2020, hour 15; 19 June 2020 (a Friday), hour 15; 3 January 2011, hour 8
    -- (1 January 2011 is a Saturday).
    ∷ peak_is 2009 7 3 15 0
    ∷ peak_is 2010 7 5 15 0
    ∷ peak_is 2012 1 2 8 0
    ∷ peak_is 2021 6 18 15 0
    ∷ peak_is 2022 6 20 15 0
    ∷ weekday_is 2022 6 19 sunday
    ∷ peak_is 2020 6 18 15 1
    ∷ weekday_is 2020 6 19 friday
    ∷ peak_is 2020 6 19 15 1
    ∷ peak_is 2011 1 3 8 1
    ∷ weekday_is 2011 1 1 saturday
    ∷ []
