-- A Day record, which stands for 24 Hour records. 02, Item 3.
use Rattle.std.specs.Prelude.{Bool, cond, ℕ, ◌+◌}
use Rattle.numbers.specs.Sum.{sum_below}
use Rattle.calendar.specs.Peak.{day_hours, has_hour}
use Rattle.records.specs.declared.format.HourRecord.{HourRecord}
use Rattle.records.specs.declared.format.DayRecord.{DayRecord}
use Rattle.rules.specs.Hours.{in_service, reserve_shutdown, service_hour}

-- "A set bit means kind 0, a clear one kind 5."
abbrev pub marked_kind : Bool → ℕ
marked_kind is_set = cond is_set in_service reserve_shutdown

-- The Hour record of the hour ending h. "The lowest bit of the last byte is the hour ending 1, the highest of the first the hour
-- ending 24": has_hour of calendar's Peak.
abbrev pub day_hour : DayRecord → ℕ → HourRecord
day_hour d h = record { unit = d.unit; month = d.month; day = d.day; hour = h; kind = marked_kind (has_hour d.marks h); derating = 0 }

-- what the 24 add to SH
abbrev pub day_service : ℕ → DayRecord → ℕ
day_service y d = sum_below day_hours (λ k. service_hour y (day_hour d (k + 1)))
