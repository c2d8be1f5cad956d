-- What an Hour record adds to its unit's figures. 01, Hours; 002 (b) and (c).
use Rattle.std.specs.Prelude.{◌≡◌, Bool, cond, ◌&&◌, ℕ, ◌+◌, ◌*◌, ◌<◌, eqb, leb, Result, MatchResult}
use Rattle.calendar.specs.Peak.{day_hours}
use Rattle.calendar.specs.DeliveryYear.{delivery_day, is_delivery_peak}
use Rattle.calendar.specs.declared.delivery_year.DeliveryDate.{DeliveryDate}
use Rattle.capacity.specs.declared.rating.HourCounts.{HourCounts}
use Rattle.records.specs.declared.format.HourRecord.{HourRecord}
use Rattle.rules.specs.declared.hour.HourKind.{HourKind}
use Rattle.rules.specs.declared.hour.HourKind.TheVariants.{InService, Derated, DeratingExcused, ForcedOut, OutageExcused, ReserveShutdown}
use Rattle.rules.specs.declared.hour.NoKind.{NoKind}

-- 01, Hours, kinds that a rule names: in service,
abbrev pub in_service : ℕ
in_service = 0

-- in service, forced derating while called upon
abbrev pub derated : ℕ
derated = 1

-- in service, derating excused: the last of the kinds in service
abbrev pub excused : ℕ
excused = 2

-- full forced outage while called upon
abbrev pub forced_out : ℕ
forced_out = 3

abbrev pub reserve_shutdown : ℕ
reserve_shutdown = 5

-- an Hour's date in delivery year y
abbrev pub date_of : ℕ → HourRecord → DeliveryDate
date_of y h = record { year = y; month = h.month; day = h.day }

-- The index of an hour in delivery year y: by day of the delivery year and then hour ending, the first being 1.
unfoldable pub hour_index : ℕ → HourRecord → ℕ
hour_index y h = delivery_day y h.month h.day * day_hours + h.hour

unfoldable pub is_peak : ℕ → HourRecord → Bool
is_peak y h = is_delivery_peak y h.month h.day h.hour

-- In a peak hour: kinds 0 (in service), 1 and 2 add 1 to SH;
unfoldable pub service_hour : ℕ → HourRecord → ℕ
service_hour y h = cond (is_peak y h && leb h.kind excused) 1 0

-- kind 3 adds 1 to FOH;
unfoldable pub outage_hour : ℕ → HourRecord → ℕ
outage_hour y h = cond (is_peak y h && eqb h.kind forced_out) 1 0

-- kind 1 adds its derating to D; kinds 4 (outage excused or not called) and 5 (reserve shutdown) add nothing.
unfoldable pub derated_watts : ℕ → HourRecord → ℕ
derated_watts y h = cond (is_peak y h && eqb h.kind derated) h.derating 0

-- what an hour adds to SH, to FOH and to D
abbrev pub hour_counts : ℕ → HourRecord → HourCounts
hour_counts y h = record { service = service_hour y h; outage = outage_hour y h; derated = derated_watts y h }

-- what a unit's hours come to, with one more
unfoldable pub counted : ℕ → HourCounts → HourRecord → HourCounts
counted y c h = record {
  service = c.service + service_hour y h;
  outage = c.outage + outage_hour y h;
  derated = c.derated + derated_watts y h;
}

-- the number of a kind
abbrev pub kind_number : HourKind → ℕ
kind_number InService = in_service
kind_number Derated = derated
kind_number DeratingExcused = excused
kind_number ForcedOut = forced_out
kind_number OutageExcused = 4
kind_number ReserveShutdown = reserve_shutdown

-- the kind that has a number; none has one above 5
abbrev pub IsKind : ℕ → Result HourKind NoKind → Type 0
IsKind n r = MatchResult r (λ k. kind_number k ≡ n) (λ e. (e.0 ≡ n) × (5 < n))
