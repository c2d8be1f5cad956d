-- The rules over the facts: which row of refusal fits a string. 01, Places of refusal.
use Rattle.std.specs.Prelude.{Bool, false, cond, List, ℕ, ◌-◌}
use Rattle.numbers.specs.Range.{within}
use Rattle.records.specs.declared.format.AreaRecord.{AreaRecord}
use Rattle.records.specs.declared.format.UnitRecord.{UnitRecord}
use Rattle.records.specs.Kinds.{Decoded}
use Rattle.records.specs.Decoded.{decoded}
use Rattle.records.specs.Format.{area_count, unit_count, commitment_count, party_count}
use Rattle.records.specs.Kinds.{of_area, of_unit, of_commitment, of_hour, of_load, of_post, of_owner, of_day}
use Rattle.calendar.specs.declared.delivery_year.DeliveryDate.{DeliveryDate}
use Rattle.calendar.specs.DeliveryYear.{no_date}
use Rattle.rules.specs.Hours.{date_of}
use Rattle.rules.specs.Days.{day_hour}
use Rattle.rules.specs.declared.refusal.Asked.{Asked}
use Rattle.rules.specs.Refusal.{refusal_of}
use Rattle.rules.specs.Facts.{Facts, is_entered}
use Rattle.rules.specs.Dues.{undistributed_in}

-- The index of number n of 1 to most, counted from 0. A number out of range is given 0: row 6 refuses it before a row asks.
unfoldable pub index : ℕ → ℕ → ℕ
index most n = cond (within 1 most n) (n - 1) 0

-- of an area, a unit, a commitment and a party
abbrev pub area_index : ℕ → ℕ
area_index n = index area_count n

abbrev pub unit_index : ℕ → ℕ
unit_index n = index unit_count n

abbrev pub number_index : ℕ → ℕ
number_index n = index commitment_count n

abbrev pub party_index : ℕ → ℕ
party_index n = index party_count n

-- the index of the area that a record names; for a record that names none, 0, and no row asks
abbrev pub area_named : Decoded → ℕ
area_named r =
    area_index (of_area (of_unit (of_load (of_post 0 (λ a. a) r) (λ l. l.area) r) (λ u. u.area) r) (λ a. a.area) r)

-- and of the unit
abbrev pub unit_named : Decoded → ℕ
unit_named r =
    unit_index (of_unit (of_commitment (of_hour (of_owner (of_day 0 (λ d. d.unit) r) (λ o. o.unit) r) (λ h. h.unit) r) (λ c. c.unit) r) (λ u. u.unit) r)

-- the date that a record names, in delivery year y; no date for a record that names none
abbrev pub date_named : ℕ → Decoded → DeliveryDate
date_named y r = of_hour (of_day no_date (λ d. date_of y (day_hour d 1)) r) (date_of y) r

-- row 11 is asked of a Post
abbrev pub post_undistributed : Facts → Decoded → Bool
post_undistributed F r = of_post false (λ a. undistributed_in F (area_index a)) r

-- what the rows ask, of the area and the unit that a record names, the unit's last hour, and row 11
abbrev pub asked_of : ℕ → AreaRecord → UnitRecord → ℕ → Bool → Asked
asked_of year area unit last undistributed = record {
  year = year;
  area = is_entered area.area;
  unit = is_entered unit.unit;
  installed = unit.rating.installed;
  last = last;
  undistributed = undistributed;
}

abbrev pub asked : Facts → Decoded → Asked
asked F r = asked_of F.year (F.area (area_named r)) (F.unit (unit_named r)) (F.last (unit_named r)) (post_undistributed F r)

-- the number of a string: that of the first row that fits, 0 where none does
unfoldable pub refusal : Facts → List ℕ → ℕ
refusal F s = refusal_of (asked F (decoded s)) (decoded s)
