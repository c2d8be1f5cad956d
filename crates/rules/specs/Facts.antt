-- What the rules ask beyond the string: the standing facts of 01, Records, and 02, Item 2, and the figures of each unit's accepted
-- hours, those of its Days (02, Item 3) among them.
-- As an argument, area, unit, commitment and party number k of 01 is k − 1 here; inside a record numbers are the paper's. Where
-- nothing is entered the record is all zeros, which no accepted record is: their numbers begin with 1.
use Rattle.std.specs.Prelude.{Bool, ℕ, ltb}
use Rattle.capacity.specs.declared.rating.HourCounts.{HourCounts}
use Rattle.capacity.specs.Quantities.{installed_watts}
use Rattle.records.specs.declared.format.AreaRecord.{AreaRecord}
use Rattle.records.specs.declared.format.UnitRecord.{UnitRecord}
use Rattle.records.specs.declared.format.CommitmentRecord.{CommitmentRecord}

pub record Facts : Type 0 where
  -- 0 before a year is entered
  pub year : ℕ
  -- the latest accepted record of each area
  pub area : ℕ → AreaRecord
  pub unit : ℕ → UnitRecord
  pub commitment : ℕ → CommitmentRecord
  -- an area's obligation of a party
  pub obligation : ℕ → ℕ → ℕ
  -- 02, Item 2: the number of the party that owns a unit; 0 where it has no owner
  pub owner : ℕ → ℕ
  -- what a unit's accepted peak hours come to: SH, FOH and D
  pub hours : ℕ → HourCounts
  -- the index of a unit's last accepted hour; 0 where it has none
  pub last : ℕ → ℕ

abbrev pub no_area : AreaRecord
no_area = record { area = 0; price = 0 }

abbrev pub no_unit : UnitRecord
no_unit = record { unit = 0; area = 0; rating = record { installed = installed_watts 0; eford = 0; eford5 = 0; efordyear = 0; class = 0 } }

abbrev pub no_hours : HourCounts
no_hours = record { service = 0; outage = 0; derated = 0 }

abbrev pub no_commitment : CommitmentRecord
no_commitment = record { number = 0; unit = 0; party = 0; first = 0; last = 0; watts = 0 }

-- a number other than 0 is that of an entered record
abbrev pub is_entered : ℕ → Bool
is_entered number = ltb 0 number
