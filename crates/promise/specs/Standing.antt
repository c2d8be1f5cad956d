-- Standing facts. 01, Records: "the year, each unit's Unit record, the latest accepted record of each key, and the set of
-- accepted Hour records of each unit". 02, Item 2: owners join them. 02, Item 3: the 24 hours of an accepted Day are among the Hour
-- records. They are read from lists of accepted records.
use Rattle.std.specs.Prelude.{◌≡◌, ◌↔◌, List, ℕ}
use mathlib.Core.List.{Memᴰ}
use Rattle.records.specs.declared.format.HourRecord.{HourRecord}
use Rattle.records.specs.declared.format.LoadRecord.{LoadRecord}
use Rattle.records.specs.Kinds.{Decoded}
use Rattle.promise.specs.Reckoning.{year_of, latest_area, unit_of, latest_commitment, latest_load, latest_owner, accepted_hours}

-- Two lists that leave the same standing facts, of which two Loads are compared as `SameLoad` says.
pub record SameBut (SameLoad : LoadRecord → LoadRecord → Type 0) (rs qs : List Decoded) : Type 0 where
  pub year : year_of rs ≡ year_of qs
  pub units : (k : ℕ) → unit_of rs k ≡ unit_of qs k
  pub areas : (k : ℕ) → latest_area rs k ≡ latest_area qs k
  pub commitments : (k : ℕ) → latest_commitment rs k ≡ latest_commitment qs k
  pub loads : (a p : ℕ) → SameLoad (latest_load rs a p) (latest_load qs a p)
  pub owners : (k : ℕ) → latest_owner rs k ≡ latest_owner qs k
  -- an Hour record is among the unit's in the one list if and only if it is in the other
  pub hours : (u : ℕ) (h : HourRecord) → Memᴰ h (accepted_hours rs u) ↔ Memᴰ h (accepted_hours qs u)

-- the paper's: the latest accepted Load of each key is the same record
abbrev pub SameStanding : List Decoded → List Decoded → Type 0
SameStanding = SameBut (λ l m. l ≡ m)

-- this asks less of the two lists: a Load of 0 W and none at all are the same
abbrev pub SameStandingWatts : List Decoded → List Decoded → Type 0
SameStandingWatts = SameBut (λ l m. l.obligation ≡ m.obligation)
