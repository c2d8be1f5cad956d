-- What the definitions of this folder give, for all arguments.
use Rattle.std.specs.Prelude.{◌≡◌, true, false, ◌&&◌, ◌||◌, ℕ, ◌+◌, ◌<◌, pos, ◌≤ℤ◌, eqb, ltb}
use Rattle.calendar.specs.DeliveryYear.{delivery_day}
use Rattle.capacity.specs.Shortfall.{committed}
use Rattle.money.specs.AreaMoney.{due, is_undistributed}
use Rattle.records.specs.declared.format.HourRecord.{HourRecord}
use Rattle.records.specs.Format.{hour_ending}
use Rattle.rules.specs.Facts.{Facts}
use Rattle.rules.specs.Hours.{hour_index}
use Rattle.rules.specs.Dues.{days, watt_days_in, committed_in, shortfall_in, share_in, net_in, ready_excess, due_in, undistributed_in}

abbrev pub day_of : ℕ → HourRecord → ℕ
day_of y h = delivery_day y h.month h.day

pub record HourLaws : Type 0 where
  -- one hour comes before another if its day does, or if the day is the same and its hour ending is lower
  pub hours_ordered : (y : ℕ) (h k : HourRecord) → hour_ending.holds h.hour ≡ true → hour_ending.holds k.hour ≡ true
      → ltb (hour_index y h) (hour_index y k) ≡ (ltb (day_of y h) (day_of y k) || (eqb (day_of y h) (day_of y k) && ltb h.hour k.hour))

-- 01, T of a unit: that of one without an owner
abbrev pub committed_of : Facts → ℕ → ℕ
committed_of F u = committed (F.unit u).rating.installed.0 (F.unit u).rating.eford (watt_days_in F.commitment u) (days F)

-- section 10 as 01 has it: each T is 01's, and dues and row 11 are worked from the nets
pub record SettledBy01 (F : Facts) : Type 0 where
  pub same_committed : (u : ℕ) → committed_in F u ≡ committed_of F u
  pub same_due : (a p : ℕ) → due_in F a p ≡ due (net_in F a) (F.area a).price (days F) (F.obligation a) p
  pub same_undistributed : (a : ℕ) → undistributed_in F a ≡ is_undistributed (net_in F a) (F.area a).price (days F) (F.obligation a)

-- 02, Item 2: what an owner does and does not change
pub record OwnerLaws : Type 0 where
  -- with V above 0 the owner plays no part
  pub owner_no_part : (F : Facts) (u : ℕ) → 0 < watt_days_in F.commitment u → committed_in F u ≡ committed_of F u
  pub committed_no_excess : (F : Facts) (u : ℕ) → 0 < watt_days_in F.commitment u → (a p : ℕ) → ready_excess F a p u ≡ 0
  -- with V = 0 a unit has no shares, whoever its owner is, and where its S is not below zero it has no excess: a ready unit's
  -- shortfall is charged to nobody
  pub no_shares : (F : Facts) (u : ℕ) → watt_days_in F.commitment u ≡ 0 → (a p : ℕ) → share_in F a u p ≡ pos 0
  pub no_excess_of_shortfall : (F : Facts) (u : ℕ) → pos 0 ≤ℤ shortfall_in F u → (a p : ℕ) → ready_excess F a p u ≡ 0
  -- V is 0 where all commitments of the unit are withdrawn
  pub withdrawn : (F : Facts) (u : ℕ) → ((k : ℕ) → (F.commitment k).unit ≡ u + 1 → (F.commitment k).watts ≡ 0) → watt_days_in F.commitment u ≡ 0
  -- an excess counts in the unit's area and for its owner alone
  pub own_area : (F : Facts) (u a : ℕ) → eqb (F.unit u).area (a + 1) ≡ false → (p : ℕ) → ready_excess F a p u ≡ 0
  pub own_party : (F : Facts) (u p : ℕ) → eqb (F.owner u) (p + 1) ≡ false → (a : ℕ) → ready_excess F a p u ≡ 0
  -- where no unit has an owner, all is settled as in 01
  pub unowned : (F : Facts) → ((u : ℕ) → F.owner u ≡ 0) → SettledBy01 F
