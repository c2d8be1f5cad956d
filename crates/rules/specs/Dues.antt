-- Section 10 over the facts: from commitments and hours to a party's due in an area. 01, From a set to its shortfall and
-- Area money, and 02, Item 2. Numbers count from 0, as in Facts.
use Rattle.std.specs.Prelude.{Bool, cond, ◌&&◌, List, Result, Ok, Err, ℕ, ◌+◌, ℤ, pos, eqb}
use Rattle.numbers.specs.Sum.{sum_below}
use Rattle.numbers.specs.Lists.{list_below}
use Rattle.numbers.specs.Signed.{below}
use Rattle.calendar.specs.DeliveryYear.{delivery_days}
use Rattle.capacity.specs.Shortfall.{watt_days, unit_watt_days, part_of, is_ready, unit_committed, limited_shortfall}
use Rattle.capacity.specs.Shares.{unit_share, net, lowered}
use Rattle.money.specs.declared.Cents.{Cents}
use Rattle.money.specs.declared.area.Undistributed.{Undistributed}
use Rattle.money.specs.Quantities.{cents}
use Rattle.money.specs.AreaMoney.{due, is_undistributed}
use Rattle.records.specs.declared.format.CommitmentRecord.{CommitmentRecord}
use Rattle.records.specs.Format.{unit_count, commitment_count, party_count}
use Rattle.rules.specs.Facts.{Facts, is_entered}

-- over the commitments
module _ (commitment : ℕ → CommitmentRecord) where
  -- the watt-days of commitment k, where it is unit u's
  unfoldable pub watt_days_for : ℕ → ℕ → ℕ
  watt_days_for u k = cond (eqb (commitment k).unit (u + 1)) (watt_days (commitment k).watts (commitment k).first (commitment k).last) 0

  -- V of unit u: the sum over the unit's commitments
  unfoldable pub watt_days_in : ℕ → ℕ
  watt_days_in u = unit_watt_days commitment_count (watt_days_for u)

  -- party p's part of it
  unfoldable pub part_for : ℕ → ℕ → ℕ
  part_for u p = part_of commitment_count (watt_days_for u) (λ k. (commitment k).party) (p + 1)

module _ (F : Facts) where
  abbrev pub days : ℕ
  days = delivery_days F.year

  -- 02, Item 2: unit u is ready: it has an owner, and V = 0
  abbrev pub is_ready_in : ℕ → Bool
  is_ready_in u = is_ready (is_entered (F.owner u)) (watt_days_in F.commitment u)

  -- T of unit u, and its limited S
  unfoldable pub committed_in : ℕ → ℕ
  committed_in u = unit_committed (F.unit u).rating (is_entered (F.owner u)) (watt_days_in F.commitment u) days

  unfoldable pub shortfall_in : ℕ → ℤ
  shortfall_in u = limited_shortfall (F.unit u).rating (F.hours u) (committed_in u)

  -- unit u's share for party p, in the unit's own area; nothing in any other
  unfoldable pub share_in : ℕ → ℕ → ℕ → ℤ
  share_in a u p = cond (eqb (F.unit u).area (a + 1)) (unit_share (shortfall_in u) (part_for F.commitment u) p) (pos 0)

  -- N: the sum of party p's shares in area a
  unfoldable pub net_in : ℕ → ℕ → ℤ
  net_in a p = net unit_count (share_in a) p

  -- 02, Item 2: the excess of ready unit u for its owner, party p, if its S is below zero, in the unit's own area; nothing else
  unfoldable pub ready_excess : ℕ → ℕ → ℕ → ℕ
  ready_excess a p u = cond (eqb (F.unit u).area (a + 1) && (is_ready_in u && eqb (F.owner u) (p + 1))) (below (shortfall_in u)) 0

  -- all excesses of one owner in one area are added first
  unfoldable pub ready_excesses : ℕ → ℕ → ℕ
  ready_excesses a p = sum_below unit_count (ready_excess a p)

  -- the net after this step, which charges and dues are worked from
  unfoldable pub net_after : ℕ → ℕ → ℤ
  net_after a p = lowered (ready_excesses a p) (net_in a p)

  -- party p's due in area a
  unfoldable pub due_in : ℕ → ℕ → ℤ
  due_in a p = due (net_after a) (F.area a).price days (F.obligation a) p

  -- money is left over and area a's obligations add up to 0
  unfoldable pub undistributed_in : ℕ → Bool
  undistributed_in a = is_undistributed (net_after a) (F.area a).price days (F.obligation a)

  -- the sixteen dues of area a
  abbrev pub dues_in : ℕ → List Cents
  dues_in a = list_below party_count (λ p. cents (due_in a p))

  -- what area a comes to: the sixteen dues; where refusal 11 fits, they stand in the error
  abbrev pub settled_in : ℕ → Result (List Cents) Undistributed
  settled_in a = cond (undistributed_in a) (Err (record { dues = dues_in a })) (Ok (dues_in a))
