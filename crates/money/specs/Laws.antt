-- What the definitions of this folder give, for all arguments.
use Rattle.std.specs.Prelude.{◌≡◌, true, false, ℕ, ◌+◌, ◌*◌, ◌^◌, ◌≤◌, ◌<◌, min, ℤ, pos, nat_abs, ◌-ℤ◌}
use Rattle.numbers.specs.Sum.{sum_below}
use Rattle.numbers.specs.Signed.{sum_below_ℤ}
use Rattle.capacity.specs.Shares.{net_most, lowered}
use Rattle.money.specs.AreaMoney.{charge, ceiling, charges, ceilings, credit, left, load_share, due, is_undistributed, watts_in_range, area_in_range}
use Rattle.money.specs.AreaMoney.{due_most}

-- the money of an area
pub record MoneyLaws : Type 0 where
  -- a credit is never above M, and the credits add up to the lower of R and the sum of M
  pub credit_at_most : (N : ℕ → ℤ) (price days p : ℕ) → credit N price days p ≤ ceiling N price days p
  pub credits_add_up : (N : ℕ → ℤ) (price days : ℕ) → sum_below 16 (credit N price days) ≡ min (charges N price days) (ceilings N price days)
  -- where refusal 11 does not fit, the load shares add up to what is left, so that with the credits they add up to R, and the
  -- dues to 0
  pub load_shares_add_up : (N : ℕ → ℤ) (price days : ℕ) (o : ℕ → ℕ) → is_undistributed N price days o ≡ false
      → sum_below 16 (load_share N price days o) ≡ left N price days
  pub paid_out : (N : ℕ → ℤ) (price days : ℕ) (o : ℕ → ℕ) → is_undistributed N price days o ≡ false
      → sum_below 16 (credit N price days) + sum_below 16 (load_share N price days o) ≡ charges N price days
  pub dues_balance : (N : ℕ → ℤ) (price days : ℕ) (o : ℕ → ℕ) → is_undistributed N price days o ≡ false → sum_below_ℤ 16 (due N price days o) ≡ pos 0

-- 02, Item 2: the nets of an area, lowered by so much ready excess of each party
abbrev pub lowered_by : (ℕ → ℕ) → (ℕ → ℤ) → ℕ → ℤ
lowered_by excess N p = lowered (excess p) (N p)

pub record LoweredLaws : Type 0 where
  -- a ready excess never raises a charge, and never changes a ceiling
  pub charge_not_raised : (excess : ℕ → ℕ) (N : ℕ → ℤ) (price days p : ℕ) → charge (lowered_by excess N) price days p ≤ charge N price days p
  pub ceiling_kept : (excess : ℕ → ℕ) (N : ℕ → ℤ) (price days p : ℕ) → ceiling (lowered_by excess N) price days p ≡ ceiling N price days p
  -- the dues still balance
  pub lowered_dues_balance : (excess : ℕ → ℕ) (N : ℕ → ℤ) (price days : ℕ) (o : ℕ → ℕ) → is_undistributed (lowered_by excess N) price days o ≡ false
      → sum_below_ℤ 16 (due (lowered_by excess N) price days o) ≡ pos 0
  -- and the bounds hold of the nets after it, if they do of those before
  pub lowered_in_range : (excess : ℕ → ℕ) (N : ℕ → ℤ) → watts_in_range N ≡ true → watts_in_range (lowered_by excess N) ≡ true

-- why 64 bits are enough: in the ranges of 01 no value that the functions work with is past these bounds
pub record MoneyBounds : Type 0 where
  -- net × price × days; R and the sum of M; their product; what is left × obligations; dues
  pub priced_bound : (w price days : ℕ) → w ≤ net_most → price ≤ 50000 → days ≤ 366 → w * price * days ≤ 2928000000000000
  pub charges_bound : (N : ℕ → ℤ) (price days : ℕ) (o : ℕ → ℕ) → area_in_range N price days o ≡ true → charges N price days ≤ due_most
  pub ceilings_bound : (N : ℕ → ℤ) (price days : ℕ) (o : ℕ → ℕ) → area_in_range N price days o ≡ true → ceilings N price days ≤ due_most
  pub credits_fit : (N : ℕ → ℤ) (price days : ℕ) (o : ℕ → ℕ) → area_in_range N price days o ≡ true → charges N price days * ceilings N price days < 2 ^ 63
  pub load_shares_fit : (N : ℕ → ℤ) (price days : ℕ) (o : ℕ → ℕ) → area_in_range N price days o ≡ true → left N price days * sum_below 16 o < 2 ^ 63
  pub due_bound : (N : ℕ → ℤ) (price days : ℕ) (o : ℕ → ℕ) (p : ℕ) → p < 16 → area_in_range N price days o ≡ true
      → nat_abs (due N price days o p) ≤ due_most
  -- a line, which is a due less an earlier one
  pub line_bound : (d earlier : ℤ) → nat_abs d ≤ due_most → nat_abs earlier ≤ due_most → nat_abs (d -ℤ earlier) ≤ 5856000000
