-- What goes by the sixteen parties only: an area's money by their nets and obligations, a unit's shares by their parts.
use Rattle.std.proofs.Common.{◌≡◌, ap, ℕ, ◌<◌, ℤ}
use Rattle.numbers.specs.Signed.{above, below}
use Rattle.numbers.proofs.Sums.{sum_same}
use Rattle.numbers.proofs.Lists.{list_same}
use Rattle.numbers.proofs.Splits.{split_same}
use Rattle.money.specs.Quantities.{cents}
use Rattle.money.specs.AreaMoney.{charge, ceiling, charges, ceilings, credit, left, load_share, due, is_undistributed, watts_in_range, area_in_range, each_due, settled}

watts_range_same : (N N' : ℕ → ℤ) → ((p : ℕ) → p < 16 → N p ≡ N' p) → watts_in_range N ≡ watts_in_range N'
unfolding watts_in_range
watts_range_same N N' same =
    rw (sum_same 16 (λ p. above (N p)) _ (λ p h. ap above (same p h)), sum_same 16 (λ p. below (N p)) _ (λ p h. ap below (same p h)))

module _ (N N' : ℕ → ℤ) (price days : ℕ) (same : (p : ℕ) → p < 16 → N p ≡ N' p) where
  charge_same : (p : ℕ) → p < 16 → charge N price days p ≡ charge N' price days p
  unfolding charge
  charge_same p h = rw (same p h)

  ceiling_same : (p : ℕ) → p < 16 → ceiling N price days p ≡ ceiling N' price days p
  unfolding ceiling
  ceiling_same p h = rw (same p h)

  charges_same : charges N price days ≡ charges N' price days
  unfolding charges
  charges_same = sum_same 16 _ _ charge_same

  ceilings_same : ceilings N price days ≡ ceilings N' price days
  unfolding ceilings
  ceilings_same = sum_same 16 _ _ ceiling_same

  credit_same : (p : ℕ) → p < 16 → credit N price days p ≡ credit N' price days p
  unfolding credit
  credit_same p h =
      rw (charges_same, ceilings_same, ceiling_same p h, split_same _ 16 (ceiling N price days) (ceiling N' price days) ceiling_same p h)

  left_same : left N price days ≡ left N' price days
  unfolding left
  left_same = rw (charges_same, ceilings_same)

module _ (N N' : ℕ → ℤ) (price days : ℕ) (o o' : ℕ → ℕ) (same : (p : ℕ) → p < 16 → N p ≡ N' p) (sameO : (p : ℕ) → p < 16 → o p ≡ o' p) where
  load_share_same : (p : ℕ) → p < 16 → load_share N price days o p ≡ load_share N' price days o' p
  unfolding load_share
  load_share_same p h = rw (left_same N N' price days same, split_same _ 16 o o' sameO p h)

  pub due_same : (p : ℕ) → p < 16 → due N price days o p ≡ due N' price days o' p
  unfolding due
  due_same p h = rw (credit_same N N' price days same p h, load_share_same p h, charge_same N N' price days same p h)

  pub undistributed_same : is_undistributed N price days o ≡ is_undistributed N' price days o'
  unfolding is_undistributed
  undistributed_same = rw (left_same N N' price days same, sum_same 16 o o' sameO)

  pub range_same : area_in_range N price days o ≡ area_in_range N' price days o'
  unfolding area_in_range
  range_same = rw (watts_range_same N N' same, sum_same 16 o o' sameO)

  pub settled_same : settled N price days o ≡ settled N' price days o'
  unfolding settled
  settled_same = rw (undistributed_same, dues_same)
    where
      dues_same : each_due N price days o ≡ each_due N' price days o'
      dues_same = list_same 16 _ _ (λ p h. ap cents (due_same p h))
