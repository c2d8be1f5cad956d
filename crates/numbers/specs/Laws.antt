-- What the definitions of the split give, for all arguments.
use Rattle.std.specs.Prelude.{◌≡◌, ℕ, ◌≤◌, ◌<◌, ℤ, pos, ◌≤ℤ◌}
use Rattle.numbers.specs.Sum.{sum_below}
use Rattle.numbers.specs.Signed.{sum_below_ℤ}
use Rattle.numbers.specs.Split.{split, split_signed}

-- the split, for any number n of weights w
pub record SplitLaws : Type 0 where
  -- the shares add up to the amount, and each is between 0 and it; over a sum of 0 there are none
  pub shares_add_up : (a n : ℕ) (w : ℕ → ℕ) → 0 < sum_below n w → sum_below n (split a n w) ≡ a
  pub share_at_most : (a n : ℕ) (w : ℕ → ℕ) (k : ℕ) → k < n → split a n w k ≤ a
  pub no_weights : (a n : ℕ) (w : ℕ → ℕ) (k : ℕ) → sum_below n w ≡ 0 → split a n w k ≡ 0
  -- a signed amount's shares add up to it and keep its sign: each is between 0 and it
  pub signed_shares_add_up : (z : ℤ) (n : ℕ) (w : ℕ → ℕ) → 0 < sum_below n w → sum_below_ℤ n (split_signed z n w) ≡ z
  pub shortfall_shares : (z : ℤ) (n : ℕ) (w : ℕ → ℕ) (k : ℕ) → k < n → pos 0 ≤ℤ z → (pos 0 ≤ℤ split_signed z n w k) × (split_signed z n w k ≤ℤ z)
  pub excess_shares : (z : ℤ) (n : ℕ) (w : ℕ → ℕ) (k : ℕ) → k < n → z ≤ℤ pos 0 → (z ≤ℤ split_signed z n w k) × (split_signed z n w k ≤ℤ pos 0)
