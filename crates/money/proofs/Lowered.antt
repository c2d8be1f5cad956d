-- An area's money where ready excesses lower its nets.
use Rattle.std.proofs.Common.{◌≡◌, true, ℕ, ◌≤◌, le_refl, le_trans, mul-le-mul, arith, ℤ, leb, leb-true, le-leb}
use Rattle.numbers.specs.Sum.{sum_below}
use Rattle.numbers.specs.Signed.{above, below}
use Rattle.numbers.proofs.Sums.{sum_at_most, sum_same}
use Rattle.numbers.proofs.Tests.{both_true}
use Rattle.capacity.specs.Shares.{net_most}
use Rattle.capacity.proofs.Nets.{lowered_above, lowered_below}
use Rattle.money.specs.AreaMoney.{priced, charge, ceiling, watts_in_range}
use Rattle.money.specs.Laws.{lowered_by}

module _ (excess : ℕ → ℕ) (N : ℕ → ℤ) where
  fewer : (p : ℕ) → above (lowered_by excess N p) ≤ above (N p)
  fewer p = rw (lowered_above (excess p) (N p)) (omega arith)

  pub charge_not_raised : (price days p : ℕ) → charge (lowered_by excess N) price days p ≤ charge N price days p
  unfolding charge priced
  charge_not_raised price days p = omega (arith, mul-le-mul (mul-le-mul (fewer p) (le_refl price)) (le_refl days))

  pub ceiling_kept : (price days p : ℕ) → ceiling (lowered_by excess N) price days p ≡ ceiling N price days p
  unfolding ceiling
  ceiling_kept price days p = rw (lowered_below (excess p) (N p))

  pub lowered_in_range : watts_in_range N ≡ true → watts_in_range (lowered_by excess N) ≡ true
  unfolding watts_in_range
  lowered_in_range ok =
      let both = both_true {a = leb (sum_below 16 (λ p. above (N p))) net_most} ok in
      simp (
        le-leb (sum_below 16 (λ p. above (lowered_by excess N p))) net_most (le_trans (sum_at_most 16 _ _ (λ p h. fewer p)) (leb-true _ _ both.0)),
        sum_same 16 (λ p. below (lowered_by excess N p)) _ (λ p h. lowered_below (excess p) (N p)),
        both.1,
      )
