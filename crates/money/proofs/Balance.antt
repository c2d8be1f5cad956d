-- Laws of an area's money.
use Rattle.std.proofs.Common.{◌≡◌, refl, ◌∙◌, Bool, true, false, ℕ, ◌+◌, ◌≤◌, min, le_refl, arith, ℤ, pos, eqb, ltb, ltb-true, ltb-false}
use mathlib.Core.Bool.{and-true}
use borrow.Author.Tests.{eqb-false}
use Rattle.numbers.specs.Sum.{sum_below}
use Rattle.numbers.specs.Signed.{sum_below_ℤ}
use Rattle.numbers.specs.Split.{split}
use Rattle.numbers.proofs.Sums.{sum_same, sum_add}
use Rattle.numbers.proofs.SignedSums.{sum_differences, equal_difference}
use Rattle.numbers.proofs.Splits.{shares_add_up, shares_at_most, share_at_most_weight}
use Rattle.money.specs.AreaMoney.{charge, ceiling, charges, ceilings, credit, left, load_share, due, is_undistributed}

module _ (N : ℕ → ℤ) (price days : ℕ) where
  pub credit_at_most : (p : ℕ) → credit N price days p ≤ ceiling N price days p
  unfolding credit ceilings
  credit_at_most p = go (ltb (charges N price days) (ceilings N price days)) refl
    where
      go : (t : Bool) → ltb (charges N price days) (ceilings N price days) ≡ t → credit N price days p ≤ ceiling N price days p
      go true q = rw q (share_at_most_weight (charges N price days) 16 (ceiling N price days) p (omega (arith, ltb-true)))
      go false q = rw q (le_refl (ceiling N price days p))

  pub credits_add_up : sum_below 16 (credit N price days) ≡ min (charges N price days) (ceilings N price days)
  unfolding credit ceilings
  credits_add_up = go (ltb (charges N price days) (ceilings N price days)) refl
    where
      go : (t : Bool) → ltb (charges N price days) (ceilings N price days) ≡ t
          → sum_below 16 (credit N price days) ≡ min (charges N price days) (ceilings N price days)
      go true q =
          sum_same 16 (credit N price days) (split (charges N price days) 16 (ceiling N price days)) (λ p b. rw q)
          ∙ shares_add_up (charges N price days) 16 (ceiling N price days) (omega (arith, ltb-true))
          ∙ omega (arith, ltb-true)
      go false q = sum_same 16 (credit N price days) (ceiling N price days) (λ p b. rw q) ∙ omega (arith, ltb-false)

  module _ (o : ℕ → ℕ) (distributed : is_undistributed N price days o ≡ false) where
    pub load_shares_add_up : sum_below 16 (load_share N price days o) ≡ left N price days
    unfolding load_share is_undistributed
    load_shares_add_up = go (eqb (sum_below 16 o) 0) refl
      where
        go : (t : Bool) → eqb (sum_below 16 o) 0 ≡ t → sum_below 16 (load_share N price days o) ≡ left N price days
        go true q = omega (arith, ltb-false 0 (left N price days) (rw (q, and-true) at distributed), shares_at_most (left N price days) 16 o)
        go false q =
            let some : (sum_below 16 o ≡ 0 → ⊥) = eqb-false (sum_below 16 o) 0 q in
            shares_add_up (left N price days) 16 o (omega arith)

    pub paid_out : sum_below 16 (credit N price days) + sum_below 16 (load_share N price days o) ≡ charges N price days
    unfolding left
    paid_out = omega (arith, credits_add_up, load_shares_add_up)

    pub dues_balance : sum_below_ℤ 16 (due N price days o) ≡ pos 0
    unfolding due charges
    dues_balance =
        sum_differences 16 (λ p. credit N price days p + load_share N price days o p) (charge N price days)
        ∙ rw (sum_add 16 (credit N price days) (load_share N price days o), paid_out) (equal_difference (charges N price days))
