-- Split. 01, From a set to its shortfall, "Split".
use Rattle.std.specs.Prelude.{cond, List, ℕ, ◌+◌, ◌-◌, ◌*◌, ◌/◌, ◌^◌, ℤ, pos, negsuc, neg_ℤ, nat_abs, ltb, length}
use Rattle.numbers.specs.Sum.{sum_below}
use Rattle.numbers.specs.Lists.{list_below, element}

-- Amount A over n weights w of sum Z: floor(A × (w1 + .. + wk) / Z), what the first k get together. Over a sum of 0 nobody
-- gets anything.
unfoldable pub first_shares : ℕ → ℕ → (ℕ → ℕ) → ℕ → ℕ
first_shares a n w k = a * sum_below k w / sum_below n w

-- the share of weight number k, counted from 0: the difference of two floors
unfoldable pub split : ℕ → ℕ → (ℕ → ℕ) → ℕ → ℕ
split a n w k = first_shares a n w (k + 1) - first_shares a n w k

-- a signed amount is split by size and keeps its sign
unfoldable pub with_sign : ℤ → ℕ → ℤ
with_sign (pos a) size = pos size
with_sign (negsuc a) size = neg_ℤ (pos size)

unfoldable pub split_signed : ℤ → ℕ → (ℕ → ℕ) → ℕ → ℤ
split_signed z n w k = with_sign z (split (nat_abs z) n w k)

-- The shares of a list of weights, for n places. The amount times the sum of the weights has to be below 2^63; where it
-- is not, all shares are 0.
unfoldable pub split_answer : ℕ → List ℕ → ℕ → List ℕ
split_answer a ws n =
    cond (ltb (a * sum_below (length ws) (element ws)) (2 ^ 63))
    (list_below n (split a (length ws) (element ws)))
    (list_below n (λ k. 0))
