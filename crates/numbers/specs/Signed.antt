-- Signed amounts.
use Rattle.std.specs.Prelude.{cond, ◌&&◌, ℕ, zero, suc, ◌^◌, ℤ, pos, negsuc, ◌+ℤ◌, ltb}
use Rattle.std.proofs.Math.IntN.{sub_ℕ}

-- how far z lies above zero, and how far below
unfoldable pub above : ℤ → ℕ
above (pos n) = n
above (negsuc n) = 0

unfoldable pub below : ℤ → ℕ
below (pos n) = 0
below (negsuc n) = suc n

-- f 0 + f 1 + .. + f (n - 1)
unfoldable pub sum_below_ℤ : ℕ → (ℕ → ℤ) → ℤ
sum_below_ℤ zero f = pos 0
sum_below_ℤ (suc n) f = sum_below_ℤ n f +ℤ f n

-- What the public function answers: a − b where both are below 2^63; otherwise 0.
unfoldable pub difference_answer : ℕ → ℕ → ℤ
difference_answer a b = cond (ltb a (2 ^ 63) && ltb b (2 ^ 63)) (sub_ℕ a b) (pos 0)
