-- Laws of the sizes of signed amounts, of differences and of sums.
use Rattle.std.proofs.Common.{◌≡◌, refl, cond, ◌&&◌, ℕ, zero, suc, ◌+◌, ◌≤◌, max, zero-le, le_refl, arith, ℤ, pos, negsuc, nat_abs, neg_ℤ, ◌+ℤ◌}
use Rattle.std.proofs.Common.{◌-ℤ◌, leb, le-leb}
use lib.IntN.{sub_ℕ}
use Rattle.numbers.specs.Sum.{sum_below}
use Rattle.numbers.specs.Signed.{above, below, sum_below_ℤ}
use Rattle.numbers.specs.Split.{split, with_sign, split_signed}
use Rattle.numbers.proofs.SignedSums.{above_difference, below_difference}

pub size_parts : (z : ℤ) → nat_abs z ≡ above z + below z
unfolding above below
size_parts (pos n) = omega arith
size_parts (negsuc n) = omega arith

pub above_size : (z : ℤ) → above z ≤ nat_abs z
above_size z = omega (arith, size_parts z)

pub below_size : (z : ℤ) → below z ≤ nat_abs z
below_size z = omega (arith, size_parts z)

pub difference_size : (a b : ℕ) → nat_abs (sub_ℕ a b) ≤ max a b
difference_size a b = omega (arith, size_parts (sub_ℕ a b), above_difference a b, below_difference a b)

add_size : (a b : ℤ) → nat_abs (a +ℤ b) ≤ nat_abs a + nat_abs b
add_size (pos a) (pos b) = le_refl (a + b)
add_size (pos a) (negsuc b) = omega (arith, difference_size a (suc b))
add_size (negsuc a) (pos b) = omega (arith, difference_size b (suc a))
add_size (negsuc a) (negsuc b) = omega arith

negated_size : (z : ℤ) → nat_abs (neg_ℤ z) ≡ nat_abs z
negated_size (pos zero) = refl
negated_size (pos (suc n)) = refl
negated_size (negsuc n) = refl

pub less_size : (a b : ℤ) → nat_abs (a -ℤ b) ≤ nat_abs a + nat_abs b
less_size a b = omega (arith, add_size a (neg_ℤ b), negated_size b)

-- what is answered of two amounts within a bound
pub both_within : (most : ℕ) (x y z : ℤ) → nat_abs x ≤ most → nat_abs y ≤ most → z ≡ cond (leb (nat_abs x) most && leb (nat_abs y) most) z (pos 0)
both_within most x y z h k = simp (le-leb (nat_abs x) most h, le-leb (nat_abs y) most k)

pub sum_size : (n : ℕ) (f : ℕ → ℤ) → nat_abs (sum_below_ℤ n f) ≤ sum_below n (λ k. nat_abs (f k))
unfolding sum_below sum_below_ℤ
sum_size zero f = zero-le
sum_size (suc n) f = omega (arith, add_size (sum_below_ℤ n f) (f n), sum_size n f)

pub share_size : (z : ℤ) (n : ℕ) (w : ℕ → ℕ) (k : ℕ) → nat_abs (split_signed z n w k) ≡ split (nat_abs z) n w k
unfolding split_signed with_sign
share_size (pos a) n w k = refl
share_size (negsuc a) n w k = negated_size (pos (split (suc a) n w k))
