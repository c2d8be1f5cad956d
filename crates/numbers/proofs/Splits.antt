-- Laws of the split.
use Rattle.std.proofs.Common.{◌≡◌, refl, sym, ◌∙◌, ℕ, zero, suc, ◌+◌, ◌*◌, ◌/◌, ◌≤◌, ◌<◌, min, zero-le, le_refl, le_trans, mul_comm, mul-zero}
use Rattle.std.proofs.Common.{zero-mul, mul-add, mul-le-mul_left, div-mul-le_self, le-div_iff_mul-le, mul-div_cancel, add-one, arith, ℤ, pos, negsuc}
use Rattle.std.proofs.Common.{◌≤ℤ◌}
use native.Mathlib.Nat.{div-zero, zero-div}
use native.Mathlib.Nat.{div-le_of_le-mul, add-mul-div_right}
use lib.IntN.{sub_ℕ}
use Rattle.numbers.specs.Sum.{sum_below}
use Rattle.numbers.specs.Signed.{above, below, sum_below_ℤ}
use Rattle.numbers.specs.Split.{first_shares, split, with_sign, split_signed}
use Rattle.numbers.proofs.Sums.{sum_one_more, sum_grows, sum_same}
use Rattle.numbers.proofs.SignedSums.{above_negated, below_negated, one_side, signed_parts, signed_le, le_signed, sum_same_ℤ, sum_differences}

pub floor_grows : (x y z : ℕ) → x ≤ y → x / z ≤ y / z
floor_grows x y zero h = rw (div-zero x) zero-le
floor_grows x y (suc z) h = (le-div_iff_mul-le {k = suc z} (omega arith)).1 (le_trans (div-mul-le_self x (suc z)) h)

floor_adds : (a s x z : ℕ) → a ≤ z → a * (s + x) / z ≤ a * s / z + x
floor_adds a s x zero h = rw (div-zero (a * (s + x))) zero-le
floor_adds a s x (suc z) h =
    rw (← add-mul-div_right (a * s) x {z = suc z} (omega arith))
    (floor_grows (a * (s + x)) (a * s + x * suc z) (suc z) (omega (arith, mul-add a s x, mul-le-mul_left x h, mul_comm a x)))

pub first_shares_grow : (a n : ℕ) (w : ℕ → ℕ) (j k : ℕ) → j ≤ k → first_shares a n w j ≤ first_shares a n w k
unfolding first_shares
first_shares_grow a n w j k h = floor_grows (a * sum_below j w) (a * sum_below k w) (sum_below n w) (mul-le-mul_left a (sum_grows j k w h))

pub first_shares_at_most : (a n : ℕ) (w : ℕ → ℕ) (k : ℕ) → k ≤ n → first_shares a n w k ≤ a
unfolding first_shares
first_shares_at_most a n w k h = div-le_of_le-mul (sum_below n w) (rw (mul_comm (sum_below n w) a) (mul-le-mul_left a (sum_grows k n w h)))

pub first_shares_none : (a n : ℕ) (w : ℕ → ℕ) → first_shares a n w 0 ≡ 0
unfolding first_shares sum_below
first_shares_none a n w = simp (mul-zero, zero-div)

pub first_shares_all : (a n : ℕ) (w : ℕ → ℕ) → 0 < sum_below n w → first_shares a n w n ≡ a
unfolding first_shares
first_shares_all a n w h = mul-div_cancel a h

pub share_one_more : (a n : ℕ) (w : ℕ → ℕ) (k : ℕ) → first_shares a n w (k + 1) ≡ first_shares a n w k + split a n w k
unfolding split
share_one_more a n w k = omega (arith, first_shares_grow a n w k (k + 1) (omega arith))

pub first_shares_add_up : (a n : ℕ) (w : ℕ → ℕ) (k : ℕ) → sum_below k (split a n w) ≡ first_shares a n w k
unfolding sum_below
first_shares_add_up a n w zero = sym (first_shares_none a n w)
first_shares_add_up a n w (suc k) = rw (first_shares_add_up a n w k, ← share_one_more a n w k, add-one)

pub shares_add_up : (a n : ℕ) (w : ℕ → ℕ) → 0 < sum_below n w → sum_below n (split a n w) ≡ a
shares_add_up a n w h = first_shares_add_up a n w n ∙ first_shares_all a n w h

pub shares_at_most : (a n : ℕ) (w : ℕ → ℕ) → sum_below n (split a n w) ≤ a
shares_at_most a n w = rw (first_shares_add_up a n w n) (first_shares_at_most a n w n (le_refl n))

pub share_at_most : (a n : ℕ) (w : ℕ → ℕ) (k : ℕ) → k < n → split a n w k ≤ a
share_at_most a n w k h = omega (arith, share_one_more a n w k, first_shares_at_most a n w (k + 1) (omega arith))

-- a split goes by the weights that it reaches
pub split_same : (a n : ℕ) (w v : ℕ → ℕ) → ((k : ℕ) → k < n → w k ≡ v k) → (k : ℕ) → k < n → split a n w k ≡ split a n v k
unfolding split first_shares
split_same a n w v same k h =
    rw (sum_same (k + 1) w v (λ j b. same j (omega arith)), sum_same k w v (λ j b. same j (omega arith)), sum_same n w v same)

pub no_weights : (a n : ℕ) (w : ℕ → ℕ) (k : ℕ) → sum_below n w ≡ 0 → split a n w k ≡ 0
unfolding split first_shares
no_weights a n w k e = simp (e, div-zero)

pub no_amount : (n : ℕ) (w : ℕ → ℕ) (k : ℕ) → split 0 n w k ≡ 0
unfolding split first_shares
no_amount n w k = simp (zero-mul, zero-div)

first_shares_by_weight : (a n : ℕ) (w : ℕ → ℕ) (k : ℕ) → a ≤ sum_below n w → first_shares a n w (k + 1) ≤ first_shares a n w k + w k
unfolding first_shares
first_shares_by_weight a n w k h = rw sum_one_more (floor_adds a (sum_below k w) (w k) (sum_below n w) h)

pub share_at_most_weight : (a n : ℕ) (w : ℕ → ℕ) (k : ℕ) → a ≤ sum_below n w → split a n w k ≤ w k
share_at_most_weight a n w k h = omega (arith, share_one_more a n w k, first_shares_by_weight a n w k h)

pub above_share : (z : ℤ) (n : ℕ) (w : ℕ → ℕ) (k : ℕ) → above (split_signed z n w k) ≡ split (above z) n w k
unfolding split_signed with_sign above below
above_share (pos a) n w k = refl
above_share (negsuc a) n w k = above_negated (pos (split (suc a) n w k)) ∙ sym (no_amount n w k)

pub below_share : (z : ℤ) (n : ℕ) (w : ℕ → ℕ) (k : ℕ) → below (split_signed z n w k) ≡ split (below z) n w k
unfolding split_signed with_sign above below
below_share (pos a) n w k = sym (no_amount n w k)
below_share (negsuc a) n w k = below_negated (pos (split (suc a) n w k))

pub signed_share : (z : ℤ) (n : ℕ) (w : ℕ → ℕ) (k : ℕ) → split_signed z n w k ≡ sub_ℕ (split (above z) n w k) (split (below z) n w k)
signed_share z n w k = signed_parts (split_signed z n w k) ∙ rw (above_share z n w k, below_share z n w k)

pub signed_shares_add_up : (z : ℤ) (n : ℕ) (w : ℕ → ℕ) → 0 < sum_below n w → sum_below_ℤ n (split_signed z n w) ≡ z
signed_shares_add_up z n w h =
    sum_same_ℤ n (split_signed z n w) (λ k. sub_ℕ (split (above z) n w k) (split (below z) n w k)) (λ k b. signed_share z n w k)
    ∙ sum_differences n (split (above z) n w) (split (below z) n w)
    ∙ rw (shares_add_up (above z) n w h, shares_add_up (below z) n w h) (sym (signed_parts z))

-- a share lies on its amount's side of zero and not further out
record ShareFacts (z share : ℤ) : Type 0 where
  up : above share ≤ above z
  down : below share ≤ below z
  side : min (above z) (below z) ≡ 0

share_facts : (z : ℤ) (n : ℕ) (w : ℕ → ℕ) (k : ℕ) → k < n → ShareFacts z (split_signed z n w k)
share_facts z n w k h =
    record {
      up = rw (above_share z n w k) (share_at_most (above z) n w k h);
      down = rw (below_share z n w k) (share_at_most (below z) n w k h);
      side = one_side z;
    }

pub shortfall_shares : (z : ℤ) (n : ℕ) (w : ℕ → ℕ) (k : ℕ) → k < n → pos 0 ≤ℤ z → (pos 0 ≤ℤ split_signed z n w k) × (split_signed z n w k ≤ℤ z)
unfolding above below
shortfall_shares z n w k h up =
    let f : ShareFacts z (split_signed z n w k) = share_facts z n w k h in
    let u : above (pos 0) + below z ≤ above z + below (pos 0) = le_signed (pos 0) z up in
    (signed_le (pos 0) (split_signed z n w k) (omega arith), signed_le (split_signed z n w k) z (omega arith))

pub excess_shares : (z : ℤ) (n : ℕ) (w : ℕ → ℕ) (k : ℕ) → k < n → z ≤ℤ pos 0 → (z ≤ℤ split_signed z n w k) × (split_signed z n w k ≤ℤ pos 0)
unfolding above below
excess_shares z n w k h down =
    let f : ShareFacts z (split_signed z n w k) = share_facts z n w k h in
    let u : above z + below (pos 0) ≤ above (pos 0) + below z = le_signed z (pos 0) down in
    (signed_le z (split_signed z n w k) (omega arith), signed_le (split_signed z n w k) (pos 0) (omega arith))

-- so many on the same side of zero as z
pub sign_above : (z : ℤ) (n : ℕ) → below z ≡ 0 → sub_ℕ n 0 ≡ with_sign z n
unfolding above below with_sign
sign_above (pos a) n e = sym (signed_parts (pos n))
sign_above (negsuc a) n e = absurd (omega arith)

pub sign_below : (z : ℤ) (n : ℕ) → (below z ≡ 0 → ⊥) → sub_ℕ 0 n ≡ with_sign z n
unfolding above below with_sign
sign_below (pos a) n e = absurd (e refl)
sign_below (negsuc a) zero e = refl
sign_below (negsuc a) (suc n) e = sym (signed_parts (negsuc n))
