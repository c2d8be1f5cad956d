-- Laws of a unit's shares and of a net that excesses lower.
use Rattle.std.proofs.Common.{◌≡◌, refl, ap, ◌∙◌, ℕ, ◌-◌, ◌<◌, zero-le, arith, ℤ, pos, negsuc, ◌≤◌, ◌≤ℤ◌, le→leb}
use lib.IntN.{sub_ℕ}
use lib.Signed.{le_z_yes}
use Rattle.numbers.specs.Signed.{above, below}
use Rattle.numbers.specs.Split.{split_signed}
use Rattle.numbers.proofs.SignedSums.{below_difference, signed_parts}
use Rattle.numbers.proofs.Sums.{sum_same}
use Rattle.numbers.proofs.Splits.{split_same}
use Rattle.capacity.specs.Shortfall.{watt_days_of}
use Rattle.capacity.specs.Shares.{unit_share, lowered}
use Rattle.capacity.proofs.Capacities.{above_le}

-- a unit's shares go by the sixteen parts only
pub watt_days_same : (w v : ℕ → ℕ) → ((p : ℕ) → p < 16 → w p ≡ v p) → watt_days_of w ≡ watt_days_of v
unfolding watt_days_of
watt_days_same w v same = sum_same 16 w v same

pub shares_same : (s : ℤ) (w v : ℕ → ℕ) → ((p : ℕ) → p < 16 → w p ≡ v p) → (p : ℕ) → p < 16 → unit_share s w p ≡ unit_share s v p
unfolding unit_share split_signed
shares_same s w v same p h = rw (split_same _ 16 w v same p h)

-- 02, Item 2: a net after an excess
module _ (excess : ℕ) where
  pub lowered_least : (n : ℤ) → pos 0 ≤ℤ n → pos 0 ≤ℤ lowered excess n
  unfolding lowered
  lowered_least (pos n) h = le_z_yes (le→leb 0 (n - excess) zero-le)
  lowered_least (negsuc n) h = h

  pub lowered_above : (n : ℤ) → above (lowered excess n) ≡ above n - excess
  unfolding above lowered
  lowered_above (pos n) = refl
  lowered_above (negsuc n) = omega arith

  pub lowered_below : (n : ℤ) → below (lowered excess n) ≡ below n
  unfolding below lowered
  lowered_below (pos n) = refl
  lowered_below (negsuc n) = refl

  -- above zero, and not above it
  pub lowered_from : (n : ℤ) → 0 < above n → pos (above n - excess) ≡ lowered excess n
  unfolding above lowered
  lowered_from (pos n) h = refl
  lowered_from (negsuc n) h = absurd (omega arith)

  pub lowered_no_further : (n : ℤ) → above n ≤ 0 → lowered excess n ≡ n
  unfolding above lowered
  lowered_no_further (pos n) h = ap pos (omega arith)
  lowered_no_further (negsuc n) h = refl

  pub lowered_untouched : (n : ℤ) → n ≤ℤ pos 0 → lowered excess n ≡ n
  lowered_untouched n h = lowered_no_further n (above_le n 0 h)

pub nothing_lowered : (n : ℤ) → lowered 0 n ≡ n
unfolding lowered
nothing_lowered (pos n) = ap pos (omega arith)
nothing_lowered (negsuc n) = refl

-- watts below zero are an excess of as many
pub excess_below : (x : ℕ) → below (sub_ℕ 0 x) ≡ x
excess_below x = below_difference 0 x ∙ omega arith

-- of a signed amount, what lies below zero
pub excess_is : (z : ℤ) → 0 < below z → z ≡ sub_ℕ 0 (below z)
unfolding above below
excess_is (pos n) h = absurd (omega arith)
excess_is (negsuc n) h = signed_parts (negsuc n)

pub no_excess : (z : ℤ) → below z ≤ 0 → pos 0 ≡ sub_ℕ 0 (below z)
no_excess z h = let none : below z ≡ 0 = omega arith in rw none refl
