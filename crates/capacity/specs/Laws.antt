-- What the definitions of this folder give, for all arguments.
use Rattle.std.specs.Prelude.{◌≡◌, Bool, true, false, ℕ, ◌+◌, ◌-◌, ◌*◌, ◌≤◌, ◌<◌, ℤ, pos, nat_abs, ◌≤ℤ◌}
use Rattle.std.proofs.Math.IntN.{sub_ℕ}
use Rattle.numbers.specs.Sum.{sum_below}
use Rattle.numbers.specs.Signed.{above, below}
use Rattle.numbers.specs.Split.{split_signed}
use Rattle.capacity.specs.declared.rating.Rating.{Rating}
use Rattle.capacity.specs.declared.rating.HourCounts.{HourCounts}
use Rattle.capacity.specs.Shortfall.{watt_days, unit_watt_days, part_of, watt_days_of, committed, available, limited, unit_committed, limited_shortfall}
use Rattle.capacity.specs.Shortfall.{installed_most, commitment_most, watt_days_most, unit_in_range}
use Rattle.capacity.specs.Shares.{net, net_most, net_with, lowered}

-- from a set to its shortfall
pub record ShortfallLaws : Type 0 where
  -- the sixteen parties' parts of V add up to V
  pub parts_add_up : (n : ℕ) (wd party : ℕ → ℕ) → ((k : ℕ) → k < n → party k < 16) → watt_days_of (part_of n wd party) ≡ unit_watt_days n wd
  -- S after the limit is at most L; what is not above L, any excess with it, is untouched
  pub limited_at_most : (l : ℕ) (s : ℤ) → limited l s ≤ℤ pos l
  pub not_above_untouched : (l : ℕ) (s : ℤ) → s ≤ℤ pos l → limited l s ≡ s
  pub excess_untouched : (l : ℕ) (s : ℤ) → s ≤ℤ pos 0 → limited l s ≡ s
  -- P is at most T
  pub available_at_most : (t i g sh foh d : ℕ) → available t i g sh foh d ≤ t

-- 02, Item 2: sets kept ready but not committed
pub record ReadyLaws : Type 0 where
  -- a unit without an owner takes the T of 01, and so does one with V above 0, whose owner plays no part; T is at most I
  pub unowned_committed : (r : Rating) (v days : ℕ) → unit_committed r false v days ≡ committed r.installed.0 r.eford v days
  pub owner_no_part : (r : Rating) (owned : Bool) (v days : ℕ) → 0 < v → unit_committed r owned v days ≡ committed r.installed.0 r.eford v days
  pub ready_committed : (r : Rating) (days : ℕ) → unit_committed r true 0 days ≡ r.installed.0
  pub unit_committed_at_most : (r : Rating) (owned : Bool) (v days : ℕ) → unit_committed r owned v days ≤ r.installed.0
  -- of a net, what is above zero falls by the excess, and by no more than there is of it; what is below zero stays
  pub lowered_above : (excess : ℕ) (n : ℤ) → above (lowered excess n) ≡ above n - excess
  pub lowered_below : (excess : ℕ) (n : ℤ) → below (lowered excess n) ≡ below n
  -- so a net's sign never turns: it falls no further than to zero, and one that is not above zero is untouched, as is any by no excess
  pub lowered_least : (excess : ℕ) (n : ℤ) → pos 0 ≤ℤ n → pos 0 ≤ℤ lowered excess n
  pub lowered_untouched : (excess : ℕ) (n : ℤ) → n ≤ℤ pos 0 → lowered excess n ≡ n
  pub nothing_lowered : (n : ℤ) → lowered 0 n ≡ n

-- why 64 bits are enough: in the ranges of 01 no value that the functions work with is past these bounds
pub record CapacityBounds : Type 0 where
  -- V of a unit with n commitments, and V × 100,000
  pub watt_days_bound : (n : ℕ) (watts first last : ℕ → ℕ) → n ≤ 64 → ((k : ℕ) → (watts k ≤ commitment_most) × (last k ≤ 365))
      → unit_watt_days n (λ k. watt_days (watts k) (first k) (last k)) ≤ watt_days_most
  pub committed_bound : (v : ℕ) → v ≤ watt_days_most → v * 100000 ≤ 11712000000000000
  -- T × (SH × I − D)
  pub rated_bound : (r : Rating) (h : HourCounts) (owned : Bool) (v days : ℕ) → unit_in_range r h ≡ true
      → unit_committed r owned v days * (h.service * r.installed.0 - h.derated) ≤ 219600000000000000
  -- S in size, and |S| × V in the split
  pub shortfall_bound : (r : Rating) (h : HourCounts) (t : ℕ) → unit_in_range r h ≡ true → t ≤ r.installed.0 → nat_abs (limited_shortfall r h t) ≤ installed_most
  pub split_bound : (s : ℤ) (v : ℕ) → nat_abs s ≤ installed_most → v ≤ watt_days_most → nat_abs s * v ≤ 585600000000000000
  -- the nets of an area's units: of all parties together, so of each
  pub shortfalls_bound : (n : ℕ) (S : ℕ → ℤ) (w : ℕ → ℕ → ℕ) → n ≤ 32 → ((u : ℕ) → nat_abs (S u) ≤ installed_most)
      → sum_below 16 (λ p. above (net n (λ u. split_signed (S u) 16 (w u)) p)) ≤ net_most
  pub excesses_bound : (n : ℕ) (S : ℕ → ℤ) (w : ℕ → ℕ → ℕ) → n ≤ 32 → ((u : ℕ) → nat_abs (S u) ≤ installed_most)
      → sum_below 16 (λ p. below (net n (λ u. split_signed (S u) 16 (w u)) p)) ≤ net_most
  -- so that adding up an area's nets share by share never meets the bound of `net_with`
  pub net_steps : (n : ℕ) (S : ℕ → ℤ) (w : ℕ → ℕ → ℕ) (p : ℕ) → n < 32 → p < 16 → ((u : ℕ) → nat_abs (S u) ≤ installed_most)
      → net_with (net n (λ u. split_signed (S u) 16 (w u)) p) (split_signed (S n) 16 (w n) p) ≡ net (n + 1) (λ u. split_signed (S u) 16 (w u)) p
  -- the ready excesses of an area's units, which may then be added up one by one too
  pub ready_excesses_bound : (n : ℕ) (excess : ℕ → ℕ) → n ≤ 32 → ((u : ℕ) → excess u ≤ installed_most) → sum_below n excess ≤ net_most
  pub excess_steps : (x y : ℕ) → x ≤ net_most → y ≤ net_most → net_with (sub_ℕ 0 x) (sub_ℕ 0 y) ≡ sub_ℕ 0 (x + y)
