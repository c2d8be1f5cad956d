-- A unit's shares and a party's net. 01, "Split" and Area money, and 02, Item 2; 002 (g). Party number p of 01 is p − 1 here.
use Rattle.std.specs.Prelude.{Bool, cond, ◌&&◌, List, ℕ, ◌-◌, ℤ, pos, negsuc, nat_abs, ◌+ℤ◌, eqb, leb}
use Rattle.std.proofs.Math.IntN.{sub_ℕ}
use Rattle.numbers.specs.Lists.{list_below, element}
use Rattle.numbers.specs.Signed.{below, sum_below_ℤ}
use Rattle.numbers.specs.Split.{split_signed}
use Rattle.capacity.specs.Quantities.{watts_of, unforced_watts}
use Rattle.capacity.specs.declared.UnforcedWatts.{UnforcedWatts}
use Rattle.capacity.specs.Shortfall.{watt_days_of, installed_most, watt_days_most}

-- A unit's limited S is split over parties, ascending, by their parts of V. If V = 0 it has no shares.
unfoldable pub unit_share : ℤ → (ℕ → ℕ) → ℕ → ℤ
unit_share s part p = split_signed s 16 part p

-- N: the sum of a party's shares in an area, over its units
unfoldable pub net : ℕ → (ℕ → ℕ → ℤ) → ℕ → ℤ
net units share p = sum_below_ℤ units (λ u. share u p)

-- 02, Item 2: so much excess of ready units lowers their owner's net, if the net is above zero, and never below zero
unfoldable pub lowered : ℕ → ℤ → ℤ
lowered excess (pos n) = pos (n - excess)
lowered excess (negsuc n) = negsuc n

-- S of a unit and the parts of its V are in range
unfoldable pub shares_in_range : ℤ → (ℕ → ℕ) → Bool
shares_in_range s part = leb (nat_abs s) installed_most && leb (watt_days_of part) watt_days_most

-- What the public functions answer. A unit's shares; out of these ranges it has none.
unfoldable pub shares_answer : ℤ → List ℕ → List UnforcedWatts
shares_answer s parts =
    cond (shares_in_range s (element parts))
    (list_below 16 (λ p. unforced_watts (unit_share s (element parts) p)))
    (list_below 16 (λ p. unforced_watts (pos 0)))

-- the most watts of a party's net, and of all parties' nets in an area: 32 units × 5,000,000
abbrev pub net_most : ℕ
net_most = 160000000

-- A net with one share more. Where either is past the bound the sum is 0.
unfoldable pub net_with : ℤ → ℤ → ℤ
net_with n share = cond (leb (nat_abs n) net_most && leb (nat_abs share) net_most) (n +ℤ share) (pos 0)

unfoldable pub nets_answer : List UnforcedWatts → List UnforcedWatts → List UnforcedWatts
nets_answer nets shares = list_below 16 (λ p. unforced_watts (net_with (watts_of nets p) (watts_of shares p)))

-- watts that are an excess: below zero, as S is where it is one
abbrev pub excess_watts : ℕ → UnforcedWatts
excess_watts x = unforced_watts (sub_ℕ 0 x)

-- the excess of a unit whose S is s, at its owner's place; none at the others'
unfoldable pub excess_answer : ℤ → ℕ → List UnforcedWatts
excess_answer s owner = list_below 16 (λ p. excess_watts (cond (eqb p owner) (below s) 0))

-- nets lowered by excesses
unfoldable pub lowered_answer : List UnforcedWatts → List UnforcedWatts → List UnforcedWatts
lowered_answer nets excesses = list_below 16 (λ p. unforced_watts (lowered (below (watts_of excesses p)) (watts_of nets p)))
