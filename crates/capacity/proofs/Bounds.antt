-- Laws of bounds: why 64 bits are enough.
use Rattle.std.proofs.Common.{◌≡◌, Bool, true, ℕ, ◌+◌, ◌-◌, ◌*◌, ◌≤◌, ◌<◌, le_trans, mul-le-mul, add-one, arith, ℤ, nat_abs, le-leb}
use Rattle.numbers.specs.Sum.{sum_below}
use Rattle.numbers.specs.Signed.{above, below, sum_below_ℤ}
use Rattle.numbers.specs.Split.{split_signed}
use Rattle.numbers.proofs.Sums.{sum_term, sum_at_most, sum_exchange, sum_bounded}
use Rattle.numbers.proofs.Sizes.{above_size, below_size, difference_size, sum_size, share_size}
use lib.IntN.{sub_ℕ}
use Rattle.numbers.proofs.SignedSums.{add_differences}
use Rattle.numbers.proofs.Splits.{shares_at_most, share_at_most}
use Rattle.capacity.specs.declared.rating.Rating.{Rating}
use Rattle.capacity.specs.declared.rating.HourCounts.{HourCounts}
use Rattle.capacity.specs.Shortfall.{watt_days, unit_watt_days, unit_committed, limited_shortfall, installed_most, commitment_most, hours_most, watt_days_most}
use Rattle.capacity.specs.Shortfall.{unit_in_range}
use Rattle.capacity.specs.Shares.{net, net_most, net_with}
use Rattle.capacity.proofs.Capacities.{unit_committed_at_most, limited_shortfall_size, UnitRange, unit_range}

pub watt_days_fit : {watts last : ℕ} (first : ℕ) → watts ≤ commitment_most → last ≤ 365 → watts * (last - first + 1) ≤ 1830000000
watt_days_fit first h k = mul-le-mul {n₂ = commitment_most} {m₂ = 366} h (omega arith)

pub watt_days_bound : (n : ℕ) (watts first last : ℕ → ℕ) → n ≤ 64 → ((k : ℕ) → (watts k ≤ commitment_most) × (last k ≤ 365))
    → unit_watt_days n (λ k. watt_days (watts k) (first k) (last k)) ≤ watt_days_most
unfolding watt_days unit_watt_days
watt_days_bound n watts first last few each =
    sum_bounded n 64 1830000000 _ few (λ k. watt_days_fit (first k) (each k).0 (each k).1)

pub committed_bound : (v : ℕ) → v ≤ watt_days_most → v * 100000 ≤ 11712000000000000
committed_bound v h = omega arith

pub service_fits : {sh i : ℕ} → sh ≤ hours_most → i ≤ installed_most → sh * i ≤ 43920000000
service_fits h k = mul-le-mul {n₂ = hours_most} {m₂ = installed_most} h k

pub rated_whole : {t : ℕ} {r : Rating} {h : HourCounts} → t ≤ installed_most → UnitRange r h
    → t * (h.service * r.installed.0 - h.derated) ≤ 219600000000000000
rated_whole few u =
    mul-le-mul {n₂ = installed_most} {m₂ = 43920000000} few (omega (arith, service_fits u.service_to u.rating.installed_to))

pub rated_bound : (r : Rating) (h : HourCounts) (owned : Bool) (v days : ℕ) → unit_in_range r h ≡ true
    → unit_committed r owned v days * (h.service * r.installed.0 - h.derated) ≤ 219600000000000000
rated_bound r h owned v days q =
    let u : UnitRange r h = unit_range q in
    rated_whole (le_trans (unit_committed_at_most r owned v days) u.rating.installed_to) u

pub shortfall_bound : (r : Rating) (h : HourCounts) (t : ℕ) → unit_in_range r h ≡ true → t ≤ r.installed.0 → nat_abs (limited_shortfall r h t) ≤ installed_most
shortfall_bound r h t q few = le_trans (limited_shortfall_size r h t) (le_trans few (unit_range q).rating.installed_to)

pub split_bound : (s : ℤ) (v : ℕ) → nat_abs s ≤ installed_most → v ≤ watt_days_most → nat_abs s * v ≤ 585600000000000000
split_bound s v small few = mul-le-mul {n₂ = installed_most} {m₂ = watt_days_most} small few

pub ready_excesses_bound : (n : ℕ) (excess : ℕ → ℕ) → n ≤ 32 → ((u : ℕ) → excess u ≤ installed_most) → sum_below n excess ≤ net_most
ready_excesses_bound n excess few each = sum_bounded n 32 installed_most excess few each

pub excess_steps : (x y : ℕ) → x ≤ net_most → y ≤ net_most → net_with (sub_ℕ 0 x) (sub_ℕ 0 y) ≡ sub_ℕ 0 (x + y)
unfolding net_with
excess_steps x y hx hy =
    simp (le-leb (nat_abs (sub_ℕ 0 x)) net_most (omega (arith, difference_size 0 x)), le-leb (nat_abs (sub_ℕ 0 y)) net_most (omega (arith, difference_size 0 y)))
    (add_differences 0 x 0 y)

-- the sizes of all parties' nets add up to at most the units' sizes
nets_size : (n m : ℕ) (S : ℕ → ℤ) (w : ℕ → ℕ → ℕ)
    → sum_below m (λ p. nat_abs (net n (λ u. split_signed (S u) m (w u)) p)) ≤ sum_below n (λ u. nat_abs (S u))
unfolding net
nets_size n m S w =
    le_trans (sum_at_most m _ _ (λ p h. sum_size n (λ u. split_signed (S u) m (w u) p)))
    (rw (sum_exchange m n (λ p u. nat_abs (split_signed (S u) m (w u) p)))
    (sum_at_most n _ _ (λ u h. simp share_size (shares_at_most (nat_abs (S u)) m (w u)))))

sizes_bound : (n : ℕ) (S : ℕ → ℤ) (w : ℕ → ℕ → ℕ) → n ≤ 32 → ((u : ℕ) → nat_abs (S u) ≤ installed_most)
    → sum_below 16 (λ p. nat_abs (net n (λ u. split_signed (S u) 16 (w u)) p)) ≤ net_most
sizes_bound n S w few each = le_trans (nets_size n 16 S w) (sum_bounded n 32 installed_most _ few each)

pub shortfalls_bound : (n : ℕ) (S : ℕ → ℤ) (w : ℕ → ℕ → ℕ) → n ≤ 32 → ((u : ℕ) → nat_abs (S u) ≤ installed_most)
    → sum_below 16 (λ p. above (net n (λ u. split_signed (S u) 16 (w u)) p)) ≤ net_most
shortfalls_bound n S w few each = le_trans (sum_at_most 16 _ _ (λ p h. above_size _)) (sizes_bound n S w few each)

pub excesses_bound : (n : ℕ) (S : ℕ → ℤ) (w : ℕ → ℕ → ℕ) → n ≤ 32 → ((u : ℕ) → nat_abs (S u) ≤ installed_most)
    → sum_below 16 (λ p. below (net n (λ u. split_signed (S u) 16 (w u)) p)) ≤ net_most
excesses_bound n S w few each = le_trans (sum_at_most 16 _ _ (λ p h. below_size _)) (sizes_bound n S w few each)

pub net_steps : (n : ℕ) (S : ℕ → ℤ) (w : ℕ → ℕ → ℕ) (p : ℕ) → n < 32 → p < 16 → ((u : ℕ) → nat_abs (S u) ≤ installed_most)
    → net_with (net n (λ u. split_signed (S u) 16 (w u)) p) (split_signed (S n) 16 (w n) p) ≡ net (n + 1) (λ u. split_signed (S u) 16 (w u)) p
unfolding net net_with sum_below_ℤ
net_steps n S w p few h each =
    let nets : ℕ → ℤ = net n (λ u. split_signed (S u) 16 (w u)) in
    let so_far : nat_abs (nets p) ≤ net_most = omega (arith, sum_term p 16 (λ k. nat_abs (nets k)) h, sizes_bound n S w (omega arith) each) in
    let one_more : nat_abs (split_signed (S n) 16 (w n) p) ≤ net_most =
    rw share_size (omega (arith, share_at_most (nat_abs (S n)) 16 (w n) p h, each n)) in
    simp (add-one, le-leb _ _ so_far, le-leb _ _ one_more)
