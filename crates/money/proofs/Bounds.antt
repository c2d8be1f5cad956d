-- What an area's facts in range have, and why 64 bits are enough for its money.
use Rattle.std.proofs.Common.{min, ◌-◌, ◌/◌, ◌≡◌, sym, true, ℕ, zero, suc, ◌+◌, ◌*◌, ◌^◌, ◌≤◌, ◌<◌, zero-le, le_trans, add-mul, mul-le-mul, arith, ℤ, nat_abs, ◌-ℤ◌}
use Rattle.std.proofs.Common.{leb-true}
use native.Mathlib.Nat.{div-le_of_le-mul}
use Rattle.numbers.specs.Sum.{sum_below}
use Rattle.numbers.specs.Signed.{above, below}
use Rattle.numbers.specs.Split.{split}
use Rattle.numbers.proofs.Sums.{sum_term}
use Rattle.numbers.proofs.Sizes.{difference_size, less_size}
use Rattle.numbers.proofs.Splits.{shares_at_most}
use Rattle.numbers.proofs.Tests.{at_most_and}
use Rattle.capacity.specs.Quantities.{watts_of}
use Rattle.capacity.specs.Shares.{net_most}
use Rattle.money.specs.declared.area.Area.{Area}
use Rattle.money.specs.AreaMoney.{priced, charge, ceiling, charges, ceilings, credit, left, load_share, due, obligations_most, area_in_range, due_most}
use Rattle.money.specs.AreaMoney.{watts_in_range}
use Rattle.money.proofs.Balance.{credits_add_up}

-- what an area's facts in range have
pub record AreaRange (N : ℕ → ℤ) (price days : ℕ) (o : ℕ → ℕ) : Type 0 where
  pub shortfalls_to : sum_below 16 (λ p. above (N p)) ≤ net_most
  pub excesses_to : sum_below 16 (λ p. below (N p)) ≤ net_most
  pub price_to : price ≤ 50000
  pub days_to : days ≤ 366
  pub obligations_to : sum_below 16 o ≤ obligations_most

pub area_range : (N : ℕ → ℤ) (price days : ℕ) (o : ℕ → ℕ) → area_in_range N price days o ≡ true → AreaRange N price days o
unfolding area_in_range watts_in_range
area_range N price days o q =
    let (p, q₁) = at_most_and q in
    let (d, q₂) = at_most_and q₁ in
    let (w, q₃) = at_most_and q₂ in
    let (s, x) = at_most_and q₃ in
    record { shortfalls_to = s; excesses_to = leb-true _ _ x; price_to = p; days_to = d; obligations_to = w }

pub priced_bound : (w price days : ℕ) → w ≤ net_most → price ≤ 50000 → days ≤ 366 → w * price * days ≤ 2928000000000000
priced_bound w price days hw hp hd =
    mul-le-mul {n₂ = 8000000000000} {m₂ = 366} (mul-le-mul {n₂ = net_most} {m₂ = 50000} hw hp) hd

-- floors add up to at most the floor of the sum
priced_add : (a b price days : ℕ) → priced a price days + priced b price days ≤ priced (a + b) price days
unfolding priced
priced_add a b price days = rw (add-mul a b price, add-mul (a * price) (b * price) days) (omega arith)

priced_sum : (n : ℕ) (x : ℕ → ℕ) (price days : ℕ) → sum_below n (λ p. priced (x p) price days) ≤ priced (sum_below n x) price days
unfolding sum_below
priced_sum zero x price days = zero-le
priced_sum (suc n) x price days = omega (arith, priced_add (sum_below n x) (x n) price days, priced_sum n x price days)

pricings_bound : (x : ℕ → ℕ) (price days : ℕ) → sum_below 16 x ≤ net_most → price ≤ 50000 → days ≤ 366
    → sum_below 16 (λ p. priced (x p) price days) ≤ due_most
unfolding priced
pricings_bound x price days hx hp hd =
    le_trans (priced_sum 16 x price days) (div-le_of_le-mul 1000000 (priced_bound (sum_below 16 x) price days hx hp hd))

pub charges_bound : (N : ℕ → ℤ) (price days : ℕ) (o : ℕ → ℕ) → area_in_range N price days o ≡ true → charges N price days ≤ due_most
unfolding charges charge
charges_bound N price days o q =
    let r : AreaRange N price days o = area_range N price days o q in
    pricings_bound (λ p. above (N p)) price days r.shortfalls_to r.price_to r.days_to

pub ceilings_bound : (N : ℕ → ℤ) (price days : ℕ) (o : ℕ → ℕ) → area_in_range N price days o ≡ true → ceilings N price days ≤ due_most
unfolding ceilings ceiling
ceilings_bound N price days o q =
    let r : AreaRange N price days o = area_range N price days o q in
    pricings_bound (λ p. below (N p)) price days r.excesses_to r.price_to r.days_to

pub credits_fit : (N : ℕ → ℤ) (price days : ℕ) (o : ℕ → ℕ) → area_in_range N price days o ≡ true
    → charges N price days * ceilings N price days < 2 ^ 63
credits_fit N price days o q =
    omega (arith, mul-le-mul {n₂ = due_most} {m₂ = due_most} (charges_bound N price days o q) (ceilings_bound N price days o q))

pub load_shares_fit : (N : ℕ → ℤ) (price days : ℕ) (o : ℕ → ℕ) → area_in_range N price days o ≡ true
    → left N price days * sum_below 16 o < 2 ^ 63
unfolding left
load_shares_fit N price days o q =
    let h : left N price days ≤ due_most = omega (arith, charges_bound N price days o q) in
    omega (arith, mul-le-mul {n₂ = due_most} {m₂ = obligations_most} h (area_range N price days o q).obligations_to)

-- a party's credit and load share together are at most R
received_at_most : (N : ℕ → ℤ) (price days : ℕ) (o : ℕ → ℕ) (p : ℕ) → p < 16
    → credit N price days p + load_share N price days o p ≤ charges N price days
unfolding left load_share
received_at_most N price days o p h =
    omega (
      arith,
      sum_term p 16 (credit N price days) h,
      credits_add_up N price days,
      sum_term p 16 (split (left N price days) 16 o) h,
      shares_at_most (left N price days) 16 o,
    )

pub due_bound : (N : ℕ → ℤ) (price days : ℕ) (o : ℕ → ℕ) (p : ℕ) → p < 16 → area_in_range N price days o ≡ true
    → nat_abs (due N price days o p) ≤ due_most
unfolding due charges
due_bound N price days o p h q =
    omega (
      arith,
      difference_size (credit N price days p + load_share N price days o p) (charge N price days p),
      received_at_most N price days o p h,
      sum_term p 16 (charge N price days) h,
      charges_bound N price days o q,
    )

pub line_bound : (d earlier : ℤ) → nat_abs d ≤ due_most → nat_abs earlier ≤ due_most → nat_abs (d -ℤ earlier) ≤ 5856000000
line_bound d earlier h k = omega (arith, less_size d earlier)

-- what the code reckons of a net's watts: the products fit, and the cents are what the definition says
pub record NetPriced (watts price days amount : ℕ) : Type 0 where
  pub once : watts * price ≤ 8000000000000
  pub whole : watts * price * days ≤ 2928000000000000
  pub kept : min (watts * price * days / 1000000) (2 ^ 63 - 1) ≡ amount

-- of the watts x of sixteen parties on one side of zero
net_priced : (x : ℕ → ℕ) {watts price days p : ℕ} → sum_below 16 x ≤ net_most → price ≤ 50000 → days ≤ 366 → p < 16 → watts ≡ x p
    → NetPriced watts price days (priced (x p) price days)
unfolding priced
net_priced x {watts} {price} {days} {p} most hp hd h e =
    let few : watts ≤ net_most = omega (arith, sum_term p 16 x h) in
    let whole = priced_bound watts price days few hp hd in
    record { once = mul-le-mul {n₂ = net_most} {m₂ = 50000} few hp; whole = whole; kept = rw (sym e) (omega arith) }

module _ (a : Area) {p watts : ℕ} (h : p < 16) where
  pub charge_priced : watts ≡ above (watts_of a.nets p) → NetPriced watts a.price a.days (charge (watts_of a.nets) a.price a.days p)
  unfolding charge
  charge_priced = let r = area_range _ _ _ _ a.in_range in net_priced _ r.shortfalls_to r.price_to r.days_to h

  pub ceiling_priced : watts ≡ below (watts_of a.nets p) → NetPriced watts a.price a.days (ceiling (watts_of a.nets) a.price a.days p)
  unfolding ceiling
  ceiling_priced = let r = area_range _ _ _ _ a.in_range in net_priced _ r.excesses_to r.price_to r.days_to h
