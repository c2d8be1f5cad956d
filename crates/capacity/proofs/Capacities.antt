-- Laws of T, of unforced watts, P and S, of the limit, and what the tests of ranges say.
use Rattle.std.proofs.Common.{◌≡◌, refl, ◌∙◌, Bool, true, false, cond, ◌&&◌, ℕ, suc, ◌+◌, ◌-◌, ◌*◌, ◌<◌, ◌≤◌, max, zero-le, le_refl, le_trans}
use Rattle.std.proofs.Common.{mul-le-mul_left, mul_comm, arith, ℤ, pos, negsuc, nat_abs, ◌≤ℤ◌, eqb, ltb, leb→le, le→leb, ltb-true, ltb-false, le-ltb}
use Rattle.std.proofs.Common.{leb-true, ne_eqb}
use native.Mathlib.Nat.{min-le_left, max-le, div-le_of_le-mul}
use lib.Signed.{le_z_yes, ≤ℤ_refl}
use Rattle.numbers.specs.Signed.{above}
use Rattle.numbers.proofs.Tests.{within_from, within_to, both_true, at_most_and}
use Rattle.numbers.proofs.Sums.{sum_same, sum_exchange, sum_picked}
use Rattle.numbers.proofs.Sizes.{difference_size}
use Rattle.capacity.specs.declared.rating.Rating.{Rating}
use Rattle.capacity.specs.declared.rating.HourCounts.{HourCounts}
use Rattle.capacity.specs.Shortfall.{unit_watt_days, part_of, watt_days_of, committed, unforced, peak_rated, available, limited, unit_committed, unit_shortfall, is_ready}
use Rattle.capacity.specs.Shortfall.{unit_limit, limited_shortfall, installed_most, rate_most, hours_most, watt_days_most, rates_in_range, hours_in_range, rating_in_range}
use Rattle.capacity.specs.Shortfall.{unit_in_range, year_in_range}

pub parts_add_up : (n : ℕ) (wd party : ℕ → ℕ) → ((k : ℕ) → k < n → party k < 16) → watt_days_of (part_of n wd party) ≡ unit_watt_days n wd
unfolding watt_days_of part_of unit_watt_days
parts_add_up n wd party known =
    sum_exchange 16 n (λ p k. cond (eqb (party k) p) (wd k) 0)
    ∙ sum_same n _ wd (λ k h. sum_picked 16 (party k) (wd k) (known k h))

pub committed_at_most : (i e v days : ℕ) → committed i e v days ≤ i
unfolding committed
committed_at_most i e v days = min-le_left i _

-- 02, Item 2: a unit's T
module _ (r : Rating) where
  pub ready_committed : (days : ℕ) → unit_committed r true 0 days ≡ r.installed.0
  unfolding unit_committed is_ready
  ready_committed days = refl

  pub unowned_committed : (v days : ℕ) → unit_committed r false v days ≡ committed r.installed.0 r.eford v days
  unfolding unit_committed is_ready
  unowned_committed v days = refl

  pub owner_no_part : (owned : Bool) (v days : ℕ) → 0 < v → unit_committed r owned v days ≡ committed r.installed.0 r.eford v days
  unfolding unit_committed is_ready
  owner_no_part false v days some = refl
  owner_no_part true v days some = rw (ne_eqb v 0 (λ e. omega arith))

  pub unit_committed_at_most : (owned : Bool) (v days : ℕ) → unit_committed r owned v days ≤ r.installed.0
  unfolding unit_committed
  unit_committed_at_most owned v days = go (is_ready owned v)
    where
      go : (t : Bool) → cond t r.installed.0 (committed r.installed.0 r.eford v days) ≤ r.installed.0
      go true = le_refl r.installed.0
      go false = committed_at_most _ _ _ _

pub unforced_at_most : (watts rate : ℕ) → unforced watts rate ≤ watts
unfolding unforced
unforced_at_most watts rate =
    div-le_of_le-mul 100000 (omega (arith, mul-le-mul_left {m = 100000 - rate} {n = 100000} watts (omega arith)))

pub peak_rated_at_most : (t i sh foh d : ℕ) → peak_rated t i sh foh d ≤ t
unfolding peak_rated
peak_rated_at_most t i sh foh d =
    div-le_of_le-mul (i * (sh + foh)) (rw (mul_comm (i * (sh + foh)) t) (mul-le-mul_left t (omega arith)))

pub available_at_most : (t i g sh foh d : ℕ) → available t i g sh foh d ≤ t
unfolding available
available_at_most t i g sh foh d = go (eqb (sh + foh) 0) (ltb sh 50) (unforced_at_most t g) (peak_rated_at_most t i sh foh d)
  where
    go : (a b : Bool) → unforced t g ≤ t → peak_rated t i sh foh d ≤ t
        → cond a (unforced t g) (cond b (max (peak_rated t i sh foh d) (unforced t g)) (peak_rated t i sh foh d)) ≤ t
    go true b year peak = year
    go false true year peak = omega arith
    go false false year peak = peak

pub above_le : (s : ℤ) (l : ℕ) → s ≤ℤ pos l → above s ≤ l
unfolding above
above_le (pos s) l h = leb→le s l h.le
above_le (negsuc x) l h = zero-le

pub excess_untouched : (l : ℕ) (s : ℤ) → s ≤ℤ pos 0 → limited l s ≡ s
unfolding above limited
excess_untouched l (pos s) h = simp (le-ltb l s (omega (arith, above_le (pos s) 0 h)))
excess_untouched l (negsuc x) h = refl

pub under_limit : (l : ℕ) (s : ℤ) → above s ≤ l → limited l s ≡ s
unfolding above limited
under_limit l (pos s) h = simp (le-ltb l s h)
under_limit l (negsuc x) h = refl

pub not_above_untouched : (l : ℕ) (s : ℤ) → s ≤ℤ pos l → limited l s ≡ s
not_above_untouched l s h = under_limit l s (above_le s l h)

pub limited_at_most : (l : ℕ) (s : ℤ) → limited l s ≤ℤ pos l
unfolding limited
limited_at_most l (pos s) = go (ltb l s) refl
  where
    go : (t : Bool) → ltb l s ≡ t → cond t (pos l) (pos s) ≤ℤ pos l
    go true q = ≤ℤ_refl (pos l)
    go false q = le_z_yes (le→leb s l (ltb-false l s q))
limited_at_most l (negsuc x) = le_z_yes tt

pub limited_size : (l : ℕ) (s : ℤ) → nat_abs (limited l s) ≤ nat_abs s
unfolding limited
limited_size l (pos s) = go (ltb l s) refl
  where
    go : (t : Bool) → ltb l s ≡ t → nat_abs (cond t (pos l) (pos s)) ≤ s
    go true q = omega (arith, ltb-true l s q)
    go false q = le_refl s
limited_size l (negsuc x) = le_refl (suc x)

pub unit_shortfall_size : (r : Rating) (h : HourCounts) (t : ℕ) → nat_abs (unit_shortfall r h t) ≤ t
unfolding unit_shortfall
unit_shortfall_size r h t =
    le_trans (difference_size (unforced t r.eford5) _) (max-le (unforced_at_most t r.eford5) (available_at_most _ _ _ _ _ _))

pub limited_shortfall_size : (r : Rating) (h : HourCounts) (t : ℕ) → nat_abs (limited_shortfall r h t) ≤ t
unfolding limited_shortfall
limited_shortfall_size r h t = le_trans (limited_size (unit_limit r) (unit_shortfall r h t)) (unit_shortfall_size r h t)

-- what a rating in range has, and hours in range
pub record RatingRange (r : Rating) : Type 0 where
  pub installed_from : 1 ≤ r.installed.0
  pub installed_to : r.installed.0 ≤ installed_most
  pub eford_to : r.eford ≤ rate_most
  pub eford5_to : r.eford5 ≤ rate_most
  pub efordyear_to : r.efordyear ≤ rate_most

pub record UnitRange (r : Rating) (h : HourCounts) : Type 0 where
  pub rating : RatingRange r
  pub service_to : h.service ≤ hours_most
  pub outage_to : h.outage ≤ hours_most
  pub derated_to : h.derated ≤ h.service * r.installed.0

pub rating_range : {r : Rating} → rating_in_range r ≡ true → RatingRange r
unfolding rating_in_range rates_in_range
rating_range q =
    let (i, rates) = both_true q in
    let (e, q₁) = at_most_and rates in
    let (f, q₂) = at_most_and q₁ in
    record {
      installed_from = within_from 1 installed_most _ i;
      installed_to = within_to 1 installed_most _ i;
      eford_to = e;
      eford5_to = f;
      efordyear_to = (at_most_and q₂).0;
    }

pub unit_range : {r : Rating} {h : HourCounts} → unit_in_range r h ≡ true → UnitRange r h
unfolding unit_in_range hours_in_range
unit_range q =
    let (rating, hours) = both_true q in
    let (sh, q₁) = at_most_and hours in
    let (foh, d) = at_most_and q₁ in
    record { rating = rating_range rating; service_to = sh; outage_to = foh; derated_to = leb-true _ _ d }

-- what watt-days and days in range have
pub record YearRange (v days : ℕ) : Type 0 where
  pub v_to : v ≤ watt_days_most
  pub days_from : 365 ≤ days
  pub days_to : days ≤ 366

pub year_range : (v days : ℕ) → year_in_range v days ≡ true → YearRange v days
unfolding year_in_range
year_range v days q =
    let (v_to, d) = at_most_and q in
    record { v_to = v_to; days_from = within_from 365 366 _ d; days_to = within_to 365 366 _ d }

pub ranges : {r : Rating} {v days : ℕ} → (rating_in_range r && year_in_range v days) ≡ true → RatingRange r × YearRange v days
ranges q = let (rating, year) = both_true q in (rating_range rating, year_range _ _ year)
