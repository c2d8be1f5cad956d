-- The days of the months, and of the months before each.
use Rattle.std.proofs.Common.{◌≡◌, refl, Bool, true, false, cond, ◌&&◌, ℕ, ◌+◌, zero, suc, ◌<◌, ◌≤◌, arith, ltb, eqb}
use Rattle.std.proofs.lemmas.Bool.Decides.{nat_tests}
use Rattle.numbers.specs.Sum.{sum_below}
use Rattle.numbers.specs.Range.{within}
use Rattle.calendar.specs.Gregorian.{month_days}

pub no_month : (leap : Bool) (m : ℕ) → 12 < m → month_days leap m ≡ 0
unfolding month_days within
no_month leap m h = grind (arith, nat_tests)

-- every month has a first day
pub month_starts : (leap : Bool) (m : ℕ) → 1 ≤ m → m ≤ 12 → 1 ≤ month_days leap m
unfolding month_days within
month_starts leap m from to = grind (arith, nat_tests)

-- in a leap year February has a day more
leap_february : (leap : Bool) (m : ℕ) → month_days leap m ≡ month_days false m + cond (leap && eqb m 2) 1 0
unfolding month_days
leap_february leap m = grind (arith, nat_tests)

-- the days before a month, by those of a common year
pub before_at : (leap : Bool) (m : ℕ) → sum_below m (month_days false) + cond (leap && ltb 2 m) 1 0 ≡ sum_below m (month_days leap)
unfolding sum_below
before_at leap zero = grind (arith, nat_tests)
before_at leap (suc m) = grind (arith, nat_tests, before_at leap m, leap_february leap m)

-- the days of a whole year, and of its months up to June
abbrev pub year_days : Bool → ℕ
year_days leap = cond leap 366 365

pub year_small : (leap : Bool) → year_days leap ≤ 366
year_small true = omega arith
year_small false = omega arith

pub year_months : (leap : Bool) → sum_below 13 (month_days leap) ≡ year_days leap
unfolding sum_below month_days within
year_months true = refl
year_months false = refl

pub before_january : (leap : Bool) → sum_below 1 (month_days leap) ≡ 0
unfolding sum_below month_days within
before_january true = refl
before_january false = refl

pub before_june : (leap : Bool) → sum_below 6 (month_days leap) + 214 ≡ year_days leap
unfolding sum_below month_days within
before_june true = refl
before_june false = refl

pub with_december : (leap : Bool) (m : ℕ) → m ≡ 12 → sum_below m (month_days leap) + month_days leap m ≡ year_days leap
unfolding sum_below
with_december leap m e = rw e (year_months leap)

-- after December no month adds a day
pub all_before : (leap : Bool) (m : ℕ) → 12 < m → sum_below m (month_days leap) ≡ year_days leap
unfolding sum_below
all_before leap zero h = absurd (omega arith)
all_before leap (suc m) h = grind (arith, all_before leap m, no_month leap m, with_december leap m)
