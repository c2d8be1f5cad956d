-- The formulas' values in range fit 64 bits, and each is what its definition says.
use Rattle.std.proofs.Common.{◌≡◌, ℕ, ◌+◌, ◌-◌, ◌*◌, ◌/◌, ◌≤◌, ◌<◌, le_trans, not-suc-le-zero, mul-pos, mul-le-mul, div-le_self, arith, ℤ, pos}
use Rattle.std.proofs.Common.{negsuc, lt-ltb}
use Rattle.numbers.specs.Signed.{above}
use Rattle.capacity.specs.declared.rating.Rating.{Rating}
use Rattle.capacity.specs.declared.rating.HourCounts.{HourCounts}
use Rattle.capacity.specs.Shortfall.{limited, installed_most, rate_most}
use Rattle.capacity.proofs.Capacities.{UnitRange}
use Rattle.capacity.proofs.Bounds.{service_fits, rated_whole}

-- T × (SH × I − D) / (I × (SH + FOH)), step by step
pub record RatedFits (t : ℕ) (r : Rating) (h : HourCounts) : Type 0 where
  pub service : h.service * r.installed.0 ≤ 43920000000
  pub derated : h.derated ≤ h.service * r.installed.0
  pub whole : t * (h.service * r.installed.0 - h.derated) ≤ 219600000000000000
  pub hours : h.service + h.outage ≤ 17568
  pub divisor : r.installed.0 * (h.service + h.outage) ≤ 87840000000
  pub some : 0 < r.installed.0 * (h.service + h.outage)
  pub floor : t * (h.service * r.installed.0 - h.derated) / (r.installed.0 * (h.service + h.outage)) ≤ 219600000000000000

pub rated_fits : {t : ℕ} {r : Rating} {h : HourCounts} → t ≤ installed_most → UnitRange r h → 0 < h.service + h.outage → RatedFits t r h
rated_fits few u b =
    record {
      service = service_fits u.service_to u.rating.installed_to;
      derated = u.derated_to;
      whole = rated_whole few u;
      hours = omega arith;
      divisor = mul-le-mul {n₂ = installed_most} {m₂ = 17568} u.rating.installed_to (omega arith);
      some = mul-pos u.rating.installed_from b;
      floor = le_trans (div-le_self _ _) (rated_whole few u);
    }

pub record CommittedFits (e days : ℕ) : Type 0 where
  pub divisor : (100000 - e) * days ≤ 36600000
  pub some : 0 < (100000 - e) * days

pub committed_fits : {e days : ℕ} → e ≤ rate_most → 365 ≤ days → days ≤ 366 → CommittedFits e days
committed_fits {e} {days} he from to =
    record {
      divisor = mul-le-mul {n₂ = 100000} {m₂ = 366} (omega arith) to;
      some = mul-pos (omega arith) (omega arith);
    }

pub limit_fits : {u q : ℕ} → u ≤ installed_most → q ≤ 4 → u * q ≤ 20000000
limit_fits h k = mul-le-mul {n₂ = installed_most} {m₂ = 4} h k

-- a shortfall above the limit
pub over_limit : (l : ℕ) (s : ℤ) → l < above s → limited l s ≡ pos l
unfolding above limited
over_limit l (pos s) h = simp (lt-ltb l s h)
over_limit l (negsuc x) h = absurd (not-suc-le-zero h)
