-- From a set to its shortfall. 01, the section of that name, and 02, Item 2; 002 (c) to (g) and (i); 001 for T.
-- I and T are installed watts; U, X, G, P and L are unforced watts. Rates e, f and g are hundred-thousandths.
-- All divisions are floors.
use Rattle.std.specs.Prelude.{Bool, cond, ◌&&◌, ℕ, ◌+◌, ◌-◌, ◌*◌, ◌/◌, min, max, ℤ, pos, negsuc, eqb, ltb, leb}
use Rattle.std.proofs.Math.IntN.{sub_ℕ}
use Rattle.numbers.specs.Sum.{sum_below}
use Rattle.numbers.specs.Range.{within}
use Rattle.capacity.specs.declared.rating.Rating.{Rating}
use Rattle.capacity.specs.declared.rating.HourCounts.{HourCounts}

-- watts × (last − first + 1): one commitment's watt-days
unfoldable pub watt_days : ℕ → ℕ → ℕ → ℕ
watt_days watts first last = watts * (last - first + 1)

-- V: the sum over the unit's commitments 0 .. n − 1, wd k being the watt-days of number k
unfoldable pub unit_watt_days : ℕ → (ℕ → ℕ) → ℕ
unit_watt_days n wd = sum_below n wd

-- party p's part of V: the sum over those that are the party's
unfoldable pub part_of : ℕ → (ℕ → ℕ) → (ℕ → ℕ) → ℕ → ℕ
part_of n wd party p = sum_below n (λ k. cond (eqb (party k) p) (wd k) 0)

-- V as the public functions are given it, by its sixteen parts: the law `parts_add_up` says that they add up to V
unfoldable pub watt_days_of : (ℕ → ℕ) → ℕ
watt_days_of part = sum_below 16 part

-- T = lower of I and V × 100,000 / ((100,000 − e) × days): in 001 the Total Unit ICAP Commitment Amount
unfoldable pub committed : ℕ → ℕ → ℕ → ℕ → ℕ
committed i e v days = min i (v * 100000 / ((100000 - e) * days))

-- 02, Item 2: a unit with V = 0 and an owner, kept ready but not committed
unfoldable pub is_ready : Bool → ℕ → Bool
is_ready owned v = owned && eqb v 0

-- the unforced part of installed watts at an outage rate
unfoldable pub unforced : ℕ → ℕ → ℕ
unforced watts rate = watts * (100000 - rate) / 100000

-- X = T × (100,000 − f) / 100,000: expected
abbrev pub expected : ℕ → ℕ → ℕ
expected t f = unforced t f

-- G = T × (100,000 − g) / 100,000: from the year's own outages
abbrev pub year_rated : ℕ → ℕ → ℕ
year_rated t g = unforced t g

-- T × (1 − EFORp) with EFORp = (FOH + D/I)/(SH + FOH), as one floor: T × (SH × I − D) / (I × (SH + FOH))
unfoldable pub peak_rated : ℕ → ℕ → ℕ → ℕ → ℕ → ℕ
peak_rated t i sh foh d = t * (sh * i - d) / (i * (sh + foh))

-- P: G if SH + FOH = 0; otherwise, if SH < 50, the higher of P and G (002, f)
unfoldable pub available : ℕ → ℕ → ℕ → ℕ → ℕ → ℕ → ℕ
available t i g sh foh d =
    cond (eqb (sh + foh) 0) (year_rated t g)
    (cond (ltb sh 50) (max (peak_rated t i sh foh d) (year_rated t g))
    (peak_rated t i sh foh d))

-- S = X − P, signed; below zero it is an excess
abbrev pub shortfall : ℕ → ℕ → ℤ
shortfall x p = sub_ℕ x p

-- U = I × (100,000 − e) / 100,000
abbrev pub unforced_capacity : ℕ → ℕ → ℕ
unforced_capacity i e = unforced i e

-- q = 2, 3, 4 for class 0, 1, 2
unfoldable pub quarters : ℕ → ℕ
quarters class = cond (eqb class 0) 2 (cond (eqb class 1) 3 4)

-- L = U × q / 4
unfoldable pub limit : ℕ → ℕ → ℕ
limit u class = u * quarters class / 4

-- a shortfall above L becomes L; an excess has no limit
unfoldable pub limited : ℕ → ℤ → ℤ
limited l (pos s) = cond (ltb l s) (pos l) (pos s)
limited l (negsuc x) = negsuc x

-- a unit's T at V watt-days in a delivery year of so many days; 02, Item 2: a ready one takes T = I
unfoldable pub unit_committed : Rating → Bool → ℕ → ℕ → ℕ
unit_committed r owned v days = cond (is_ready owned v) r.installed.0 (committed r.installed.0 r.eford v days)

-- its P and its S at T
abbrev pub unit_available : Rating → HourCounts → ℕ → ℕ
unit_available r h t = available t r.installed.0 r.efordyear h.service h.outage h.derated

unfoldable pub unit_shortfall : Rating → HourCounts → ℕ → ℤ
unit_shortfall r h t = shortfall (expected t r.eford5) (unit_available r h t)

-- its L
unfoldable pub unit_limit : Rating → ℕ
unit_limit r = limit (unforced_capacity r.installed.0 r.eford) r.class

-- its limited S at T
unfoldable pub limited_shortfall : Rating → HourCounts → ℕ → ℤ
limited_shortfall r h t = limited (unit_limit r) (unit_shortfall r h t)

-- The ranges of 01, Records, and what follows from them. I, in watts
abbrev pub installed_most : ℕ
installed_most = 5000000

-- e, f and g, in hundred-thousandths
abbrev pub rate_most : ℕ
rate_most = 99999

-- a commitment, in watts
abbrev pub commitment_most : ℕ
commitment_most = 5000000

-- SH and FOH: the hours of a year, 366 × 24
abbrev pub hours_most : ℕ
hours_most = 8784

-- V: 64 commitments × 5,000,000 W × 366 days
abbrev pub watt_days_most : ℕ
watt_days_most = 117120000000

unfoldable pub rates_in_range : Rating → Bool
rates_in_range r = leb r.eford rate_most && (leb r.eford5 rate_most && (leb r.efordyear rate_most && leb r.class 2))

unfoldable pub rating_in_range : Rating → Bool
rating_in_range r = within 1 installed_most r.installed.0 && rates_in_range r

-- each derating is below I and counts in an hour of SH
unfoldable pub hours_in_range : Rating → HourCounts → Bool
hours_in_range r h = leb h.service hours_most && (leb h.outage hours_most && leb h.derated (h.service * r.installed.0))

unfoldable pub unit_in_range : Rating → HourCounts → Bool
unit_in_range r h = rating_in_range r && hours_in_range r h

unfoldable pub year_in_range : ℕ → ℕ → Bool
year_in_range v days = leb v watt_days_most && within 365 366 days

-- What the public functions answer; out of these ranges, 0.
unfoldable pub watt_days_answer : ℕ → ℕ → ℕ → ℕ
watt_days_answer watts first last = cond (leb watts commitment_most && (leb first last && leb last 365)) (watt_days watts first last) 0

unfoldable pub committed_answer : Rating → Bool → ℕ → ℕ → ℕ
committed_answer r owned v days = cond (rating_in_range r && year_in_range v days) (unit_committed r owned v days) 0

unfoldable pub shortfall_answer : Rating → HourCounts → ℕ → ℤ
shortfall_answer r h t = cond (unit_in_range r h && leb t r.installed.0) (limited_shortfall r h t) (pos 0)
