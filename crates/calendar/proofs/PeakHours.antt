-- Peak hours as bits.
use Rattle.std.proofs.Common.{◌≡◌, refl, ◌∙◌, Bool, true, false, true≢false, cond, ◌&&◌, ◌||◌, ℕ, ◌-◌, ◌<◌, min, arith, eqb}
use Rattle.std.proofs.lemmas.Bool.Decides.{nat_tests}
use Rattle.std.specs.Int.{bit_at}
use Rattle.std.specs.Prelude.{bit_and}
use Rattle.std.proofs.lemmas.Nat.Bits.{bit_at_and}
use Rattle.numbers.specs.Range.{within}
use Rattle.numbers.specs.Sum.{sum_below}
use Rattle.numbers.specs.Bits.{bits_below}
use Rattle.calendar.specs.Gregorian.{is_date, month_days}
use Rattle.calendar.specs.DeliveryYear.{calendar_year, is_delivery_date, delivery_day, is_delivery_peak}
use Rattle.calendar.proofs.HourBits.{bits_of_hours, no_other_hour}
use Rattle.calendar.specs.Peak.{day_hours, hour_bits, has_hour, hour_count, peak_period, summer_peak, winter_peak, peak_hour, peak_day}

-- two of the laws of hours as bits in one equation
hour_is : (f : ℕ → Bool) (h : ℕ) → has_hour (hour_bits f) h ≡ (within 1 day_hours h && f h)
hour_is f h = go (within 1 day_hours h) refl
  where
    go : (t : Bool) → within 1 day_hours h ≡ t → has_hour (hour_bits f) h ≡ (t && f h)
    go true q = bits_of_hours f h q
    go false q = no_other_hour (hour_bits f) h q

-- the peak period of a summer month, of a winter month, and of another
by_season : (summer winter : Bool) → (summer && winter) ≡ false
    → hour_bits (λ h. summer && within 15 19 h || winter && (within 8 9 h || within 19 20 h)) ≡ cond summer 0x7c000 (cond winter 0xc0180 0)
unfolding bits_below sum_below within
by_season true true e = absurd (true≢false e)
by_season true false e = refl
by_season false true e = refl
by_season false false e = refl

pub period_bits : (m : ℕ) → hour_bits (peak_period m) ≡ cond (within 6 8 m) 0x7c000 (cond (within 1 2 m) 0xc0180 0)
unfolding peak_period summer_peak winter_peak within
period_bits m = by_season (within 6 8 m) (within 1 2 m) (grind (arith, nat_tests))

in_day : (m h : ℕ) → (within 1 24 h && peak_period m h) ≡ peak_period m h
unfolding peak_period summer_peak winter_peak within
in_day m h = grind (arith, nat_tests)

pub in_period : (m h : ℕ) {hours : ℕ} {has : Bool} → hours ≡ hour_bits (peak_period m) → has ≡ has_hour hours h → has ≡ peak_period m h
in_period m h period e = e ∙ rw period (hour_is (peak_period m) h ∙ in_day m h)

-- where a test holds, as on a peak day, the hours are those of f, and elsewhere none
by_day : (p : Bool) (f : ℕ → Bool) → hour_bits (λ h. p && f h) ≡ cond p (hour_bits f) 0
unfolding bits_below sum_below
by_day true f = refl
by_day false f = refl

pub day_bits : (y m d : ℕ) → hour_bits (peak_hour y m d) ≡ cond (peak_day y m d) (hour_bits (peak_period m)) 0
unfolding peak_hour
day_bits y m d = by_day (peak_day y m d) (peak_period m)

pub date_bits : (y m d : ℕ) → hour_bits (is_delivery_peak y m d) ≡ cond (is_delivery_date y m d) (hour_bits (peak_hour (calendar_year y m) m d)) 0
unfolding is_delivery_peak
date_bits y m d = by_day (is_delivery_date y m d) (peak_hour (calendar_year y m) m d)

pub no_date_known : (is_delivery_date 0 0 0 ≡ false) × (delivery_day 0 0 0 ≡ 0) × (hour_bits (is_delivery_peak 0 0 0) ≡ 0)
unfolding is_delivery_date delivery_day calendar_year is_date within month_days is_delivery_peak bits_below sum_below
no_date_known = (refl, refl, refl)

peak_in_day : (y m d h : ℕ) → (within 1 24 h && is_delivery_peak y m d h) ≡ is_delivery_peak y m d h
unfolding is_delivery_peak peak_hour
peak_in_day y m d h = go (is_delivery_date y m d) (peak_day (calendar_year y m) m d) (within 1 24 h) (peak_period m h) (in_day m h)
  where
    go : (a b t p : Bool) → (t && p) ≡ p → (t && (a && (b && p))) ≡ (a && (b && p))
    go a b true p e = refl
    go true true false p e = e
    go true false false p e = refl
    go false b false p e = refl

pub is_peak_known : (y m d h : ℕ) {hours : ℕ} {has : Bool} → hours ≡ hour_bits (is_delivery_peak y m d) → has ≡ has_hour hours h → has ≡ is_delivery_peak y m d h
is_peak_known y m d h known e = e ∙ rw known (hour_is (is_delivery_peak y m d) h ∙ peak_in_day y m d h)

-- the hours that are in both of two sets of hours
pub has_both : (a b h : ℕ) → has_hour (bit_and a b) h ≡ (has_hour a h && has_hour b h)
has_both a b h = go (within 1 24 h)
  where
    bits : (x y : ℕ) → x < 2 → y < 2 → eqb (min x y) 1 ≡ (eqb x 1 && eqb y 1)
    bits x y p q = grind (arith, nat_tests)

    go : (t : Bool) → (t && eqb (bit_at (bit_and a b) (h - 1)) 1) ≡ ((t && eqb (bit_at a (h - 1)) 1) && (t && eqb (bit_at b (h - 1)) 1))
    go true = rw (bit_at_and a b (h - 1)) (bits (bit_at a (h - 1)) (bit_at b (h - 1)) (omega arith) (omega arith))
    go false = refl

pub none_counted : hour_count 0 ≡ 0
unfolding sum_below within
none_counted = refl
