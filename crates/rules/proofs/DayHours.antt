-- What a Day's hours add to SH, FOH and D.
use Rattle.std.proofs.Common.{◌≡◌, refl, sym, Bool, true, false, cond, ◌&&◌, ℕ, ◌+◌, ◌≤◌, arith, eqb, leb, bit_and}
use Rattle.numbers.proofs.Sums.{sum_same, sum_bounded}
use Rattle.calendar.specs.Peak.{hour_bits, has_hour, hour_count}
use Rattle.calendar.specs.DeliveryYear.{is_delivery_peak}
use Rattle.calendar.proofs.PeakHours.{is_peak_known, has_both}
use Rattle.records.specs.declared.format.DayRecord.{DayRecord}
use Rattle.rules.specs.Hours.{derated, excused, forced_out, is_peak, service_hour, outage_hour, derated_watts}
use Rattle.rules.specs.Days.{marked_kind, day_hour, day_service}

module _ (y : ℕ) (d : DayRecord) where
  abbrev peak : ℕ → Bool
  peak h = is_delivery_peak y d.month d.day h

  service_by_mark : (h : ℕ) → service_hour y (day_hour d h) ≡ cond (has_hour d.marks h && peak h) 1 0
  unfolding service_hour is_peak
  service_by_mark h = go (peak h) (has_hour d.marks h)
    where
      go : (p t : Bool) → ◌≡◌ {A = ℕ} (cond (p && leb (marked_kind t) excused) 1 0) (cond (t && p) 1 0)
      go true true = refl
      go true false = refl
      go false true = refl
      go false false = refl

  pub no_outage : (h : ℕ) → outage_hour y (day_hour d h) ≡ 0
  unfolding outage_hour
  no_outage h = go (is_peak y (day_hour d h)) (has_hour d.marks h)
    where
      go : (p t : Bool) → ◌≡◌ {A = ℕ} (cond (p && eqb (marked_kind t) forced_out) 1 0) 0
      go true true = refl
      go true false = refl
      go false t = refl

  pub no_derated : (h : ℕ) → derated_watts y (day_hour d h) ≡ 0
  unfolding derated_watts
  no_derated h = go (is_peak y (day_hour d h)) (has_hour d.marks h)
    where
      go : (p t : Bool) → ◌≡◌ {A = ℕ} (cond (p && eqb (marked_kind t) derated) 0 0) 0
      go true true = refl
      go true false = refl
      go false t = refl

  -- the marks in the peak hours
  pub marks_counted : {peaks : ℕ} → peaks ≡ hour_bits (is_delivery_peak y d.month d.day) → hour_count (bit_and d.marks peaks) ≡ day_service y d
  marks_counted {peaks} known =
      sum_same 24 (λ k. cond (has_hour (bit_and d.marks peaks) (k + 1)) 1 0) (λ k. service_hour y (day_hour d (k + 1))) (λ k h.
      rw (has_both d.marks peaks (k + 1), is_peak_known y d.month d.day (k + 1) known refl) (sym (service_by_mark (k + 1))))

  pub day_service_most : day_service y d ≤ 24
  day_service_most = omega (arith, sum_bounded 24 24 1 (λ k. service_hour y (day_hour d (k + 1))) (omega arith) (λ k. omega (arith, service_by_mark (k + 1), one (has_hour d.marks (k + 1) && peak (k + 1)))))
    where
      one : (t : Bool) → cond t 1 0 ≤ 1
      one true = omega arith
      one false = omega arith
