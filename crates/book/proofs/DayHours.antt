-- A unit with a Day's hours more, hour by hour.
use Rattle.std.proofs.Common.{◌≡◌, refl, sym, ap, ◌∙◌, false, ℕ, zero, suc, ◌+◌, ◌<◌, arith, add-zero, leb, Ok}
use Rattle.std.proofs.lemmas.Bool.{lt-leb}
use Rattle.numbers.specs.Sum.{sum_below}
use Rattle.numbers.proofs.Tests.{within_holds}
use Rattle.capacity.specs.declared.rating.HourCounts.{HourCounts}
use Rattle.records.specs.declared.format.DayRecord.{DayRecord}
use Rattle.records.specs.declared.format.AreaRecord.{AreaRecord}
use Rattle.records.specs.declared.format.Record.TheVariants.{Hour, Day}
use Rattle.rules.specs.declared.refusal.Asked.{Asked}
use Rattle.rules.specs.Hours.{hour_index, counted, service_hour}
use Rattle.rules.specs.Days.{day_hour, day_service}
use Rattle.rules.specs.Refusal.{refusal_of}
use Rattle.rules.specs.Rules.{asked_of}
use Rattle.rules.proofs.DayHours.{no_outage, no_derated}
use Rattle.rules.proofs.DayRows.{hour_passes}
use Rattle.rules.proofs.AcceptedRows.{Accepted}
use Rattle.book.specs.declared.UnitEntry.{UnitEntry}
use Rattle.book.specs.Entered.{with_hour, with_hours, with_day}

module _ (y : ℕ) (u : UnitEntry) (d : DayRecord) where
  abbrev counts : ℕ → HourCounts
  counts service = record { service = service; outage = u.hours.outage; derated = u.hours.derated }

  abbrev unit_after : ℕ → ℕ → UnitEntry
  unit_after service last = record { entry = u.entry; owner = u.owner; hours = counts service; last = last }

  -- a Day's hour adds to SH alone
  hour_added : (service last h : ℕ) → with_hour y (unit_after service last) (day_hour d h) ≡ unit_after (service + service_hour y (day_hour d h)) (hour_index y (day_hour d h))
  unfolding counted
  hour_added service last h = rw (no_outage y d h, no_derated y d h, add-zero u.hours.outage, add-zero u.hours.derated)

  abbrev service_to : ℕ → ℕ
  service_to n = sum_below n (λ k. service_hour y (day_hour d (k + 1)))

  hours_added : (n : ℕ) → with_hours y u d (suc n) ≡ unit_after (u.hours.service + service_to (suc n)) (hour_index y (day_hour d (n + 1)))
  unfolding with_hours sum_below
  hours_added zero =
      let first : u.hours.service + service_hour y (day_hour d 1) ≡ u.hours.service + (0 + service_hour y (day_hour d 1)) = omega arith in
      hour_added u.hours.service u.last 1 ∙ ap (λ s. unit_after s (hour_index y (day_hour d 1))) first
  hours_added (suc n) =
      let h : ℕ = suc n + 1 in
      let more : u.hours.service + service_to (suc n) + service_hour y (day_hour d h) ≡ u.hours.service + (service_to (suc n) + service_hour y (day_hour d h)) = omega arith in
      ap (λ (v : UnitEntry). with_hour y v (day_hour d h)) (hours_added n) ∙ hour_added (u.hours.service + service_to (suc n)) (hour_index y (day_hour d (n + 1))) h
      ∙ ap (λ s. unit_after s (hour_index y (day_hour d h))) more

  pub day_added : {service last : ℕ} → service ≡ day_service y d → last ≡ hour_index y (day_hour d 24)
      → unit_after (u.hours.service + service) last ≡ with_day y u d
  day_added s e = rw (s, e) (sym (hours_added 23))

  pub kept_entry : (n : ℕ) → (with_hours y u d n).entry ≡ u.entry
  unfolding with_hours
  kept_entry zero = refl
  kept_entry (suc n) = kept_entry n

  -- an hour comes after the hours before it
  pub comes_later : (n : ℕ) → leb (hour_index y (day_hour d 1)) u.last ≡ false → leb (hour_index y (day_hour d (n + 1))) (with_hours y u d n).last ≡ false
  unfolding with_hours hour_index
  comes_later zero e = e
  comes_later (suc n) e = lt-leb _ _ (omega arith)

  -- where no row fits the Day, none fits its next hour, after those before it
  pub hour_admitted : (area : AreaRecord) → Accepted (asked_of y area u.entry u.last false) (Ok (Day d)) → (n : ℕ) → n < 24
      → refusal_of (asked_of y area u.entry (with_hours y u d n).last false) (Ok (Hour (day_hour d (n + 1)))) ≡ 0
  hour_admitted area ok n less =
      let day : Asked = asked_of y area u.entry u.last false in
      let now : Asked = asked_of y area u.entry (with_hours y u d n).last false in
      hour_passes d day now refl refl ok (n + 1) (within_holds 1 24 (n + 1) (omega arith) (omega arith)) (comes_later n ok.later)
