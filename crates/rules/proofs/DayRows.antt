-- The rows of refusal of a Day are those of each of its hours, of which row 10 alone goes by the hour.
use Rattle.std.proofs.Common.{◌≡◌, refl, sym, ◌∙◌, Bool, true, false, true≢false, cond, not, ◌&&◌, ℕ, eqb, leb, Ok}
use Rattle.numbers.specs.Range.{within}
use Rattle.calendar.specs.Peak.{has_hour}
use Rattle.calendar.specs.DeliveryYear.{is_delivery_date}
use Rattle.records.specs.declared.format.DayRecord.{DayRecord}
use Rattle.records.specs.declared.format.Record.TheVariants.{Hour, Day}
use Rattle.records.specs.Format.{unit_count}
use Rattle.rules.specs.declared.refusal.Asked.{Asked}
use Rattle.rules.specs.Hours.{derated, hour_index}
use Rattle.rules.specs.Days.{marked_kind, day_hour}
use Rattle.rules.specs.Refusal.{in_range, numbers_fit, hour_fits, derating_fits, refusal_of, row}
use Rattle.rules.proofs.AcceptedRows.{Accepted}

module _ (a : Asked) (d : DayRecord) where
  -- row 6
  abbrev day_fits : Bool
  day_fits = within 1 unit_count d.unit && is_delivery_date a.year d.month d.day

  day_in_range : in_range a.year (Ok (Day d)) ≡ day_fits
  unfolding in_range numbers_fit
  day_in_range = go (within 1 unit_count d.unit)
    where
      go : (w : Bool) → ((w && (true && (true && (true && true)))) && is_delivery_date a.year d.month d.day) ≡ (w && is_delivery_date a.year d.month d.day)
      go true = refl
      go false = refl

  hour_in_range : (h : ℕ) → within 1 24 h ≡ true → in_range a.year (Ok (Hour (day_hour d h))) ≡ day_fits
  unfolding in_range numbers_fit hour_fits derating_fits within
  hour_in_range h inside = go (within 1 unit_count d.unit) (within 1 24 h) (is_delivery_date a.year d.month d.day) (has_hour d.marks h) inside
    where
      go : (w i dt t : Bool) → i ≡ true
          → ((w && (true && (true && (i && (within 0 5 (marked_kind t) && (true && true)))))) && (dt && cond (eqb (marked_kind t) 1) false true)) ≡ (w && dt)
      go true true true true e = refl
      go true true true false e = refl
      go true true false true e = refl
      go true true false false e = refl
      go true false dt t e = absurd (true≢false (sym e))
      go false i dt t e = refl

  -- the rows, of which row 10 fits an hour that is not later
  abbrev rows : Bool → ℕ
  rows not_later = row 4 (eqb a.year 0 && true) (row 5 (not (eqb a.year 0) && false) (row 6 (not day_fits) (row 7 (not a.unit) (row 10 not_later 0))))

  day_rows : refusal_of a (Ok (Day d)) ≡ rows (leb (hour_index a.year (day_hour d 1)) a.last)
  unfolding refusal_of
  day_rows = rw day_in_range refl

  pub hour_rows : (h : ℕ) → within 1 24 h ≡ true → refusal_of a (Ok (Hour (day_hour d h))) ≡ rows (leb (hour_index a.year (day_hour d h)) a.last)
  unfolding refusal_of
  hour_rows h inside = rw (hour_in_range h inside, not_out (has_hour d.marks h)) refl
    where
      not_out : (t : Bool) → (eqb (marked_kind t) derated && leb a.installed.0 0) ≡ false
      not_out true = refl
      not_out false = refl

  -- a Day's are its first hour's
  pub day_row : refusal_of a (Ok (Hour (day_hour d 1))) ≡ refusal_of a (Ok (Day d))
  unfolding within
  day_row = hour_rows 1 refl ∙ sym day_rows

-- Of an accepted Day each hour passes, once it is later than the unit's last: what else the rows ask of it is the same.
pub hour_passes : (d : DayRecord) (a b : Asked) → b.year ≡ a.year → b.unit ≡ a.unit → Accepted a (Ok (Day d))
    → (h : ℕ) → within 1 24 h ≡ true → leb (hour_index b.year (day_hour d h)) b.last ≡ false → refusal_of b (Ok (Hour (day_hour d h))) ≡ 0
hour_passes d a b year unit ok h inside later =
    hour_rows b d h inside ∙ rw (later, year, unit, ok.has_year, ok.first_year, sym (day_in_range a d) ∙ ok.in_range_lem, ok.entered)
