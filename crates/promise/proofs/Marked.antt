-- The example of Days with marks: the facts that a Day leaves, its nets and its lines.
use Rattle.std.proofs.Common.{Ok, ◌≡◌, refl, sym, ap, ◌∙◌, Bool, true, false, cond, List, [], ◌∷◌, ℕ, zero, suc, ◌+◌, ◌<◌, arith, add-zero, ℤ, pos, neg_ℤ, eqb}
use Rattle.numbers.specs.Sum.{sum_below}
use Rattle.numbers.specs.Range.{within}
use Rattle.numbers.specs.Lists.{list_below, element}
use Rattle.numbers.specs.Signed.{above, below}
use Rattle.numbers.specs.Split.{first_shares, split, with_sign, split_signed}
use Rattle.numbers.proofs.Sums.{sum_same, sum_none}
use Rattle.calendar.specs.Gregorian.{leap_year, month_days, is_date, multiples_below, days_before_year, day_of_year, day_number}
use Rattle.calendar.specs.Week.{weekday}
use Rattle.calendar.specs.Holidays.{day_of_third_monday, third_monday, falls_on, day_before, day_after, kept_on, free_day, work_day, has_june_19}
use Rattle.calendar.specs.Peak.{day_hours, summer_peak, winter_peak, peak_period, peak_hour}
use Rattle.calendar.specs.DeliveryYear.{calendar_year, is_delivery_date, delivery_day, is_delivery_peak}
use Rattle.capacity.specs.declared.rating.HourCounts.{HourCounts}
use Rattle.capacity.specs.Shortfall.{committed, unforced, peak_rated, available, quarters, limit, limited, unit_shortfall, unit_limit}
use Rattle.capacity.specs.Shortfall.{is_ready, unit_committed, limited_shortfall}
use Rattle.capacity.specs.Shares.{unit_share}
use Rattle.money.specs.AreaMoney.{priced, charge, ceiling, charges, ceilings, credit, left, load_share, due, is_undistributed}
use Rattle.money.specs.Lines.{line}
use Rattle.records.specs.declared.format.HourRecord.{HourRecord}
use Rattle.records.specs.declared.format.DayRecord.{DayRecord}
use Rattle.records.specs.declared.format.Record.TheVariants.{Hour, Post, Day}
use Rattle.records.specs.Format.{party_count, number_at}
use Rattle.records.specs.Decoded.{is_broken, of_length, framed, decoded}
use Rattle.records.specs.Kinds.{Decoded}
use Rattle.rules.specs.Refusal.{derating_fits, hour_fits, numbers_fit, in_range, refusal_of}
use Rattle.rules.specs.Hours.{hour_index, is_peak, service_hour, outage_hour, derated_watts}
use Rattle.rules.specs.Days.{day_hour, day_service}
use Rattle.rules.specs.Facts.{Facts, no_hours}
use Rattle.rules.specs.Rules.{index, asked}
use Rattle.rules.proofs.DayHours.{no_outage, no_derated}
use Rattle.promise.specs.Reckoning.{year_of, latest_area, unit_of, latest_commitment, latest_load, latest_obligation, latest_owner, owner_of, accepted_hours, sum_over}
use Rattle.promise.specs.Reckoning.{last_index, facts_of_list, with_day_hours, reckoned_due, reckoned_paid, reckoned_line}
use Rattle.promise.specs.Figures.{hour, post, no_lines, of_three, first_lines}
use Rattle.promise.specs.MarkedDays.{kept_day, beside_peak, one_marked, undone_lines, MarkedDays}
use Rattle.promise.proofs.OneMore.{hours_keep}
use Rattle.promise.proofs.Posts.{post_keeps}
use Rattle.promise.proofs.Runs.{none_next, accepted_next, refused_next}
use Rattle.promise.proofs.Written.{amount_of, lines_are}
use Rattle.promise.proofs.Example.{loaded, example, added, obligations, dues_with, number_with, none, no_last, facts_loaded, nets, nets_listed, dues_found}
use Rattle.promise.proofs.Example.{dues_listed, distributed}
use Rattle.promise.proofs.AllFigures.{loads_run}

-- the facts with a Day more: its unit's SH has grown by the marks of peak hours, and its last hour is the Day's last
abbrev with_day : Facts → DayRecord → Facts
with_day F d = record {
  year = F.year;
  area = F.area;
  unit = F.unit;
  commitment = F.commitment;
  obligation = F.obligation;
  owner = F.owner;
  hours = λ u. record {
    service = (F.hours u).service + cond (eqb d.unit (u + 1)) (day_service F.year d) 0;
    outage = (F.hours u).outage;
    derated = (F.hours u).derated;
  };
  last = λ u. cond (eqb d.unit (u + 1)) (hour_index F.year (day_hour d day_hours)) (F.last u);
}

none_added : (t : Bool) (x : ℕ) → x + cond t 0 0 ≡ x
none_added true x = add-zero x
none_added false x = add-zero x

module _ (acc : List Decoded) (d : DayRecord) where
  year_kept : year_of (with_day_hours acc d day_hours) ≡ year_of acc
  unfolding year_of
  year_kept = hours_keep year_of (λ h l. refl) acc d day_hours

  module _ (u : ℕ) where
    -- over the unit's hours, if it is the Day's, the Day's are summed too
    summed : (f : HourRecord → ℕ) (n : ℕ)
        → sum_over f (accepted_hours (with_day_hours acc d n) u)
        ≡ sum_over f (accepted_hours acc u) + cond (eqb d.unit (u + 1)) (sum_below n (λ k. f (day_hour d (k + 1)))) 0
    unfolding sum_over accepted_hours with_day_hours sum_below
    summed f zero = sym (none_added (eqb d.unit (u + 1)) (sum_over f (accepted_hours acc u)))
    summed f (suc n) = go (eqb d.unit (u + 1)) (summed f n)
      where
        go : (t : Bool)
            → sum_over f (accepted_hours (with_day_hours acc d n) u) ≡ sum_over f (accepted_hours acc u) + cond t (sum_below n (λ k. f (day_hour d (k + 1)))) 0
            → sum_over f (cond t (day_hour d (n + 1) ∷ accepted_hours (with_day_hours acc d n) u) (accepted_hours (with_day_hours acc d n) u))
            ≡ sum_over f (accepted_hours acc u) + cond t (sum_below n (λ k. f (day_hour d (k + 1))) + f (day_hour d (n + 1))) 0
        go true e = omega (arith, e)
        go false e = omega (arith, e)

    -- what is 0 at each hour of a Day is summed as before
    nothing_summed : (f : HourRecord → ℕ) → ((h : ℕ) → f (day_hour d h) ≡ 0)
        → sum_over f (accepted_hours (with_day_hours acc d day_hours) u) ≡ sum_over f (accepted_hours acc u)
    nothing_summed f z =
        summed f day_hours
        ∙ rw (sum_same day_hours (λ k. f (day_hour d (k + 1))) (λ k. 0) (λ k h. z (k + 1)) ∙ sum_none day_hours)
        (none_added (eqb d.unit (u + 1)) (sum_over f (accepted_hours acc u)))

    hours_kept : eqb d.unit (u + 1) ≡ false → (n : ℕ) → accepted_hours (with_day_hours acc d n) u ≡ accepted_hours acc u
    unfolding accepted_hours with_day_hours
    hours_kept q zero = refl
    hours_kept q (suc n) = rw q (hours_kept q n)

    last_moved : (y n : ℕ)
        → last_index y (accepted_hours (with_day_hours acc d (suc n)) u) ≡ cond (eqb d.unit (u + 1)) (hour_index y (day_hour d (n + 1))) (last_index y (accepted_hours acc u))
    unfolding accepted_hours with_day_hours last_index
    last_moved y n = go (eqb d.unit (u + 1)) refl
      where
        go : (t : Bool) → eqb d.unit (u + 1) ≡ t
            → last_index y (cond t (day_hour d (n + 1) ∷ accepted_hours (with_day_hours acc d n) u) (accepted_hours (with_day_hours acc d n) u))
            ≡ cond t (hour_index y (day_hour d (n + 1))) (last_index y (accepted_hours acc u))
        go true q = refl
        go false q = rw (hours_kept q n)

  day_joins : facts_of_list (with_day_hours acc d day_hours) ≡ with_day (facts_of_list acc) d
  unfolding facts_of_list latest_area unit_of latest_commitment latest_load latest_owner
  day_joins = λ i. record {
    year = year_kept i;
    area = λ k. hours_keep (λ l. latest_area l k) (λ h l. refl) acc d day_hours i;
    unit = λ k. hours_keep (λ l. unit_of l k) (λ h l. refl) acc d day_hours i;
    commitment = λ k. hours_keep (λ l. latest_commitment l k) (λ h l. refl) acc d day_hours i;
    obligation = λ a p. hours_keep (λ l. latest_obligation l a p) (λ h l. refl) acc d day_hours i;
    owner = λ u. hours_keep (λ l. owner_of l u) (λ h l. refl) acc d day_hours i;
    hours = λ u. hours_counted u i;
    last = λ u. last_is u i;
  }
    where
      hours_counted : (u : ℕ) → (facts_of_list (with_day_hours acc d day_hours)).hours u ≡ (with_day (facts_of_list acc) d).hours u
      hours_counted u =
          rw (
            year_kept,
            summed u (service_hour (year_of acc)) day_hours,
            nothing_summed u (outage_hour (year_of acc)) (no_outage (year_of acc) d),
            nothing_summed u (derated_watts (year_of acc)) (no_derated (year_of acc) d),
          )

      last_is : (u : ℕ) → (facts_of_list (with_day_hours acc d day_hours)).last u ≡ (with_day (facts_of_list acc) d).last u
      last_is u = rw year_kept (last_moved u (year_of acc) 23)

-- the records of the strings, and the lists as they are accepted
abbrev marked : ℕ → ℕ → DayRecord
marked d marks = record { unit = 1; month = 7; day = d; marks = marks }

abbrev kept_all : DayRecord
kept_all = marked 5 16777215

abbrev beside : DayRecord
beside = marked 6 532480

abbrev one : DayRecord
one = marked 7 262144

abbrev late : HourRecord
late = record { unit = 1; month = 7; day = 7; hour = 24; kind = 0; derating = 0 }

abbrev after_kept : List Decoded
after_kept = with_day_hours loaded kept_all day_hours

abbrev after_beside : List Decoded
after_beside = with_day_hours after_kept beside day_hours

abbrev posted : List Decoded
posted = Ok (Post 1) ∷ after_beside

abbrev after_one : List Decoded
after_one = with_day_hours posted one day_hours

-- their facts
abbrev facts₀ : Facts
facts₀ = example 9000 (latest_obligation loaded) none no_last

abbrev facts₁ : Facts
facts₁ = with_day facts₀ kept_all

abbrev facts₂ : Facts
facts₂ = with_day facts₁ beside

abbrev facts₃ : Facts
facts₃ = with_day facts₂ one

facts_kept : facts_of_list after_kept ≡ facts₁
facts_kept = day_joins loaded kept_all ∙ ap (λ (F : Facts). with_day F kept_all) facts_loaded

facts_beside : facts_of_list after_beside ≡ facts₂
facts_beside = day_joins after_kept beside ∙ ap (λ (F : Facts). with_day F beside) facts_kept

facts_posted : facts_of_list posted ≡ facts₂
facts_posted = post_keeps 1 after_beside ∙ facts_beside

facts_one : facts_of_list after_one ≡ facts₃
facts_one = day_joins posted one ∙ ap (λ (F : Facts). with_day F one) facts_posted

-- what each Day adds to SH
served : (day_service 2010 kept_all ≡ 0) × (day_service 2010 beside ≡ 0) × (day_service 2010 one ≡ 1)
unfolding sum_below within leap_year month_days is_date multiples_below days_before_year day_of_year day_number weekday day_of_third_monday third_monday falls_on day_before
    day_after kept_on free_day work_day has_june_19 summer_peak winter_peak peak_period peak_hour calendar_year is_delivery_date is_delivery_peak is_peak service_hour
served = (refl, refl, refl)

-- hours in service alone
abbrev serving : ℕ → HourCounts
serving n = record { service = n; outage = 0; derated = 0 }

counts_beside : facts₂.hours 0 ≡ no_hours
counts_beside = rw (served.0, served.1)

counts_one : facts₃.hours 0 ≡ serving 1
counts_one = rw (served.0, served.1, served.2)

-- the nets where unit 1 has these hours, and unit 2 has none
module _ (hours : ℕ → HourCounts) (last : ℕ → ℕ) (n : ℕ) (of_first : hours 0 ≡ serving n) (of_second : hours 1 ≡ no_hours) where
  nets_with : {ns : List ℤ} → list_below party_count (added 9000 (latest_obligation loaded) (λ u. cond (eqb 1 (u + 1)) (serving n) no_hours) no_last) ≡ ns
      → list_below party_count (added 9000 (latest_obligation loaded) hours last) ≡ ns
  unfolding list_below
  nets_with e = rw (of_first, of_second) e

nets_beside : list_below party_count (added 9000 (latest_obligation loaded) facts₂.hours facts₂.last) ≡ nets
nets_beside = nets_with facts₂.hours facts₂.last 0 counts_beside refl (nets_listed (latest_obligation loaded))

abbrev nets_found : List ℤ
nets_found = of_three (neg_ℤ (pos 225000)) (neg_ℤ (pos 100000)) (pos 0)

one_listed : list_below party_count (added 9000 (latest_obligation loaded) (λ u. cond (eqb 1 (u + 1)) (serving 1) no_hours) no_last) ≡ nets_found
unfolding list_below sum_below unit_share unit_committed is_ready limited_shortfall unit_limit unit_shortfall limited limit quarters available unforced
    peak_rated committed split_signed with_sign split first_shares
one_listed = refl

nets_one : list_below party_count (added 9000 (latest_obligation loaded) facts₃.hours facts₃.last) ≡ nets_found
nets_one = nets_with facts₃.hours facts₃.last 1 counts_one refl one_listed

money_one : (list_below party_count (due (amount_of nets_found) 9000 365 (element obligations)) ≡ no_lines)
    × (is_undistributed (amount_of nets_found) 9000 365 (element obligations) ≡ false)
unfolding list_below sum_below above below priced charge ceiling charges ceilings credit left load_share due is_undistributed split first_shares
money_one = (refl, refl)

-- the numbers of the Posts, and dues, what was paid before, and lines
number_beside : refusal_of (asked (facts_of_list after_beside) (Ok (Post 1))) (Ok (Post 1)) ≡ 0
number_beside = number_with after_beside 9000 facts₂.hours facts₂.last facts_beside nets nets_beside distributed

number_one : refusal_of (asked (facts_of_list after_one) (Ok (Post 1))) (Ok (Post 1)) ≡ 0
number_one = number_with after_one 9000 facts₃.hours facts₃.last facts_one nets_found nets_one money_one.1

dues_beside : (p : ℕ) → p < party_count → reckoned_due after_beside 0 p ≡ amount_of dues_found p
dues_beside = dues_with after_beside 9000 facts₂.hours facts₂.last facts_beside nets nets_beside dues_listed

dues_one : (p : ℕ) → p < party_count → reckoned_due after_one 0 p ≡ amount_of no_lines p
dues_one = dues_with after_one 9000 facts₃.hours facts₃.last facts_one nets_found nets_one money_one.0

day_pays_none : (acc : List Decoded) (d : DayRecord) (p : ℕ) → reckoned_paid (with_day_hours acc d day_hours) 0 p ≡ reckoned_paid acc 0 p
unfolding reckoned_paid
day_pays_none acc d p = hours_keep (λ l. reckoned_paid l 0 p) (λ h l. refl) acc d day_hours

paid_beside : (p : ℕ) → reckoned_paid after_beside 0 p ≡ pos 0
unfolding reckoned_paid
paid_beside p = day_pays_none after_kept beside p ∙ day_pays_none loaded kept_all p

paid_one : (p : ℕ) → p < party_count → reckoned_paid after_one 0 p ≡ amount_of dues_found p
unfolding reckoned_paid
paid_one p h = day_pays_none posted one p ∙ dues_beside p h

lines_beside : list_below party_count (reckoned_line after_beside 0) ≡ first_lines
unfolding list_below line
lines_beside = lines_are after_beside dues_found (λ p. pos 0) dues_beside (λ p h. paid_beside p) ∙ refl

lines_one : list_below party_count (reckoned_line after_one 0) ≡ undone_lines
unfolding list_below line
lines_one = lines_are after_one no_lines (amount_of dues_found) dues_one paid_one ∙ refl

-- a record's number from the facts of the list
number_by : (acc : List Decoded) (F : Facts) (r : Decoded) {n : ℕ} → facts_of_list acc ≡ F → refusal_of (asked F r) r ≡ n
    → refusal_of (asked (facts_of_list acc) r) r ≡ n
number_by acc F r f e = rw f e

pub marked_given : MarkedDays
unfolding number_at is_broken of_length framed decoded within index derating_fits hour_fits numbers_fit in_range refusal_of list_below
    leap_year month_days is_date calendar_year is_delivery_date delivery_day hour_index multiples_below days_before_year day_of_year day_number sum_below
marked_given = record {
  answered = (
      loads_run _
      (accepted_next kept_day (Ok (Day kept_all)) loaded _ refl (number_by loaded facts₀ (Ok (Day kept_all)) facts_loaded refl) refl
      (accepted_next beside_peak (Ok (Day beside)) after_kept _ refl (number_by after_kept facts₁ (Ok (Day beside)) facts_kept refl) refl
      (accepted_next (post 1) (Ok (Post 1)) after_beside _ refl number_beside lines_beside
      (refused_next beside_peak (Ok (Day beside)) posted _ 10 refl refl (number_by posted facts₂ (Ok (Day beside)) facts_posted refl)
      (accepted_next one_marked (Ok (Day one)) posted _ refl (number_by posted facts₂ (Ok (Day one)) facts_posted refl) refl
      (refused_next (hour 1 7 7 24 0 0) (Ok (Hour late)) after_one _ 10 refl refl (number_by after_one facts₃ (Ok (Hour late)) facts_one refl)
      (accepted_next (post 1) (Ok (Post 1)) after_one [] refl number_one lines_one
      (none_next (Ok (Post 1) ∷ after_one)))))))))).answers_are;
}
