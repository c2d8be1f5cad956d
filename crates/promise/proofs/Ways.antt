-- The example that is sent in two ways.
use Rattle.std.proofs.Common.{Ok, ◌≡◌, refl, sym, ap, ◌∙◌, Bool, true, false, cond, ◌&&◌, List, [], ◌∷◌, ◌++◌, ℕ, ◌+◌, ◌<◌, arith, ℤ, pos, neg_ℤ, eqb}
use Rattle.std.proofs.Common.{eqb-true}
use Rattle.numbers.specs.Sum.{sum_below}
use Rattle.numbers.specs.Range.{within}
use Rattle.numbers.specs.Lists.{list_below, element}
use Rattle.numbers.specs.Signed.{above, below}
use Rattle.numbers.specs.Split.{first_shares, split, with_sign, split_signed}
use Rattle.numbers.proofs.Tests.{both_true}
use Rattle.calendar.specs.Gregorian.{leap_year, month_days, is_date, multiples_below, days_before_year, day_of_year, day_number}
use Rattle.calendar.specs.Week.{weekday}
use Rattle.calendar.specs.Holidays.{day_of_third_monday, third_monday, falls_on, day_before, day_after, kept_on, free_day, work_day, has_june_19}
use Rattle.calendar.specs.Peak.{summer_peak, winter_peak, peak_period, peak_hour}
use Rattle.calendar.specs.DeliveryYear.{delivery_days, calendar_year, is_delivery_date, delivery_day, is_delivery_peak}
use Rattle.capacity.specs.declared.rating.HourCounts.{HourCounts}
use Rattle.capacity.specs.Shortfall.{committed, unforced, peak_rated, available, quarters, limit, limited, unit_shortfall, unit_limit}
use Rattle.capacity.specs.Shortfall.{is_ready, unit_committed, limited_shortfall}
use Rattle.capacity.specs.Shares.{unit_share}
use Rattle.money.specs.AreaMoney.{priced, charge, ceiling, charges, ceilings, credit, left, load_share, due, is_undistributed}
use Rattle.money.specs.Lines.{line}
use Rattle.records.specs.declared.format.CommitmentRecord.{CommitmentRecord}
use Rattle.records.specs.declared.format.HourRecord.{HourRecord}
use Rattle.records.specs.declared.format.Record.TheVariants as records
use Rattle.records.specs.declared.format.Record.TheVariants.{Year, Area, Commitment, Hour, Load, Post}
use Rattle.records.specs.Format.{party_count, number_at}
use Rattle.records.specs.Decoded.{is_broken, of_length, framed, decoded}
use Rattle.records.specs.Kinds.{Decoded}
use Rattle.rules.specs.Refusal.{days_fit, derating_fits, hour_fits, numbers_fit, in_range, refusal_of}
use Rattle.rules.specs.Hours.{hour_index, is_peak, service_hour, outage_hour, derated_watts}
use Rattle.rules.specs.Facts.{Facts, no_area, no_unit, no_commitment}
use Rattle.rules.specs.Rules.{index, asked}
use Rattle.promise.specs.Reckoning.{no_load, year_of, latest_area, unit_of, latest_commitment, latest_load, latest_obligation, latest_owner, accepted_hours, sum_over, last_index, facts_of_list}
use Rattle.promise.specs.Reckoning.{counts_of, reckoned_due, reckoned_paid, reckoned_line}
use Rattle.promise.specs.Standing.{SameStanding}
use Rattle.promise.specs.Figures.{year, area, unit, commitment, load, post, answer, no_lines, of_three, before_loads_answers}
use Rattle.promise.specs.TwoWays.{derated, one_way, another_way, one_way_lines, early_lines, later_lines, TwoWays}
use Rattle.promise.proofs.Runs.{Fed, none_next, accepted_next, refused_next}
use Rattle.promise.proofs.Written.{amount_of, lines_are}
use Rattle.promise.proofs.Example.{area₁, unit₁, unit₂, commitment₁, commitment₂, load₅, load₇, loaded, example, added, obligations, dues_with, number_with}
use Rattle.promise.proofs.AllFigures.{loads_run}

abbrev hour₁ : HourRecord
hour₁ = record { unit = 1; month = 7; day = 6; hour = 15; kind = 1; derating = 450000 }

abbrev small₁ : CommitmentRecord
small₁ = record { number = 1; unit = 1; party = 5; first = 0; last = 364; watts = 1 }

-- the lists before the last Post: one way, and the other way at the early Post and at the last
abbrev first : List Decoded
first = Ok (Hour hour₁) ∷ loaded

abbrev second₂ : List Decoded
second₂ = Ok (Area (area₁ 100)) ∷ Ok (Year 2010) ∷ []

abbrev second₄ : List Decoded
second₄ = Ok (records.Unit unit₁) ∷ Ok (records.Unit unit₂) ∷ second₂

abbrev second₆ : List Decoded
second₆ = Ok (Load load₇) ∷ Ok (Commitment small₁) ∷ second₄

abbrev second₈ : List Decoded
second₈ = Ok (Commitment commitment₂) ∷ Ok (Hour hour₁) ∷ second₆

abbrev early : List Decoded
early = Ok (Commitment commitment₁) ∷ Ok (Load load₅) ∷ second₈

abbrev second : List Decoded
second = Ok (Area (area₁ 9000)) ∷ Ok (Post 1) ∷ early

-- of two tests that do not both pass, either may come first; of two of the same key the first decides
module _ {A : Type 0} (x y z : A) where
  swapped : (s t : Bool) → (s ≡ true → t ≡ true → ⊥) → cond s x (cond t y z) ≡ cond t y (cond s x z)
  swapped true true other = absurd (other refl refl)
  swapped true false other = refl
  swapped false true other = refl
  swapped false false other = refl

  replaced : (t : Bool) → cond t x (cond t y z) ≡ cond t x z
  replaced true = refl
  replaced false = refl

other_key : (j : ℕ) → eqb 1 j ≡ true → eqb 2 j ≡ true → ⊥
other_key j p q = omega (arith, eqb-true 1 j p, eqb-true 2 j q)

units_same : (k : ℕ) → unit_of early k ≡ unit_of first k
unfolding unit_of
units_same k = swapped unit₁ unit₂ no_unit (eqb 1 (k + 1)) (eqb 2 (k + 1)) (other_key (k + 1))

commitments_same : (k : ℕ) → latest_commitment early k ≡ latest_commitment first k
unfolding latest_commitment
commitments_same k =
    swapped commitment₁ commitment₂ (cond (eqb 1 (k + 1)) small₁ no_commitment) (eqb 1 (k + 1)) (eqb 2 (k + 1)) (other_key (k + 1))
    ∙ ap (λ (c : CommitmentRecord). cond (eqb 2 (k + 1)) commitment₂ c) (replaced commitment₁ small₁ no_commitment (eqb 1 (k + 1)))

loads_same : (a p : ℕ) → latest_load early a p ≡ latest_load loaded a p
unfolding latest_load
loads_same a p = swapped load₅ load₇ no_load (eqb 1 (a + 1) && eqb 5 (p + 1)) (eqb 1 (a + 1) && eqb 7 (p + 1)) other
  where
    other : (eqb 1 (a + 1) && eqb 5 (p + 1)) ≡ true → (eqb 1 (a + 1) && eqb 7 (p + 1)) ≡ true → ⊥
    other q r = omega (arith, eqb-true 5 (p + 1) (both_true {a = eqb 1 (a + 1)} q).1, eqb-true 7 (p + 1) (both_true {a = eqb 1 (a + 1)} r).1)

areas_same : (k : ℕ) → latest_area second k ≡ latest_area first k
unfolding latest_area
areas_same k = replaced (area₁ 9000) (area₁ 100) no_area (eqb 1 (k + 1))

-- the facts with the hour
abbrev hours : ℕ → List HourRecord
hours u = cond (eqb 1 (u + 1)) (hour₁ ∷ []) []

abbrev counts : ℕ → HourCounts
counts u = counts_of 2010 (hours u)

abbrev last : ℕ → ℕ
last u = last_index 2010 (hours u)

abbrev with_hour : ℕ → Facts
with_hour price = example price (latest_obligation loaded) counts last

facts_first : facts_of_list first ≡ with_hour 9000
unfolding facts_of_list year_of latest_area unit_of latest_commitment latest_load latest_owner accepted_hours
facts_first = refl

facts_early : facts_of_list early ≡ with_hour 100
unfolding facts_of_list year_of latest_area unit_of latest_commitment latest_load latest_owner accepted_hours
facts_early = λ i. record {
  year = 2010;
  area = latest_area early;
  unit = λ k. units_same k i;
  commitment = λ k. commitments_same k i;
  obligation = λ a p. (loads_same a p i).obligation;
  owner = λ u. 0;
  hours = counts;
  last = last;
}

-- the area's record is replaced; the rest is as it was at the early Post
facts_second : facts_of_list second ≡ with_hour 9000
unfolding facts_of_list year_of latest_area unit_of latest_commitment latest_load latest_owner accepted_hours
facts_second = λ i. record {
  year = 2010;
  area = λ k. areas_same k i;
  unit = (facts_early i).unit;
  commitment = (facts_early i).commitment;
  obligation = (facts_early i).obligation;
  owner = λ u. 0;
  hours = counts;
  last = last;
}

abbrev nets : List ℤ
nets = of_three (pos 225000) (neg_ℤ (pos 100000)) (pos 0)

nets_listed : (price : ℕ) → list_below party_count (added price (latest_obligation loaded) counts last) ≡ nets
unfolding sum_below within leap_year month_days is_date multiples_below days_before_year day_of_year day_number weekday day_of_third_monday third_monday falls_on day_before
    day_after kept_on free_day work_day has_june_19 summer_peak winter_peak peak_period peak_hour calendar_year is_delivery_date is_delivery_peak sum_over is_peak service_hour outage_hour derated_watts
    list_below unit_share unit_committed is_ready limited_shortfall unit_limit unit_shortfall limited limit quarters available unforced peak_rated committed
    split_signed with_sign split first_shares
nets_listed price = refl

-- dues and row 11 at a price
abbrev dues_at : ℕ → List ℤ
dues_at price = list_below party_count (due (amount_of nets) price 365 (element obligations))

abbrev undistributed_at : ℕ → Bool
undistributed_at price = is_undistributed (amount_of nets) price 365 (element obligations)

money : (dues_at 9000 ≡ one_way_lines) × (undistributed_at 9000 ≡ false) × (dues_at 100 ≡ early_lines) × (undistributed_at 100 ≡ false)
unfolding list_below sum_below above below priced charge ceiling charges ceilings credit left load_share due is_undistributed split first_shares
money = (refl, refl, refl, refl)

module _ (acc : List Decoded) (price : ℕ) (f : facts_of_list acc ≡ with_hour price) where
  dues_of : {dues : List ℤ} → dues_at price ≡ dues → (p : ℕ) → p < party_count → reckoned_due acc 0 p ≡ amount_of dues p
  dues_of = dues_with acc price counts last f nets (nets_listed price)

  number_of : undistributed_at price ≡ false → refusal_of (asked (facts_of_list acc) (Ok (Post 1))) (Ok (Post 1)) ≡ 0
  number_of = number_with acc price counts last f nets (nets_listed price)

lines_first : list_below party_count (reckoned_line first 0) ≡ one_way_lines
unfolding list_below reckoned_paid line
lines_first = lines_are first one_way_lines (λ p. pos 0) (dues_of first 9000 facts_first money.0) (λ p h. refl) ∙ refl

lines_early : list_below party_count (reckoned_line early 0) ≡ early_lines
unfolding list_below reckoned_paid line
lines_early = lines_are early early_lines (λ p. pos 0) (dues_of early 100 facts_early money.2) (λ p h. refl) ∙ refl

lines_second : list_below party_count (reckoned_line second 0) ≡ later_lines
unfolding list_below reckoned_paid line
lines_second =
    lines_are second one_way_lines (amount_of early_lines) (dues_of second 9000 facts_second money.0) (dues_of early 100 facts_early money.2) ∙ refl

one_fed : Fed [] one_way (before_loads_answers ++ (answer 0 no_lines ∷ answer 0 no_lines ∷ answer 0 no_lines ∷ answer 0 one_way_lines ∷ [])) (Ok (Post 1) ∷ first)
unfolding number_at is_broken of_length framed decoded within index derating_fits hour_fits numbers_fit in_range refusal_of list_below leap_year month_days is_date
    calendar_year is_delivery_date delivery_day hour_index multiples_below days_before_year day_of_year day_number sum_below
    year_of latest_area unit_of accepted_hours last_index facts_of_list
one_fed =
    loads_run _
    (accepted_next derated (Ok (Hour hour₁)) loaded _ refl refl refl
    (accepted_next (post 1) (Ok (Post 1)) first [] refl (number_of first 9000 facts_first money.1) lines_first (none_next (Ok (Post 1) ∷ first))))

another_fed : Fed [] another_way
    (before_loads_answers ++ (answer 0 no_lines ∷ answer 0 no_lines ∷ answer 10 no_lines ∷ answer 0 no_lines ∷ answer 0 no_lines ∷ answer 0 early_lines
    ∷ answer 0 no_lines ∷ answer 0 later_lines ∷ []))
    (Ok (Post 1) ∷ second)
unfolding number_at is_broken of_length framed decoded within index days_fit derating_fits hour_fits numbers_fit in_range refusal_of list_below
    leap_year month_days is_date delivery_days calendar_year is_delivery_date delivery_day hour_index multiples_below days_before_year day_of_year day_number sum_below
    year_of latest_area unit_of accepted_hours last_index facts_of_list
another_fed =
    accepted_next (year 2010) (Ok (Year 2010)) [] _ refl refl refl
    (accepted_next (area 1 100) (Ok (Area (area₁ 100))) (Ok (Year 2010) ∷ []) _ refl refl refl
    (accepted_next (unit 2 1 1000000 0 10000 0 0) (Ok (records.Unit unit₂)) second₂ _ refl refl refl
    (accepted_next (unit 1 1 4500000 30000 5000 15000 0) (Ok (records.Unit unit₁)) (Ok (records.Unit unit₂) ∷ second₂) _ refl refl refl
    (accepted_next (commitment 1 1 5 0 364 1) (Ok (Commitment small₁)) second₄ _ refl refl refl
    (accepted_next (load 1 7 600000) (Ok (Load load₇)) (Ok (Commitment small₁) ∷ second₄) _ refl refl refl
    (accepted_next derated (Ok (Hour hour₁)) second₆ _ refl refl refl
    (accepted_next (commitment 2 2 6 0 364 1000000) (Ok (Commitment commitment₂)) (Ok (Hour hour₁) ∷ second₆) _ refl refl refl
    (refused_next derated (Ok (Hour hour₁)) second₈ _ 10 refl refl refl
    (accepted_next (load 1 5 500000) (Ok (Load load₅)) second₈ _ refl refl refl
    (accepted_next (commitment 1 1 5 0 364 4000000) (Ok (Commitment commitment₁)) (Ok (Load load₅) ∷ second₈) _ refl refl refl
    (accepted_next (post 1) (Ok (Post 1)) early _ refl (number_of early 100 facts_early money.3) lines_early
    (accepted_next (area 1 9000) (Ok (Area (area₁ 9000))) (Ok (Post 1) ∷ early) _ refl refl refl
    (accepted_next (post 1) (Ok (Post 1)) second [] refl (number_of second 9000 facts_second money.1) lines_second (none_next (Ok (Post 1) ∷ second)))))))))))))))

standing : SameStanding (Ok (Post 1) ∷ first) (Ok (Post 1) ∷ second)
unfolding year_of unit_of latest_area latest_commitment latest_load latest_owner accepted_hours
standing =
    record {
      year = refl;
      units = λ k. sym (units_same k);
      areas = λ k. sym (areas_same k);
      commitments = λ k. sym (commitments_same k);
      loads = λ a p. sym (loads_same a p);
      owners = λ k. refl;
      hours = λ u h. (λ m. m, λ m. m);
    }

pub two_ways : TwoWays
two_ways = record { one = one_fed.answers_are; another = another_fed.answers_are; same_standing = rw (one_fed.list_is, another_fed.list_is) standing }
