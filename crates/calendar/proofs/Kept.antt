-- A holiday that falls on a Saturday or a Sunday is kept on the day beside it, and only there, over the ends of years too.
use Rattle.std.proofs.Common.{◌≡◌, ◌≢◌, ◌⊎◌, inl, inr, refl, sym, ap, Bool, true, false, cond, ◌&&◌, ◌||◌, ℕ, ◌+◌, ◌-◌, ◌%◌, ◌≤◌, arith, ltb, eqb}
use Rattle.std.proofs.lemmas.Bool.Decides.{nat_tests}
use Rattle.numbers.specs.Range.{within}
use Rattle.calendar.specs.Gregorian.{month_days, days_of_month, is_date, Date, next_date, is_earlier}
use Rattle.calendar.specs.Week.{monday, friday, saturday, sunday, weekday}
use Rattle.calendar.specs.Holidays.{falls_on, day_before, day_after, kept_on, free_day, has_june_19, is_day}
use Rattle.calendar.specs.Laws.{is_date_of, day_number_of, next_of, weekday_of, holiday_falls_on, is_holiday_of, KeptBeside, KeptOnce}
use Rattle.calendar.proofs.Dates.{day_number_steps, next_is_date, day_number_orders}
use Rattle.calendar.proofs.Weeks.{weekday_small, third_monday_is}

pub other_days : (t : Date) → weekday_of t ≢ friday → weekday_of t ≢ monday → is_holiday_of t ≡ holiday_falls_on t
unfolding free_day kept_on
other_days t no_friday no_monday = grind (arith, nat_tests)

-- the next date's weekday is the next
weekday_steps : (t : Date) → is_date_of t ≡ true → weekday_of (next_of t) ≡ (weekday_of t + 1) % 7
unfolding weekday
weekday_steps t e = omega (arith, day_number_steps t.year t.month t.day e)

-- a holiday that has a date falls on day d of month m
abbrev dated : Bool → ℕ → ℕ → Bool
dated june_19 m d = is_day 1 1 m d || is_day 7 4 m d || june_19 && is_day 6 19 m d

-- on a date that is no Monday, and so no third Monday, no other holiday falls
falls_dated : (t : Date) → weekday_of t ≢ monday → holiday_falls_on t ≡ dated (has_june_19 t.year) t.month t.day
unfolding falls_on
falls_dated t h = grind (arith, nat_tests, third_monday_is t.year 1, third_monday_is t.year 2)

-- the days before and after are those of dates
dated_next : (t : Date) → is_date_of t ≡ true → dated (has_june_19 (next_of t).year) (next_of t).month (next_of t).day ≡ day_before (has_june_19 t.year) t.month t.day
unfolding next_date day_before month_days within is_date
dated_next t e = grind (arith, nat_tests)

after_next : (t : Date) → is_date_of t ≡ true → day_after (has_june_19 (next_of t).year) (next_of t).month (next_of t).day ≡ dated (has_june_19 t.year) t.month t.day
unfolding next_date day_after month_days within is_date
after_next t e = grind (arith, nat_tests)

pub friday_before : (t : Date) → is_date_of t ≡ true → weekday_of t ≡ friday → is_holiday_of t ≡ (holiday_falls_on t || holiday_falls_on (next_of t))
unfolding free_day kept_on
friday_before t e on =
    grind (arith, nat_tests, dated_next t e, falls_dated (next_of t) (λ m. absurd (omega (arith, m, on, weekday_steps t e))))

pub monday_after : (t : Date) → is_date_of t ≡ true → weekday_of t ≡ sunday → is_holiday_of (next_of t) ≡ (holiday_falls_on (next_of t) || holiday_falls_on t)
unfolding free_day kept_on
monday_after t e on =
    grind (arith, nat_tests, after_next t e, weekday_steps t e, falls_dated t (λ m. absurd (omega (arith, m, on))))

-- dates with the same number are the same
not_earlier : (s t : Date) → is_date_of s ≡ true → is_date_of t ≡ true → day_number_of s ≡ day_number_of t → is_earlier s t ≡ false
not_earlier s t ds dt e = grind (arith, day_number_orders s t ds dt)

same_fields : (s t : Date) → is_earlier s t ≡ false → is_earlier t s ≡ false → (s.year ≡ t.year) × (s.month ≡ t.month) × (s.day ≡ t.day)
unfolding is_earlier
same_fields s t st ts = grind (arith, nat_tests)

of_fields : {s t : Date} → (s.year ≡ t.year) × (s.month ≡ t.month) × (s.day ≡ t.day) → s ≡ t
of_fields (y, m, d) = λ i. record { year = y i; month = m i; day = d i }

same_date : (s t : Date) → is_date_of s ≡ true → is_date_of t ≡ true → day_number_of s ≡ day_number_of t → s ≡ t
same_date s t ds dt e = of_fields (same_fields s t (not_earlier s t ds dt e) (not_earlier t s dt ds (sym e)))

-- the date before, where there is one
before : Date → Date
before t =
    cond (ltb 1 t.day) (record { year = t.year; month = t.month; day = t.day - 1 })
    (cond (ltb 1 t.month) (record { year = t.year; month = t.month - 1; day = days_of_month t.year (t.month - 1) })
    (record { year = t.year - 1; month = 12; day = 31 }))

before_is_date : (t : Date) → is_date_of t ≡ true → is_date_of (before t) ≡ true
unfolding is_date within before month_days
before_is_date t e = grind (arith, nat_tests)

next_before : (t : Date) → 1 ≤ t.year → is_date_of t ≡ true → next_of (before t) ≡ t
unfolding next_date before is_date within month_days
next_before t y e = of_fields (grind (arith, nat_tests), grind (arith, nat_tests), grind (arith, nat_tests))

kept_before : (t : Date) → 1 ≤ t.year → is_date_of t ≡ true → weekday_of t ≡ saturday → holiday_falls_on t ≡ true → KeptOnce t
kept_before t y e on falls =
    let ds : is_date_of (before t) ≡ true = before_is_date t e in
    let next : next_of (before t) ≡ t = next_before t y e in
    let is_friday : weekday_of (before t) ≡ friday =
    omega (arith, ap weekday_of next, weekday_steps (before t) ds, weekday_small (before t).year (before t).month (before t).day, on) in
    record {
      kept = before t;
      is_kept =
          record {
            is_date = ds;
            beside = inl next;
            weekday = omega (arith, is_friday);
            is_holiday = grind (arith, nat_tests, friday_before (before t) ds is_friday, ap holiday_falls_on next, falls);
          };
      only = λ s k. beside_saturday s k k.beside;
    }
  where
    beside_saturday : (s : Date) → KeptBeside t s → (next_of s ≡ t) ⊎ (next_of t ≡ s) → s ≡ before t
    beside_saturday s k (inl p) =
        same_date s (before t) k.is_date (before_is_date t e) (omega (
          arith,
          ap day_number_of p,
          ap day_number_of (next_before t y e),
          day_number_steps s.year s.month s.day k.is_date,
          day_number_steps (before t).year (before t).month (before t).day (before_is_date t e),
        ))
    beside_saturday s k (inr p) = absurd (omega (arith, k.weekday, ap weekday_of p, weekday_steps t e, on))

kept_after : (t : Date) → is_date_of t ≡ true → weekday_of t ≡ sunday → holiday_falls_on t ≡ true → KeptOnce t
kept_after t e on falls =
    record {
      kept = next_of t;
      is_kept =
          record {
            is_date = next_is_date t.year t.month t.day e;
            beside = inr refl;
            weekday = omega (arith, weekday_steps t e, on);
            is_holiday = grind (arith, nat_tests, monday_after t e on, falls);
          };
      only = λ s k. beside_sunday s k k.beside;
    }
  where
    beside_sunday : (s : Date) → KeptBeside t s → (next_of s ≡ t) ⊎ (next_of t ≡ s) → s ≡ next_of t
    beside_sunday s k (inl p) = absurd (omega (arith, k.weekday, ap weekday_of p, weekday_steps s k.is_date, on))
    beside_sunday s k (inr p) = sym p

pub kept_once : (t : Date) → 1 ≤ t.year → is_date_of t ≡ true → saturday ≤ weekday_of t → holiday_falls_on t ≡ true → KeptOnce t
kept_once t y e weekend falls = go (eqb (weekday_of t) saturday) refl
  where
    go : (b : Bool) → eqb (weekday_of t) saturday ≡ b → KeptOnce t
    go true q = kept_before t y e (grind (arith, nat_tests, q)) falls
    go false q = kept_after t e (grind (arith, nat_tests, q, weekend, weekday_small t.year t.month t.day)) falls
