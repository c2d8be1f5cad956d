-- Places of refusal. 01, the section of that name: checked from the top; the first that fits is given.
use Rattle.std.specs.Prelude.{◌≡◌, Bool, true, false, cond, not, ◌&&◌, ◌||◌, [], ◌∷◌, ℕ, eqb, ltb, leb, Result, Ok, Err}
use Rattle.numbers.specs.Lists.{element}
use Rattle.calendar.specs.DeliveryYear.{delivery_days, is_delivery_date}
use Rattle.records.specs.declared.format.CommitmentRecord.{CommitmentRecord}
use Rattle.records.specs.declared.format.HourRecord.{HourRecord}
use Rattle.records.specs.declared.format.Fault.{Fault}
use Rattle.records.specs.Format.{fields_fit, year_format, unit_format, commitment_format, hour_format, load_format, post_format, owner_format, day_format}
use Rattle.records.specs.Kinds.{Decoded, fault_number, format_of, tag_of_record, numbers_of, is_of, is_one_of, of_unit, of_commitment, of_hour, of_post, of_day}
use Rattle.rules.specs.declared.refusal.Asked.{Asked}
use Rattle.rules.specs.declared.refusal.Refusal.{Refusal}
use Rattle.rules.specs.declared.refusal.Refusal.TheVariants.{Broken, UnknownTag, WrongLength, NoYear, SecondYear, OutOfRange, NotEntered, SecondUnit, DeratedOut, NotLater, Undistributed}
use Rattle.rules.specs.Hours.{derated, hour_index}
use Rattle.rules.specs.Days.{day_hour}

-- the number of each row
abbrev pub row_number : Refusal → ℕ
row_number Broken = 1
row_number UnknownTag = 2
row_number WrongLength = 3
row_number NoYear = 4
row_number SecondYear = 5
row_number OutOfRange = 6
row_number NotEntered = 7
row_number SecondUnit = 8
row_number DeratedOut = 9
row_number NotLater = 10
row_number Undistributed = 11

-- and of an answer: 0 where no row fits
abbrev pub number_of : {A : Type 0} → Result A Refusal → ℕ
number_of (Ok a) = 0
number_of (Err f) = row_number f

-- the row of a fault
abbrev pub IsRow : Fault → Refusal → Type 0
IsRow f r = row_number r ≡ fault_number f

-- rows 1, 2 and 3: what the frame refuses; it has no listed tag, and its one number is its row's
abbrev pub has_fault : ℕ → Decoded → Bool
has_fault n r = eqb (tag_of_record r) 0 && eqb (element (numbers_of r) 0) n

-- 01, Records, Commitment: first ≤ last < days
unfoldable pub days_fit : ℕ → CommitmentRecord → Bool
days_fit y c = leb c.first c.last && ltb c.last (delivery_days y)

-- 01, Records: derating is at least 1 for kind 1 and is 0 for other kinds
unfoldable pub derating_fits : HourRecord → Bool
derating_fits h = cond (eqb h.kind derated) (leb 1 h.derating) (eqb h.derating 0)

-- a date in the calendar, of an Hour and (02, Item 3) of a Day: of the delivery year
unfoldable pub hour_fits : ℕ → HourRecord → Bool
hour_fits y h = is_delivery_date y h.month h.day && derating_fits h

-- the rules of whole records; y is the year that was entered
abbrev pub own_rule : ℕ → Decoded → Bool
own_rule y r = of_commitment (of_hour (of_day true (λ d. is_delivery_date y d.month d.day) r) (hour_fits y) r) (days_fit y) r

-- 01, Records: every number in its field's range,
unfoldable pub numbers_fit : Decoded → Bool
numbers_fit r = fields_fit (format_of r).fields (numbers_of r)

-- and the record's own rule
unfoldable pub in_range : ℕ → Decoded → Bool
in_range y r = numbers_fit r && own_rule y r

abbrev pub is_year : Decoded → Bool
is_year r = is_of year_format r

-- row 4: no year yet, tag not 0x01
abbrev pub no_year : Asked → Decoded → Bool
no_year a r = eqb a.year 0 && not (is_year r)

-- row 5: year already entered, tag 0x01
abbrev pub second_year : Asked → Decoded → Bool
second_year a r = not (eqb a.year 0) && is_year r

-- row 6: a number outside its range, or a date not in the calendar
abbrev pub out_of_range : Asked → Decoded → Bool
out_of_range a r = not (in_range a.year r)

-- row 7: not entered: the area of a Unit, Load or Post, or the unit of a Commitment, Hour or (02, Items 2 and 3) Owner or Day.
-- `a.area` and `a.unit` say whether the area and the unit that the record names are entered.
abbrev pub not_entered : Asked → Decoded → Bool
not_entered a r =
    (is_one_of (unit_format ∷ load_format ∷ post_format ∷ []) r && not a.area)
    || (is_one_of (commitment_format ∷ hour_format ∷ owner_format ∷ day_format ∷ []) r && not a.unit)

-- row 8: the unit of a Unit record is already entered
abbrev pub second_unit : Asked → Decoded → Bool
second_unit a r = of_unit false (λ u. a.unit) r

-- row 9: kind 1 and derating ≥ I
abbrev pub derated_out : Asked → Decoded → Bool
derated_out a r = of_hour false (λ h. eqb h.kind derated && leb a.installed.0 h.derating) r

-- row 10: not later, by day of the delivery year and then hour ending, than the unit's last accepted hour; of a Day its first hour,
-- which decides for all 24 (02, Item 3; a law of book's Days)
abbrev pub not_later : Asked → Decoded → Bool
not_later a r = of_hour (of_day false (λ d. leb (hour_index a.year (day_hour d 1)) a.last) r) (λ h. leb (hour_index a.year h) a.last) r

-- row 11: money is left over and the area's obligations add up to 0
abbrev pub undistributed : Asked → Decoded → Bool
undistributed a r = of_post false (λ p. a.undistributed) r

-- a row: its number where it fits, else what the rows after it give
abbrev pub row : ℕ → Bool → ℕ → ℕ
row number here after = cond here number after

-- the eleven rows over what they ask; 0 where none fits
unfoldable pub refusal_of : Asked → Decoded → ℕ
refusal_of a r =
    row 1 (has_fault 1 r)
    (row 2 (has_fault 2 r)
    (row 3 (has_fault 3 r)
    (row 4 (no_year a r)
    (row 5 (second_year a r)
    (row 6 (out_of_range a r)
    (row 7 (not_entered a r)
    (row 8 (second_unit a r)
    (row 9 (derated_out a r)
    (row 10 (not_later a r)
    (row 11 (undistributed a r)
    0))))))))))
