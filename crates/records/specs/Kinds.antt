-- A record by its format and its numbers, and rules that ask one kind of record only.
use Rattle.std.specs.Prelude.{Bool, false, cond, ◌||◌, List, [], ◌∷◌, ℕ, eqb, Result, Ok, Err}
use Rattle.numbers.specs.Lists.{element}
use Rattle.capacity.specs.declared.rating.Rating.{Rating}
use Rattle.capacity.specs.Quantities.{installed_watts}
use Rattle.records.specs.declared.format.AreaRecord.{AreaRecord}
use Rattle.records.specs.declared.format.UnitRecord.{UnitRecord}
use Rattle.records.specs.declared.format.CommitmentRecord.{CommitmentRecord}
use Rattle.records.specs.declared.format.HourRecord.{HourRecord}
use Rattle.records.specs.declared.format.LoadRecord.{LoadRecord}
use Rattle.records.specs.declared.format.OwnerRecord.{OwnerRecord}
use Rattle.records.specs.declared.format.DayRecord.{DayRecord}
use Rattle.records.specs.declared.format.Fault.{Fault}
use Rattle.records.specs.declared.format.Fault.TheVariants.{Broken, UnknownTag, WrongLength}
use Rattle.records.specs.declared.format.Record.{Record}
use Rattle.records.specs.declared.format.Record.TheVariants as records
use Rattle.records.specs.declared.format.Record.TheVariants.{Year, Area, Commitment, Hour, Load, Post, Owner, Day}
use Rattle.records.specs.Format.{Format, format, year_format, area_format, unit_format, commitment_format, hour_format, load_format, post_format, owner_format, day_format}

-- what a string of bytes is decoded to: the record of its kind, or what the frame refuses it for
abbrev pub Decoded : Type 0
Decoded = Result Record Fault

-- the number of the row of refusal that each fault is
unfoldable pub fault_number : Fault → ℕ
fault_number Broken = 1
fault_number UnknownTag = 2
fault_number WrongLength = 3

-- the format of each kind; what the frame refuses has none, and no listed tag
abbrev pub format_of : Decoded → Format
format_of (Err f) = format 0 0 []
format_of (Ok (Year y)) = year_format
format_of (Ok (Area a)) = area_format
format_of (Ok (records.Unit u)) = unit_format
format_of (Ok (Commitment c)) = commitment_format
format_of (Ok (Hour h)) = hour_format
format_of (Ok (Load l)) = load_format
format_of (Ok (Post p)) = post_format
format_of (Ok (Owner o)) = owner_format
format_of (Ok (Day d)) = day_format

abbrev pub tag_of_record : Decoded → ℕ
tag_of_record r = (format_of r).tag

-- I; e, f, g; class
abbrev pub rating_numbers : Rating → List ℕ
rating_numbers r = r.installed.0 ∷ r.eford ∷ r.eford5 ∷ r.efordyear ∷ r.class ∷ []

-- the numbers of each kind, in the order of its format's fields
abbrev pub numbers_of : Decoded → List ℕ
numbers_of (Err f) = fault_number f ∷ []
numbers_of (Ok (Year y)) = y ∷ []
numbers_of (Ok (Area a)) = a.area ∷ a.price ∷ []
numbers_of (Ok (records.Unit u)) = u.unit ∷ u.area ∷ rating_numbers u.rating
numbers_of (Ok (Commitment c)) = c.number ∷ c.unit ∷ c.party ∷ c.first ∷ c.last ∷ c.watts ∷ []
numbers_of (Ok (Hour h)) = h.unit ∷ h.month ∷ h.day ∷ h.hour ∷ h.kind ∷ h.derating ∷ []
numbers_of (Ok (Load l)) = l.area ∷ l.party ∷ l.obligation ∷ []
numbers_of (Ok (Post p)) = p ∷ []
numbers_of (Ok (Owner o)) = o.unit ∷ o.party ∷ []
numbers_of (Ok (Day d)) = d.unit ∷ d.month ∷ d.day ∷ d.marks ∷ []

-- a record of each kind from its numbers
abbrev pub area_from : List ℕ → AreaRecord
area_from l = record { area = element l 0; price = element l 1 }

abbrev pub unit_from : List ℕ → UnitRecord
unit_from l = record {
  unit = element l 0;
  area = element l 1;
  rating = record { installed = installed_watts (element l 2); eford = element l 3; eford5 = element l 4; efordyear = element l 5; class = element l 6 };
}

abbrev pub commitment_from : List ℕ → CommitmentRecord
commitment_from l = record { number = element l 0; unit = element l 1; party = element l 2; first = element l 3; last = element l 4; watts = element l 5 }

abbrev pub hour_from : List ℕ → HourRecord
hour_from l = record { unit = element l 0; month = element l 1; day = element l 2; hour = element l 3; kind = element l 4; derating = element l 5 }

abbrev pub load_from : List ℕ → LoadRecord
load_from l = record { area = element l 0; party = element l 1; obligation = element l 2 }

abbrev pub owner_from : List ℕ → OwnerRecord
owner_from l = record { unit = element l 0; party = element l 1 }

abbrev pub day_from : List ℕ → DayRecord
day_from l = record { unit = element l 0; month = element l 1; day = element l 2; marks = element l 3 }

-- a record of this format, and of one of these
abbrev pub is_of : Format → Decoded → Bool
is_of f r = eqb (tag_of_record r) f.tag

abbrev pub is_one_of : List Format → Decoded → Bool
is_one_of [] r = false
is_one_of (f ∷ fs) r = is_of f r || is_one_of fs r

-- what `given` makes of the records of one kind, and `other` for all the rest
abbrev pub of_format : {A : Type 0} → Format → A → (List ℕ → A) → Decoded → A
of_format f other given r = cond (is_of f r) (given (numbers_of r)) other

abbrev pub of_year : {A : Type 0} → A → (ℕ → A) → Decoded → A
of_year other given r = of_format year_format other (λ l. given (element l 0)) r

abbrev pub of_area : {A : Type 0} → A → (AreaRecord → A) → Decoded → A
of_area other given r = of_format area_format other (λ l. given (area_from l)) r

abbrev pub of_unit : {A : Type 0} → A → (UnitRecord → A) → Decoded → A
of_unit other given r = of_format unit_format other (λ l. given (unit_from l)) r

abbrev pub of_commitment : {A : Type 0} → A → (CommitmentRecord → A) → Decoded → A
of_commitment other given r = of_format commitment_format other (λ l. given (commitment_from l)) r

abbrev pub of_hour : {A : Type 0} → A → (HourRecord → A) → Decoded → A
of_hour other given r = of_format hour_format other (λ l. given (hour_from l)) r

abbrev pub of_load : {A : Type 0} → A → (LoadRecord → A) → Decoded → A
of_load other given r = of_format load_format other (λ l. given (load_from l)) r

abbrev pub of_post : {A : Type 0} → A → (ℕ → A) → Decoded → A
of_post other given r = of_format post_format other (λ l. given (element l 0)) r

abbrev pub of_owner : {A : Type 0} → A → (OwnerRecord → A) → Decoded → A
of_owner other given r = of_format owner_format other (λ l. given (owner_from l)) r

abbrev pub of_day : {A : Type 0} → A → (DayRecord → A) → Decoded → A
of_day other given r = of_format day_format other (λ l. given (day_from l)) r
