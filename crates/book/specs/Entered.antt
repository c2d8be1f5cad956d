-- What a string is answered with, and the book after it. 01, Records, Places of refusal, Hours and Area money; 02, Items 2 and 3.
use Rattle.std.specs.Prelude.{cond, List, [], ◌∷◌, ℕ, zero, suc, ◌+◌, pos, eqb, get_or, set, Result, Ok, Err}
use Rattle.numbers.specs.Lists.{list_below}
use Rattle.calendar.specs.Peak.{day_hours}
use Rattle.money.specs.declared.Cents.{Cents}
use Rattle.money.specs.Quantities.{cents}
use Rattle.money.specs.Lines.{line}
use Rattle.records.specs.declared.format.UnitRecord.{UnitRecord}
use Rattle.records.specs.declared.format.HourRecord.{HourRecord}
use Rattle.records.specs.declared.format.LoadRecord.{LoadRecord}
use Rattle.records.specs.declared.format.OwnerRecord.{OwnerRecord}
use Rattle.records.specs.declared.format.DayRecord.{DayRecord}
use Rattle.records.specs.Format.{party_count}
use Rattle.records.specs.Decoded.{decoded}
use Rattle.records.specs.Kinds.{Decoded, of_year, of_area, of_unit, of_commitment, of_hour, of_load, of_post, of_owner, of_day}
use Rattle.rules.specs.Hours.{hour_index, counted}
use Rattle.rules.specs.Days.{day_hour}
use Rattle.rules.specs.Facts.{no_hours}
use Rattle.rules.specs.Dues.{due_in}
use Rattle.rules.specs.declared.refusal.Refusal.{Refusal}
use Rattle.rules.specs.Refusal.{number_of}
use Rattle.rules.specs.Rules.{area_index, unit_index, number_index, party_index, refusal}
use Rattle.book.specs.declared.UnitEntry.{UnitEntry}
use Rattle.book.specs.Books.{Book, facts_of_book, empty_book, Sound, no_entry, no_obligations, posted_in}

-- a unit as it is entered, without owner and hours
abbrev pub new_unit : UnitRecord → UnitEntry
new_unit r = record { entry = r; owner = 0; hours = no_hours; last = 0 }

-- a unit with one accepted Hour record more; an hour that isn't peak only moves the last hour
abbrev pub with_hour : ℕ → UnitEntry → HourRecord → UnitEntry
with_hour y u h = record { entry = u.entry; owner = u.owner; hours = counted y u.hours h; last = hour_index y h }

-- 02, Item 3: a unit with the first n hours of a Day more, "hours 1 to 24 in turn",
unfoldable pub with_hours : ℕ → UnitEntry → DayRecord → ℕ → UnitEntry
with_hours y u d zero = u
with_hours y u d (suc n) = with_hour y (with_hours y u d n) (day_hour d (n + 1))

-- and with all of them
abbrev pub with_day : ℕ → UnitEntry → DayRecord → UnitEntry
with_day y u d = with_hours y u d day_hours

-- 02, Item 2: a unit with an owner; a later one replaces
abbrev pub with_owner : UnitEntry → OwnerRecord → UnitEntry
with_owner u o = record { entry = u.entry; owner = o.party; hours = u.hours; last = u.last }

-- posted sums after a post of area a: each party's lines there now add up to its due
unfoldable pub posted_after : Book → ℕ → List (List Cents)
posted_after b a = set b.posted a (list_below party_count (λ p. cents (due_in (facts_of_book b) a p)))

-- obligations after a Load
abbrev pub obligations_after : Book → LoadRecord → List (List ℕ)
obligations_after b l =
    set b.obligations (area_index l.area) (set (get_or b.obligations (area_index l.area) no_obligations) (party_index l.party) l.obligation)

-- the units after an accepted record: a new one, or one with an hour or a day more or an owner
abbrev pub units_after : Book → Decoded → List UnitEntry
units_after b r =
    of_unit
    (of_hour
    (of_owner
    (of_day b.units (λ d. set b.units (unit_index d.unit) (with_day b.year (get_or b.units (unit_index d.unit) no_entry) d)) r)
    (λ o. set b.units (unit_index o.unit) (with_owner (get_or b.units (unit_index o.unit) no_entry) o)) r)
    (λ h. set b.units (unit_index h.unit) (with_hour b.year (get_or b.units (unit_index h.unit) no_entry) h)) r)
    (λ u. set b.units (unit_index u.unit) (new_unit u))
    r

-- the book after an accepted record, field by field; rows 1 to 3 accept no fault
abbrev pub after : Book → Decoded → Book
after b r = record {
  year = of_year b.year (λ y. y) r;
  areas = of_area b.areas (λ a. set b.areas (area_index a.area) a) r;
  units = units_after b r;
  commitments = of_commitment b.commitments (λ c. set b.commitments (number_index c.number) c) r;
  obligations = of_load b.obligations (obligations_after b) r;
  posted = of_post b.posted (λ a. posted_after b (area_index a)) r;
}

-- sixteen zero lines
abbrev pub no_lines : List Cents
no_lines = list_below party_count (λ p. cents (pos 0))

-- the lines of a post of area a: each the due less the party's earlier lines there
unfoldable pub post_lines : Book → ℕ → List Cents
post_lines b a = list_below party_count (λ p. cents (line (due_in (facts_of_book b) a p) (posted_in b.posted a p)))

-- only a Post has lines other than zero
abbrev pub lines_of : Book → Decoded → List Cents
lines_of b r = of_post no_lines (λ a. post_lines b (area_index a)) r

-- what a record is answered with: the number of its refusal or 0, the sixteen lines, and the book after it
pub record Answer : Type 0 where
  pub number : ℕ
  pub lines : List Cents
  pub book : Book

abbrev pub answer : ℕ → List Cents → Book → Answer
answer number lines book = record { number = number; lines = lines; book = book }

-- the answer that a result and the book after it are: a refusal has sixteen zero lines
abbrev pub lines_given : Result (List Cents) Refusal → List Cents
lines_given (Ok lines) = lines
lines_given (Err row) = no_lines

abbrev pub answered : Result (List Cents) Refusal → Book → Answer
answered result book = answer (number_of result) (lines_given result) book

-- A string's answer: the number of its refusal with sixteen zero lines and the same book; where no row fits, 0, the lines of
-- its kind, and the book after it.
unfoldable pub entered : Book → List ℕ → Answer
entered b s =
    cond (eqb (refusal (facts_of_book b) s) 0) (answer 0 (lines_of b (decoded s)) (after b (decoded s))) (answer (refusal (facts_of_book b) s) no_lines b)

-- the book after a list of strings, each entered in turn: that of the last answer
abbrev pub book_after : Book → List (List ℕ) → Book
book_after b [] = b
book_after b (s ∷ ss) = book_after (entered b s).book ss

-- every list of strings from the empty book leads to a sound one
abbrev pub EveryBook : Type 0
EveryBook = (ss : List (List ℕ)) → Sound (book_after empty_book ss)
