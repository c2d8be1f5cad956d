-- The fresh reckoning. 01, Area money, "Fresh reckoning (demand 3)". It reads the strings and its own list of accepted
-- records, and nothing of any book. The list is newest first: the paper's end of the list is its head here.
-- As an argument, area, unit, commitment and party number k of 01 is k − 1 here, as in rules' Facts.
use Rattle.std.specs.Prelude.{cond, ◌&&◌, List, [], ◌∷◌, ℕ, zero, suc, ◌+◌, ◌-◌, ℤ, pos, eqb, Ok}
use Rattle.numbers.specs.Lists.{list_below}
use Rattle.calendar.specs.Peak.{day_hours}
use Rattle.capacity.specs.declared.rating.HourCounts.{HourCounts}
use Rattle.money.specs.Lines.{line}
use Rattle.records.specs.declared.format.AreaRecord.{AreaRecord}
use Rattle.records.specs.declared.format.UnitRecord.{UnitRecord}
use Rattle.records.specs.declared.format.CommitmentRecord.{CommitmentRecord}
use Rattle.records.specs.declared.format.HourRecord.{HourRecord}
use Rattle.records.specs.declared.format.LoadRecord.{LoadRecord}
use Rattle.records.specs.declared.format.OwnerRecord.{OwnerRecord}
use Rattle.records.specs.declared.format.DayRecord.{DayRecord}
use Rattle.records.specs.declared.format.Record.TheVariants.{Hour}
use Rattle.records.specs.Format.{party_count}
use Rattle.records.specs.Decoded.{decoded}
use Rattle.records.specs.Kinds.{Decoded, of_year, of_area, of_unit, of_commitment, of_hour, of_load, of_post, of_owner, of_day}
use Rattle.rules.specs.Days.{day_hour}
use Rattle.rules.specs.Hours.{hour_index, service_hour, outage_hour, derated_watts}
use Rattle.rules.specs.Facts.{Facts, no_area, no_unit, no_commitment}
use Rattle.rules.specs.Dues.{due_in}
use Rattle.rules.specs.Rules.{refusal}

-- no Load: all zeros, as what is not entered is in rules' Facts
abbrev pub no_load : LoadRecord
no_load = record { area = 0; party = 0; obligation = 0 }

-- and no Owner
abbrev pub no_owner : OwnerRecord
no_owner = record { unit = 0; party = 0 }

-- 01, Records, "Standing facts": the year; 0 before it is entered
unfoldable pub year_of : List Decoded → ℕ
year_of [] = 0
year_of (r ∷ rs) = of_year (year_of rs) (λ y. y) r

-- 01, Records: a later Area with the same key (area) replaces the earlier
unfoldable pub latest_area : List Decoded → ℕ → AreaRecord
latest_area [] k = no_area
latest_area (r ∷ rs) k = of_area (latest_area rs k) (λ a. cond (eqb a.area (k + 1)) a (latest_area rs k)) r

-- 01, Records: each unit is entered once
unfoldable pub unit_of : List Decoded → ℕ → UnitRecord
unit_of [] k = no_unit
unit_of (r ∷ rs) k = of_unit (unit_of rs k) (λ u. cond (eqb u.unit (k + 1)) u (unit_of rs k)) r

-- 01, Records: a later Commitment with the same key (number) replaces the earlier
unfoldable pub latest_commitment : List Decoded → ℕ → CommitmentRecord
latest_commitment [] k = no_commitment
latest_commitment (r ∷ rs) k = of_commitment (latest_commitment rs k) (λ c. cond (eqb c.number (k + 1)) c (latest_commitment rs k)) r

-- 01, Records: a later Load with the same key (area and party) replaces the earlier
unfoldable pub latest_load : List Decoded → ℕ → ℕ → LoadRecord
latest_load [] a p = no_load
latest_load (r ∷ rs) a p =
    of_load (latest_load rs a p) (λ l. cond (eqb l.area (a + 1) && eqb l.party (p + 1)) l (latest_load rs a p)) r

-- its watts; 0 where there is none
abbrev pub latest_obligation : List Decoded → ℕ → ℕ → ℕ
latest_obligation rs a p = (latest_load rs a p).obligation

-- 02, Item 2: a later Owner with the same key (unit) replaces the earlier
unfoldable pub latest_owner : List Decoded → ℕ → OwnerRecord
latest_owner [] u = no_owner
latest_owner (r ∷ rs) u = of_owner (latest_owner rs u) (λ o. cond (eqb o.unit (u + 1)) o (latest_owner rs u)) r

-- its party; 0 where there is none
abbrev pub owner_of : List Decoded → ℕ → ℕ
owner_of rs u = (latest_owner rs u).party

-- 01, Records, "Standing facts": the accepted Hour records of a unit
unfoldable pub accepted_hours : List Decoded → ℕ → List HourRecord
accepted_hours [] u = []
accepted_hours (r ∷ rs) u = of_hour (accepted_hours rs u) (λ h. cond (eqb h.unit (u + 1)) (h ∷ accepted_hours rs u) (accepted_hours rs u)) r

-- 01, Fresh reckoning: counts and a sum over a unit's Hour records in the list, of which f is 0 at those that are not peak; 0
-- where there are none
unfoldable pub sum_over : (HourRecord → ℕ) → List HourRecord → ℕ
sum_over f [] = 0
sum_over f (h ∷ hs) = sum_over f hs + f h

-- 01, Fresh reckoning: SH, FOH and D of a unit's Hour records, in delivery year y
abbrev pub counts_of : ℕ → List HourRecord → HourCounts
counts_of y hs = record { service = sum_over (service_hour y) hs; outage = sum_over (outage_hour y) hs; derated = sum_over (derated_watts y) hs }

-- 01, Fresh reckoning: the unit's last accepted hour, by its index in delivery year y; 0 where there is none
unfoldable pub last_index : ℕ → List HourRecord → ℕ
last_index y [] = 0
last_index y (h ∷ hs) = hour_index y h

-- 01, Fresh reckoning: the standing facts are read from the list, and SH, FOH and D from its peak Hour records, by kind
unfoldable pub facts_of_list : List Decoded → Facts
facts_of_list acc = record {
  year = year_of acc;
  area = latest_area acc;
  unit = unit_of acc;
  commitment = latest_commitment acc;
  obligation = latest_obligation acc;
  owner = owner_of acc;
  hours = λ u. counts_of (year_of acc) (accepted_hours acc u);
  last = λ u. last_index (year_of acc) (accepted_hours acc u);
}

-- 01, Fresh reckoning: each string is tried against the rows of refusal, and all that they ask beyond it is read from the list
abbrev pub number_for : List Decoded → List ℕ → ℕ
number_for acc s = refusal (facts_of_list acc) s

-- 02, Item 3: the first n of the 24 hours of a Day, one after another
unfoldable pub with_day_hours : List Decoded → DayRecord → ℕ → List Decoded
with_day_hours acc d zero = acc
with_day_hours acc d (suc n) = Ok (Hour (day_hour d (n + 1))) ∷ with_day_hours acc d n

-- 01, Fresh reckoning: the record joins the list; 02, Item 3: the 24 hours of a Day "stand in its place"
abbrev pub joined : List Decoded → Decoded → List Decoded
joined acc r = of_day (r ∷ acc) (λ d. with_day_hours acc d day_hours) r

-- 01, Fresh reckoning: if a row fits, the list stays as it is; if none fits, the record joins it
unfoldable pub accepted_with : List Decoded → List ℕ → List Decoded
accepted_with acc s = cond (eqb (number_for acc s) 0) (joined acc (decoded s)) acc

-- 01, Fresh reckoning: a party's due in an area is what the rules give from the standing facts and SH, FOH and D
unfoldable pub reckoned_due : List Decoded → ℕ → ℕ → ℤ
reckoned_due acc a p = due_in (facts_of_list acc) a p

-- 01, Area money: the party's lines in area a so far. Each is the due less the earlier ones, so that they add up to the due
-- at the latest accepted Post of the area. That due is read from the list before the Post, as the Post's own lines are;
-- with the Post the facts are the same.
unfoldable pub reckoned_paid : List Decoded → ℕ → ℕ → ℤ
reckoned_paid [] a p = pos 0
reckoned_paid (r ∷ rs) a p = of_post (reckoned_paid rs a p) (λ n. cond (eqb n (a + 1)) (reckoned_due rs a p) (reckoned_paid rs a p)) r

-- 01, Area money: a line of a Post is the due less the party's earlier lines in that area
unfoldable pub reckoned_line : List Decoded → ℕ → ℕ → ℤ
reckoned_line acc a p = line (reckoned_due acc a p) (reckoned_paid acc a p)

-- 01, Places of refusal: only an accepted Post has lines other than zero; party p's line for a string
unfoldable pub line_for : List Decoded → List ℕ → ℕ → ℤ
line_for acc s p = cond (eqb (number_for acc s) 0) (of_post (pos 0) (λ n. reckoned_line acc (n - 1) p) (decoded s)) (pos 0)

-- 01, Places of refusal: the answer is the number and sixteen lines
pub record Answered : Type 0 where
  pub number : ℕ
  pub lines : List ℤ

abbrev pub answer_for : List Decoded → List ℕ → Answered
answer_for acc s = record { number = number_for acc s; lines = list_below party_count (line_for acc s) }

-- 01, Fresh reckoning: it is fed the same strings of bytes as the book, in the same order: the answers, from a list on
unfoldable pub answers_of : List Decoded → List (List ℕ) → List Answered
answers_of acc [] = []
answers_of acc (s ∷ ss) = answer_for acc s ∷ answers_of (accepted_with acc s) ss

-- the list after these strings
unfoldable pub accepted_of : List Decoded → List (List ℕ) → List Decoded
accepted_of acc [] = acc
accepted_of acc (s ∷ ss) = accepted_of (accepted_with acc s) ss
