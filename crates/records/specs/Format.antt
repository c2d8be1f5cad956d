-- The record format: each tag and its length, and each field's offset in the value, its width in bytes and its range.
-- 01, Records, and 02, Items 2 and 3. A record is one tag byte, a two-byte length, then the value; numbers are unsigned, high byte first.
use Rattle.std.specs.Prelude.{List, [], ◌∷◌, map, Bool, true, false, ◌&&◌, ℕ, zero, suc, ◌+◌, ◌*◌, get_or}
use Rattle.numbers.specs.Range.{within}
use Rattle.capacity.specs.Shortfall.{installed_most, rate_most, commitment_most}

-- 01, Records, the ranges of the table: areas 1–8, units 1–32, commitments 1–64, parties 1–16
abbrev pub area_count : ℕ
area_count = 8

abbrev pub unit_count : ℕ
unit_count = 32

abbrev pub commitment_count : ℕ
commitment_count = 64

abbrev pub party_count : ℕ
party_count = 16

pub record Field : Type 0 where
  pub offset : ℕ
  pub width : ℕ
  -- whether a number is in its range
  pub holds : ℕ → Bool

pub record Format : Type 0 where
  pub tag : ℕ
  -- the length of the value
  pub size : ℕ
  pub fields : List Field

-- a field with a range, both ends included
abbrev pub field : ℕ → ℕ → ℕ → ℕ → Field
field offset width least most = record { offset = offset; width = width; holds = within least most }

-- a field that has no range but a rule of the whole record (`own_rule` of Refusal)
abbrev pub ruled_at : ℕ → ℕ → Field
ruled_at o width = record { offset = o; width = width; holds = λ n. true }

-- the same where no rule of the record asks it: every number is in range
abbrev pub free_at : ℕ → ℕ → Field
free_at = ruled_at

abbrev pub format : ℕ → ℕ → List Field → Format
format tag size fields = record { tag = tag; size = size; fields = fields }

-- what occurs in several records, at an offset: a number of an area, a unit and a party, and an outage rate
abbrev pub area_at : ℕ → Field
area_at o = field o 1 1 area_count

abbrev pub unit_at : ℕ → Field
unit_at o = field o 1 1 unit_count

abbrev pub party_at : ℕ → Field
party_at o = field o 1 1 party_count

abbrev pub rate_at : ℕ → Field
rate_at o = field o 4 0 rate_most

-- 0x01 Year: y
abbrev pub year_format : Format
year_format = format 1 2 (field 0 2 2007 2099 ∷ [])

-- 0x02 Area: area; price in cents per MW-day
abbrev pub area_format : Format
area_format = format 2 5 (area_at 0 ∷ field 1 4 0 50000 ∷ [])

-- 0x03 Unit: unit; area; I in W; rates e, f, g; class
abbrev pub unit_format : Format
unit_format = format 3 19 (unit_at 0 ∷ area_at 1 ∷ field 2 4 1 installed_most ∷ rate_at 6 ∷ rate_at 10 ∷ rate_at 14 ∷ field 18 1 0 2 ∷ [])

-- 0x04 Commitment: number; unit; party; first day, last day; watts
abbrev pub commitment_format : Format
commitment_format = format 4 11
    (field 0 1 1 commitment_count ∷ unit_at 1 ∷ party_at 2 ∷ ruled_at 3 2 ∷ ruled_at 5 2 ∷ field 7 4 0 commitment_most ∷ [])

-- 0x05 Hour: unit; month, day, hour ending; kind; derating in W
abbrev pub hour_ending : Field
hour_ending = field 3 1 1 24

abbrev pub hour_format : Format
hour_format = format 5 9 (unit_at 0 ∷ ruled_at 1 1 ∷ ruled_at 2 1 ∷ hour_ending ∷ field 4 1 0 5 ∷ ruled_at 5 4 ∷ [])

-- 0x06 Load: area; party; obligation in W
abbrev pub load_format : Format
load_format = format 6 6 (area_at 0 ∷ party_at 1 ∷ field 2 4 0 100000000 ∷ [])

-- 0x07 Post: area
abbrev pub post_format : Format
post_format = format 7 1 (area_at 0 ∷ [])

-- 02, Item 2, 0x08 Owner: unit; party
abbrev pub owner_format : Format
owner_format = format 8 2 (unit_at 0 ∷ party_at 1 ∷ [])

-- 02, Item 3, 0x09 Day: unit; month, day; three bytes of marks
abbrev pub day_format : Format
day_format = format 9 6 (unit_at 0 ∷ ruled_at 1 1 ∷ ruled_at 2 1 ∷ free_at 3 3 ∷ [])

abbrev pub formats : List Format
formats =
    year_format ∷ area_format ∷ unit_format ∷ commitment_format ∷ hour_format ∷ load_format ∷ post_format ∷ owner_format ∷ day_format ∷ []

-- the number of so many bytes of a string, from one on, high byte first
unfoldable pub number_at : ℕ → List ℕ → ℕ → ℕ
number_at zero s from = 0
number_at (suc n) s from = number_at n s from * 256 + get_or s (from + n) 0

-- a record's bytes: tag, length and value
abbrev pub bytes_of : Format → ℕ
bytes_of f = 3 + f.size

-- the number of a field: the value follows the tag and the length
abbrev pub value_of : List ℕ → Field → ℕ
value_of s f = number_at f.width s (3 + f.offset)

-- the numbers of a format's fields, in their order
abbrev pub values_of : Format → List ℕ → List ℕ
values_of f s = map (value_of s) f.fields

-- 01, Records: every number is in its field's range
abbrev pub fields_fit : List Field → List ℕ → Bool
fields_fit [] ns = true
fields_fit (f ∷ fs) [] = false
fields_fit (f ∷ fs) (n ∷ ns) = f.holds n && fields_fit fs ns
