-- A string of bytes, decoded. 01, Records, and rows 1 to 3 of Places of refusal.
use Rattle.std.specs.Prelude.{Bool, cond, not, ◌||◌, List, ℕ, ◌+◌, eqb, ltb, length, Option, Some, None, Ok, Err}
use Rattle.numbers.specs.Lists.{element}
use Rattle.records.specs.declared.format.Fault.TheVariants.{Broken, UnknownTag, WrongLength}
use Rattle.records.specs.declared.format.Record.TheVariants as records
use Rattle.records.specs.declared.format.Record.TheVariants.{Year, Area, Commitment, Hour, Load, Post, Owner, Day}
use Rattle.records.specs.Format.{Format, number_at, values_of, year_format, area_format, unit_format, commitment_format, hour_format, load_format, post_format, owner_format, day_format}
use Rattle.records.specs.Kinds.{Decoded, area_from, unit_from, commitment_from, hour_from, load_from, owner_from, day_from, of_hour, of_day}
use Rattle.records.specs.declared.format.HourRecord.{HourRecord}
use Rattle.records.specs.declared.format.DayRecord.{DayRecord}
use Rattle.records.specs.declared.format.Record.{Record}

-- the tag and the length that a string states
abbrev pub tag_of : List ℕ → ℕ
tag_of s = number_at 1 s 0

abbrev pub length_of : List ℕ → ℕ
length_of s = number_at 2 s 1

-- row 1: under 3 bytes, length above 32, or value not of that length
unfoldable pub is_broken : List ℕ → Bool
is_broken s = ltb (length s) 3 || (ltb 32 (length_of s) || not (eqb (length s) (3 + length_of s)))

-- row 3: length not that tag's; else the record that its numbers make
unfoldable pub of_length : Format → List ℕ → (List ℕ → Record) → Decoded
of_length f s made = cond (eqb (length_of s) f.size) (Ok (made (values_of f s))) (Err WrongLength)

-- the record of a format, if the tag is the format's
abbrev pub of_tag : Format → List ℕ → (List ℕ → Record) → Decoded → Decoded
of_tag f s made other = cond (eqb (tag_of s) f.tag) (of_length f s made) other

-- what a framed string holds, by its tag; row 2: tag not listed
unfoldable pub framed : List ℕ → Decoded
framed s =
    of_tag year_format s (λ l. Year (element l 0))
    (of_tag area_format s (λ l. Area (area_from l))
    (of_tag unit_format s (λ l. records.Unit (unit_from l))
    (of_tag commitment_format s (λ l. Commitment (commitment_from l))
    (of_tag hour_format s (λ l. Hour (hour_from l))
    (of_tag load_format s (λ l. Load (load_from l))
    (of_tag post_format s (λ l. Post (element l 0))
    (of_tag owner_format s (λ l. Owner (owner_from l))
    (of_tag day_format s (λ l. Day (day_from l))
    (Err UnknownTag)))))))))

unfoldable pub decoded : List ℕ → Decoded
decoded s = cond (is_broken s) (Err Broken) (framed s)

-- the Hour record that a string is, if it is one; so the Day record
abbrev pub hour_of : List ℕ → Option HourRecord
hour_of s = of_hour None Some (decoded s)

abbrev pub day_of : List ℕ → Option DayRecord
day_of s = of_day None Some (decoded s)
