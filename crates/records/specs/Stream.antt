-- The next record at the start of a stream's bytes, and the strings that a stream is cut into. 01, The ledger program, and row 1 of
-- Places of refusal.
use Rattle.std.specs.Prelude.{cond, List, [], ◌∷◌, ℕ, zero, suc, ◌+◌, ltb, length, take, drop, Option, None}
use Rattle.records.specs.declared.stream.Next.{Next}
use Rattle.records.specs.declared.stream.Next.TheVariants.{Whole, Broken, Partial}
use Rattle.records.specs.declared.format.HourRecord.{HourRecord}
use Rattle.records.specs.declared.format.DayRecord.{DayRecord}
use Rattle.records.specs.Decoded.{length_of, hour_of, day_of}

-- a length above 32 is broken for certain, whatever follows; a record is whole once tag, length and value are there
unfoldable pub next_record : List ℕ → Next
next_record s =
    cond (ltb (length s) 3) Partial
    (cond (ltb 32 (length_of s)) Broken
    (cond (ltb (length s) (3 + length_of s)) Partial
    (Whole (3 + length_of s))))

-- what follows from the next record of a stream
abbrev pub on_next : {A : Type 0} → A → A → (ℕ → A) → Next → A
on_next partial broken whole (Whole k) = whole k
on_next partial broken whole Broken = broken
on_next partial broken whole Partial = partial

-- the Hour record at the start of a stream, if its next record is one; so the Day record
unfoldable pub first_hour : List ℕ → Option HourRecord
first_hour s = on_next None None (λ k. hour_of (take k s)) (next_record s)

unfoldable pub first_day : List ℕ → Option DayRecord
first_day s = on_next None None (λ k. day_of (take k s)) (next_record s)

-- what the end of a stream leaves is a cut record, if it is anything
abbrev pub cut_at_end : List ℕ → List (List ℕ)
cut_at_end [] = []
cut_at_end (b ∷ s) = (b ∷ s) ∷ []

-- the first n strings of a stream: whole records; a broken one takes all that is left, and is the last, as is a cut one
unfoldable pub first_strings : ℕ → List ℕ → List (List ℕ)
first_strings zero s = []
first_strings (suc n) s = on_next (cut_at_end s) (s ∷ []) (λ k. take k s ∷ first_strings n (drop k s)) (next_record s)

-- all of them: each has at least a byte
unfoldable pub strings_of : List ℕ → List (List ℕ)
strings_of s = first_strings (suc (length s)) s
