-- A run of accepted Hour and Day records in a row, with nothing between them.
use Rattle.std.specs.Prelude.{◌≡◌, Bool, cond, ◌&&◌, List, [], ◌∷◌, ℕ, zero, suc, ◌+◌, ◌-◌, min, eqb, length, take, drop}
use mathlib.Core.List.{flatten}
use Rattle.records.specs.Format.{Format, hour_format, day_format}
use Rattle.records.specs.Decoded.{decoded}
use Rattle.records.specs.Kinds.{is_one_of}
use Rattle.records.specs.Stream.{next_record, on_next, first_strings}
use Rattle.book.specs.Books.{Book}
use Rattle.book.specs.Entered.{entered, book_after}

-- a record of one of these formats that the book answers with 0
abbrev pub is_accepted_as : List Format → Book → List ℕ → Bool
is_accepted_as fs b s = is_one_of fs (decoded s) && eqb (entered b s).number 0

-- how many bytes the next record of a stream has, if it is such a record; else 0
unfoldable pub first_accepted : List Format → Book → List ℕ → ℕ
first_accepted fs b s = on_next 0 0 (λ k. cond (is_accepted_as fs b (take k s)) k 0) (next_record s)

-- hours come in Hour and in Day records
abbrev pub hour_kinds : List Format
hour_kinds = hour_format ∷ day_format ∷ []

-- where a run of them ends, how many they are, and the book after it
pub record Run : Type 0 where
  pub next : ℕ
  pub count : ℕ
  pub book : Book

abbrev pub run : ℕ → ℕ → Book → Run
run next count book = record { next = next; count = count; book = book }

-- how many bytes the next of them has at a place; 0 where none is
abbrev pub next_hours : Book → List ℕ → ℕ → ℕ
next_hours b s from = first_accepted hour_kinds b (drop from s)

-- at most n of them from a place on, after so many: up to the first record that is anything else or would be refused, each entered
-- in turn
unfoldable pub hours_of : ℕ → Book → List ℕ → ℕ → ℕ → Run
hours_of zero b s from count = run from count b
hours_of (suc n) b s from count =
    cond (eqb (next_hours b s from) 0) (run from count b)
    (hours_of n (entered b (take (next_hours b s from) (drop from s))).book s (from + next_hours b s from) (suc count))

-- those at the start of s; each has at least a byte
abbrev pub first_hours : Book → List ℕ → Run
first_hours b s = hours_of (length s) b s 0 0

-- those of s between two places; nothing is beyond the end of s
abbrev pub hours_between : Book → List ℕ → ℕ → ℕ → Run
hours_between b s from to = hours_of (min to (length s) - from) b (take to s) from 0

-- the strings that a run over s took
abbrev pub strings_taken : Run → List ℕ → List (List ℕ)
strings_taken r s = first_strings r.count s

-- what a run over s does is what is done with the strings that it took
pub record HourRunLaws : Type 0 where
  -- each is entered in turn, as any other string is
  pub hours_entered : (b : Book) (s : List ℕ) → (first_hours b s).book ≡ book_after b (strings_taken (first_hours b s) s)
  -- end to end they are the bytes that it took
  pub hours_joined : (b : Book) (s : List ℕ) → flatten (strings_taken (first_hours b s) s) ≡ take (first_hours b s).next s
  -- between two places, whatever they are, it is the run over the bytes between them
  pub of_part : (b : Book) (s : List ℕ) (from to : ℕ) → let part = take (min to (length s) - from) (drop from s) in
      hours_between b s from to ≡ run (from + (first_hours b part).next) (first_hours b part).count (first_hours b part).book
