-- What a Day does is what is done with the 24 Hours that it stands for. 02, Item 3.
use Rattle.std.specs.Prelude.{◌≡◌, cond, List, [], ◌∷◌, ℕ, ◌+◌, eqb, Ok}
use Rattle.numbers.specs.Lists.{list_below}
use Rattle.calendar.specs.Peak.{day_hours}
use Rattle.records.specs.declared.format.DayRecord.{DayRecord}
use Rattle.records.specs.declared.format.Record.TheVariants.{Hour, Day}
use Rattle.records.specs.Decoded.{decoded}
use Rattle.records.specs.Written.{written_hour}
use Rattle.rules.specs.Days.{day_hour}
use Rattle.book.specs.Books.{Book, Sound}
use Rattle.book.specs.Entered.{Answer, answer, no_lines, entered, book_after}

-- the 24 strings, "hours 1 to 24 in turn"
abbrev pub hour_strings : DayRecord → List (List ℕ)
hour_strings d = list_below day_hours (λ k. written_hour (day_hour d (k + 1)))

-- "the first refusal among them", of strings that are entered in turn; 0 if none is refused
unfoldable pub first_refusal : Book → List (List ℕ) → ℕ
first_refusal b [] = 0
first_refusal b (s ∷ ss) = cond (eqb (entered b s).number 0) (first_refusal (entered b s).book ss) (entered b s).number

-- "The book after it is the one after 24 Hour records, .. and it is accepted if and only if all 24 would be; otherwise the first
-- refusal among them is the answer and the book is unchanged."
abbrev pub all_or_none : Book → List (List ℕ) → Answer
all_or_none b ss = cond (eqb (first_refusal b ss) 0) (answer 0 no_lines (book_after b ss)) (answer (first_refusal b ss) no_lines b)

pub record DayLaws : Type 0 where
  -- each of the 24 strings is the Hour that it is to be,
  pub hours_read : (d : DayRecord) (k : ℕ) → decoded (written_hour (day_hour d k)) ≡ Ok (Hour (day_hour d k))
  -- and every string that is a Day is answered as they are, all or none
  pub day_is_hours : (b : Book) → Sound b → (s : List ℕ) (d : DayRecord) → decoded s ≡ Ok (Day d) → entered b s ≡ all_or_none b (hour_strings d)
