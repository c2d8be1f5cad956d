-- What the private functions of a post and of a run of hours work out, step by step. A reader of the public contracts needs none
-- of it.
use Rattle.std.specs.Prelude.{◌≡◌, cond, List, ℕ, ◌+◌, ◌*◌, ℤ, eqb, take}
use Rattle.capacity.specs.Shortfall.{commitment_most, watt_days, committed_answer, shortfall_answer}
use Rattle.money.specs.declared.Cents.{Cents}
use Rattle.records.specs.declared.format.CommitmentRecord.{CommitmentRecord}
use Rattle.rules.specs.Facts.{is_entered}
use Rattle.rules.specs.Dues.{undistributed_in}
use Rattle.book.specs.declared.UnitEntry.{UnitEntry}
use Rattle.book.specs.Books.{Book, facts_of_book}
use Rattle.book.specs.Entered.{Answer, posted_after, no_lines, post_lines, answer, entered}

-- a commitment's watt-days are at most 5,000,000 W on 366 days
abbrev pub part_most : ℕ
part_most = commitment_most * 366

-- what a commitment adds to party p's part of unit u's V
unfoldable pub commitment_part : CommitmentRecord → ℕ → ℕ → ℕ
commitment_part c u p = cond (eqb c.party (p + 1)) (cond (eqb c.unit (u + 1)) (watt_days c.watts c.first c.last) 0) 0

-- the limited S of a unit, as the functions of `capacity` answer it
abbrev pub unit_answer : UnitEntry → ℕ → ℕ → ℤ
unit_answer u v days = shortfall_answer u.entry.rating u.hours (committed_answer u.entry.rating (is_entered u.owner) v days)

-- a Post changes only the posted sums
abbrev pub with_posted : Book → List (List Cents) → Book
with_posted b new = record {
  year = b.year;
  areas = b.areas;
  units = b.units;
  commitments = b.commitments;
  obligations = b.obligations;
  posted = new;
}

-- a post of area a, where rows 1 to 10 do not fit: row 11, or the lines and the posted sums
unfoldable pub post_answer : Book → ℕ → Answer
post_answer b a = cond (undistributed_in (facts_of_book b) a) (answer 11 no_lines b) (answer 0 (post_lines b a) (with_posted b (posted_after b a)))

-- The book after the first so many bytes of a stream, which are a record that was taken; with none it stays.
abbrev pub Moved : Book → List ℕ → ℕ → Book → Type 0
Moved before s bytes after = after ≡ cond (eqb bytes 0) before (entered before (take bytes s)).book
