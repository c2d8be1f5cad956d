-- A run of accepted hours leaves the book that the strings it took leave.
use Rattle.std.proofs.Common.{◌≡◌, refl, sym, Bool, true, false, List, ◌++◌, ℕ, zero, suc, ◌+◌, arith, eqb, length, take, drop}
use mathlib.Core.List.{flatten}
use borrow.Author.Tests.{eqb-false}
use Rattle.std.proofs.lemmas.List.{take-append-drop, drop-take, take-take, drop-drop}
use Rattle.records.specs.Stream.{first_strings}
use Rattle.book.specs.Books.{Book}
use Rattle.book.specs.Entered.{entered, book_after}
use Rattle.book.specs.Runs.{Run, hour_kinds, next_hours, hours_of, first_hours, strings_taken, HourRunLaws}
use Rattle.book.proofs.HourRuns.{TakenWhole, taken_whole, run_of_part}

-- a run x from a place on, after so many records
record Taken (b : Book) (s : List ℕ) (from count : ℕ) (x : Run) : Type 0 where
  more : ℕ
  bytes : ℕ
  count_is : x.count ≡ count + more
  next_is : x.next ≡ from + bytes
  book_is : x.book ≡ book_after b (first_strings more (drop from s))
  joined : flatten (first_strings more (drop from s)) ≡ take bytes (drop from s)

-- bytes in two parts
two_parts : (k m : ℕ) (l : List ℕ) → take k l ++ take m (drop k l) ≡ take (k + m) l
two_parts k m l = rw (take-take k (k + m) l (omega arith), drop-take k m l) at (take-append-drop k (take (k + m) l))

-- with none it stays
none_taken : (b : Book) (s : List ℕ) (from count : ℕ) → Taken b s from count (record { next = from; count = count; book = b })
unfolding first_strings flatten
none_taken b s from count = record { more = 0; bytes = 0; count_is = omega arith; next_is = omega arith; book_is = refl; joined = refl }

taken : (n : ℕ) (b : Book) (s : List ℕ) (from count : ℕ) → Taken b s from count (hours_of n b s from count)
unfolding hours_of first_strings flatten
taken zero b s from count = none_taken b s from count
taken (suc n) b s from count = go (eqb k 0) refl (taken n (entered b (take k (drop from s))).book s (from + k) (suc count))
  where
    k : ℕ
    k = next_hours b s from

    go : (t : Bool) → eqb k 0 ≡ t → Taken (entered b (take k (drop from s))).book s (from + k) (suc count) (hours_of n (entered b (take k (drop from s))).book s (from + k) (suc count))
        → Taken b s from count (hours_of (suc n) b s from count)
    go true q rest = rw q (none_taken b s from count)
    go false q rest =
        let whole : TakenWhole (drop from s) k = taken_whole hour_kinds b (drop from s) k (eqb-false k 0 q) refl in
        let after : drop (from + k) s ≡ drop k (drop from s) = sym (drop-drop k from s) in
        rw q
        (record {
          more = suc rest.more;
          bytes = k + rest.bytes;
          count_is = omega (arith, rest.count_is);
          next_is = omega (arith, rest.next_is);
          book_is = rw (whole.next_is, ← after) rest.book_is;
          joined = rw (whole.next_is, ← after, rest.joined, after) (two_parts k rest.bytes (drop from s));
        })

module _ (b : Book) (s : List ℕ) where
  abbrev whole_run : Run
  whole_run = first_hours b s

  of_run : Taken b s 0 0 whole_run
  of_run = taken (length s) b s 0 0

  counted : whole_run.count ≡ of_run.more
  counted = omega (arith, of_run.count_is)

  ended : whole_run.next ≡ of_run.bytes
  ended = omega (arith, of_run.next_is)

  hours_entered : whole_run.book ≡ book_after b (strings_taken whole_run s)
  hours_entered = rw counted of_run.book_is

  hours_joined : flatten (strings_taken whole_run s) ≡ take whole_run.next s
  hours_joined = rw (counted, ended) of_run.joined

pub run_laws : HourRunLaws
run_laws = record { hours_entered = hours_entered; hours_joined = hours_joined; of_part = run_of_part }
