-- What the reckoning's definitions give, for all lists, what it has in common with the book, and that any list of strings is
-- that of a log.
use Rattle.std.specs.Prelude.{Ok, ◌≡◌, true, false, List, [], ◌∷◌, ◌++◌, map, reverse, ℕ, ◌+◌, ◌<◌, pos, ◌+ℤ◌, eqb, take}
use mathlib.Core.List.{flatten, Memᴰ}
use Rattle.numbers.specs.Lists.{list_below}
use Rattle.capacity.specs.Shortfall.{watt_days_of}
use Rattle.records.specs.declared.format.Record.TheVariants.{Commitment, Load, Post, Owner, Day}
use Rattle.records.specs.declared.format.CommitmentRecord.{CommitmentRecord}
use Rattle.records.specs.declared.format.HourRecord.{HourRecord}
use Rattle.records.specs.declared.format.LoadRecord.{LoadRecord}
use Rattle.records.specs.declared.format.OwnerRecord.{OwnerRecord}
use Rattle.records.specs.declared.format.DayRecord.{DayRecord}
use Rattle.records.specs.Format.{party_count, owner_format, day_format}
use Rattle.records.specs.Decoded.{decoded}
use Rattle.records.specs.Kinds.{Decoded, is_of}
use Rattle.rules.specs.Hours.{counted}
use Rattle.rules.specs.Facts.{Facts}
use Rattle.rules.specs.Dues.{watt_days_in, part_for}
use Rattle.rules.specs.Laws.{SettledBy01}
use Rattle.book.specs.Books.{Book, facts_of_book, empty_book}
use Rattle.book.specs.Entered.{entered, book_after}
use Rattle.book.specs.Days.{hour_strings}
use Rattle.promise.specs.Reckoning.{Answered, latest_commitment, latest_load, latest_owner, counts_of, facts_of_list, number_for, accepted_with, reckoned_due, reckoned_paid}
use Rattle.promise.specs.Reckoning.{reckoned_line, line_for, answers_of, accepted_of}
use Rattle.promise.specs.Standing.{SameStanding, SameStandingWatts}
use Rattle.promise.specs.Promise.{Entry, run, from_empty, number_of, line_of, is_post, ends_in_post, total}
use Rattle.promise.specs.Logs.{strings, ends_from}

-- one record, hour, string or entry more
pub record ReckoningLaws : Type 0 where
  -- 01, Fresh reckoning: an Hour record counts once, as in the book
  pub hour_counts_once : (y : ℕ) (h : HourRecord) (hs : List HourRecord) → counts_of y (h ∷ hs) ≡ counted y (counts_of y hs) h
  -- 01, Records: a later Commitment, and a later Load, replaces the earlier one with its key
  pub commitment_replaces : (acc : List Decoded) (c : CommitmentRecord) (k : ℕ) → c.number ≡ k + 1 → latest_commitment (Ok (Commitment c) ∷ acc) k ≡ c
  pub load_replaces : (acc : List Decoded) (l : LoadRecord) (a p : ℕ) → l.area ≡ a + 1 → l.party ≡ p + 1
      → latest_load (Ok (Load l) ∷ acc) a p ≡ l
  -- 02, Item 2: a later Owner replaces the earlier one of its unit
  pub owner_replaces : (acc : List Decoded) (o : OwnerRecord) (u : ℕ) → o.unit ≡ u + 1 → latest_owner (Ok (Owner o) ∷ acc) u ≡ o
  -- 01, Fresh reckoning: where no row fits, the record joins the list; 02, Item 3: the 24 hours of a Day stand in its place
  pub record_joins : (acc : List Decoded) (s : List ℕ) → number_for acc s ≡ 0 → is_of day_format (decoded s) ≡ false → accepted_with acc s ≡ decoded s ∷ acc
  pub hours_join : (acc : List Decoded) (s : List ℕ) (d : DayRecord) → number_for acc s ≡ 0 → decoded s ≡ Ok (Day d) → accepted_with acc s ≡ reverse (map decoded (hour_strings d)) ++ acc
  -- 01, Fresh reckoning: where a row fits, the list stays as it is
  pub list_kept : (acc : List Decoded) (s : List ℕ) → eqb (number_for acc s) 0 ≡ false → accepted_with acc s ≡ acc
  -- 01, Places of refusal: a refused string has no line other than zero
  pub refused_lines : (acc : List Decoded) (s : List ℕ) (p : ℕ) → eqb (number_for acc s) 0 ≡ false → line_for acc s p ≡ pos 0
  -- 01, Area money: a total is the sum of the lines at the accepted posts
  pub post_accepted : (a : ℕ) (e : Entry) → is_post a e ≡ true → number_of e ≡ 0
  pub post_adds : (a p : ℕ) (e : Entry) (es : List Entry) → is_post a e ≡ true → total a p (e ∷ es) ≡ line_of e p +ℤ total a p es

-- with each Post of an area the lines there so far grow by its lines
abbrev pub LinesAddUp : Type 0
LinesAddUp = (acc : List Decoded) (a p : ℕ) → reckoned_paid (Ok (Post (a + 1)) ∷ acc) a p ≡ reckoned_paid acc a p +ℤ reckoned_line acc a p

-- the number and the lines of an entry
abbrev pub answered : Entry → Answered
answered e = record { number = number_of e; lines = list_below party_count (line_of e) }

-- the book's answers to any strings, from the empty book on, are the reckoning's, line by line
abbrev pub SameAnswers : Type 0
SameAnswers = (ss : List (List ℕ)) → map answered (from_empty ss) ≡ answers_of [] ss

-- the reckoning's facts after these strings
abbrev pub facts_after : List (List ℕ) → Facts
facts_after ss = facts_of_list (accepted_of [] ss)

-- after any strings the book's facts are the reckoning's
abbrev pub SameFacts : Type 0
SameFacts = (ss : List (List ℕ)) → facts_of_book (book_after empty_book ss) ≡ facts_after ss

-- 01, From a set to its shortfall: after any strings the sixteen parties' parts of V, over which S is split, add up to V
abbrev pub PartsAddUp : Type 0
PartsAddUp = (ss : List (List ℕ)) (u : ℕ)
    → watt_days_of (part_for (facts_after ss).commitment u) ≡ watt_days_in (facts_after ss).commitment u

-- the run of strings, and of more after them
pub record RunLaws : Type 0 where
  -- it begins with the answers of those before, and goes on from the book that they leave
  pub run_goes_on : (b : Book) (ss ts : List (List ℕ)) → run b (ss ++ ts) ≡ run b ss ++ run (book_after b ss) ts
  -- so that a run's first answers are those of its first strings,
  pub run_begins : (b : Book) (ss : List (List ℕ)) (n : ℕ) → take n (run b ss) ≡ run b (take n ss)
  -- and what `totals` of the promise says at the end of a list, it says after each accepted Post inside one
  pub totals_inside : (ss : List (List ℕ)) (n a p : ℕ) → p < party_count → ends_in_post a (take n (from_empty ss)) ≡ true
      → total a p (take n (from_empty ss)) ≡ reckoned_due (accepted_of [] (take n ss)) a p

-- `order` of the promise from less: a Load of 0 W and none at all are the same
abbrev pub SameTotals : Type 0
SameTotals = (ss ts : List (List ℕ)) (a p : ℕ) → p < party_count → ends_in_post a (from_empty ss) ≡ true → ends_in_post a (from_empty ts) ≡ true
    → SameStandingWatts (accepted_of [] ss) (accepted_of [] ts) → total a p (from_empty ss) ≡ total a p (from_empty ts)

-- 02, Item 2: strings among which no Owner is are settled as in 01
abbrev pub WithoutOwners : Type 0
WithoutOwners = (ss : List (List ℕ)) → ((s : List ℕ) → Memᴰ s ss → is_of owner_format (decoded s) ≡ false) → SettledBy01 (facts_after ss)

-- 02, Item 3: "Balances can't depend on which way the hours came." After the strings ss an accepted Day, or the 24 Hours that it stands
-- for in its place; then more strings ts. Several Days are so replaced one after another.
pub record SameEitherWay (ss : List (List ℕ)) (s : List ℕ) (d : DayRecord) (ts : List (List ℕ)) : Type 0 where
  -- the same records are accepted, hence the same standing facts,
  pub same_list : accepted_of [] (ss ++ (s ∷ ts)) ≡ accepted_of [] (ss ++ (hour_strings d ++ ts))
  pub same_standing : SameStanding (accepted_of [] (ss ++ (s ∷ ts))) (accepted_of [] (ss ++ (hour_strings d ++ ts)))
  -- the book is the same, and the answers to the strings ts are, so each line of each later Post
  pub same_book : book_after empty_book (ss ++ (s ∷ ts)) ≡ book_after empty_book (ss ++ (hour_strings d ++ ts))
  pub same_answers : run (book_after empty_book (ss ++ (s ∷ []))) ts ≡ run (book_after empty_book (ss ++ hour_strings d)) ts
  -- and so is each party's total in each area
  pub same_totals : (a p : ℕ) → total a p (from_empty (ss ++ (s ∷ ts))) ≡ total a p (from_empty (ss ++ (hour_strings d ++ ts)))

abbrev pub EitherWay : Type 0
EitherWay = (ss : List (List ℕ)) (s : List ℕ) (d : DayRecord) (ts : List (List ℕ)) → decoded s ≡ Ok (Day d) → (entered (book_after empty_book ss) s).number ≡ 0
    → SameEitherWay ss s d ts

-- any list of strings is that of a log: of the strings end to end, with the place where each of them ends
abbrev pub EveryLog : Type 0
EveryLog = (ss : List (List ℕ)) → strings (flatten ss) (ends_from 0 ss) ≡ ss
