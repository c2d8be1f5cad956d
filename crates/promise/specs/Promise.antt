-- Demand 3. 01, Area money: "one claim about the whole list of strings, and not a claim for each record". The strings are any
-- lists of numbers, of any length and content, and any number of them; refused ones are among them.
-- Area and party number k of 01 is k − 1 here, as in rules' Facts.
use Rattle.std.specs.Prelude.{◌≡◌, List, [], ◌∷◌, map, Bool, true, false, cond, ◌&&◌, ℕ, ◌+◌, ◌<◌, ℤ, pos, ◌+ℤ◌, eqb}
use mathlib.Core.List.{Memᴰ}
use Rattle.numbers.specs.Signed.{sum_below_ℤ}
use Rattle.money.specs.Quantities.{cents_of}
use Rattle.records.specs.Format.{party_count}
use Rattle.records.specs.Decoded.{decoded}
use Rattle.records.specs.Kinds.{of_post}
use Rattle.book.specs.Books.{Book, empty_book}
use Rattle.book.specs.Entered.{Answer, entered}
use Rattle.promise.specs.Reckoning.{Answered, answers_of, accepted_of, reckoned_due}
use Rattle.promise.specs.Standing.{SameStanding}

-- a string, and what a book answers to it
pub record Entry : Type 0 where
  pub string : List ℕ
  pub answer : Answer

-- strings entered in turn: each finds the book that the one before it left
unfoldable pub run : Book → List (List ℕ) → List Entry
run b [] = []
run b (s ∷ ss) = record { string = s; answer = entered b s } ∷ run (entered b s).book ss

-- from the empty book
abbrev pub from_empty : List (List ℕ) → List Entry
from_empty ss = run empty_book ss

-- the book's number, and its line for party p
abbrev pub number_of : Entry → ℕ
number_of e = e.answer.number

abbrev pub line_of : Entry → ℕ → ℤ
line_of e p = cents_of e.answer.lines p

-- an accepted Post of area a
abbrev pub is_post : ℕ → Entry → Bool
is_post a e = eqb (number_of e) 0 && of_post false (λ n. eqb n (a + 1)) (decoded e.string)

-- the last string is one
unfoldable pub ends_in_post : ℕ → List Entry → Bool
ends_in_post a [] = false
ends_in_post a (e ∷ []) = is_post a e
ends_in_post a (e ∷ f ∷ es) = ends_in_post a (f ∷ es)

-- 01, Area money: "A party's total in an area is the sum of the lines that the book answered for it at the accepted posts
-- there so far."
unfoldable pub total : ℕ → ℕ → List Entry → ℤ
total a p [] = pos 0
total a p (e ∷ es) = cond (is_post a e) (line_of e p) (pos 0) +ℤ total a p es

pub record Promise : Type 0 where
  -- the list of the book's numbers is the list of the reckoning's
  pub numbers : (ss : List (List ℕ)) → map number_of (from_empty ss) ≡ map (λ (r : Answered). r.number) (answers_of [] ss)
  -- the sixteen lines of each accepted post add up to zero
  pub balanced : (ss : List (List ℕ)) (a : ℕ) (e : Entry) → Memᴰ e (from_empty ss) → is_post a e ≡ true → sum_below_ℤ party_count (line_of e) ≡ pos 0
  -- after each accepted post of an area, each party's total there is its due, which the reckoning works out from the records
  -- accepted up to then; each accepted post of a list ends the list of the strings up to it
  pub totals : (ss : List (List ℕ)) (a p : ℕ) → p < party_count → ends_in_post a (from_empty ss) ≡ true
      → total a p (from_empty ss) ≡ reckoned_due (accepted_of [] ss) a p
  -- for any two lists that leave the same standing facts, each ended by an accepted post of one and the same area, every party
  -- has the same total there
  pub order : (ss ts : List (List ℕ)) (a p : ℕ) → p < party_count → ends_in_post a (from_empty ss) ≡ true → ends_in_post a (from_empty ts) ≡ true
      → SameStanding (accepted_of [] ss) (accepted_of [] ts) → total a p (from_empty ss) ≡ total a p (from_empty ts)
