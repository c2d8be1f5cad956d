-- What is printed for a whole input, by the promise's run over the strings that the input is cut into. 01, The ledger program.
use Rattle.std.specs.Prelude.{◌≡◌, cond, List, [], ◌∷◌, ◌++◌, ℕ, suc, ◌+◌, eqb, length}
use Rattle.records.specs.Stream.{strings_of}
use Rattle.book.specs.Entered.{book_after}
use Rattle.promise.specs.Promise.{Entry, run, from_empty, number_of}
use Rattle.report.specs.Printed.{answer_text, end_line}
use Rattle.report.specs.Passes.{State, standing, at_first, post_area, run_of, printed_from}

-- the texts of entries, in order, the first of which is the n-th string tried
unfoldable pub texts_from : ℕ → List Entry → List ℕ
texts_from n [] = []
texts_from n (e ∷ es) = answer_text n (post_area e.string) e.answer ++ texts_from (suc n) es

-- how many of them are accepted
unfoldable pub accepted_in : List Entry → ℕ
accepted_in [] = 0
accepted_in (e ∷ es) = cond (eqb (number_of e) 0) 1 0 + accepted_in es

pub record AnswersPrinted : Type 0 where
  -- from the empty book on: the answers, counted from 1, and the last line
  pub printed : (s : List ℕ) → printed_from at_first s
      ≡ texts_from 1 (from_empty (strings_of s)) ++ end_line (length (strings_of s)) (accepted_in (from_empty (strings_of s)))
  -- from any state on: the book, the counts and the text
  pub state : (r : State) (s : List ℕ) → run_of r s
      ≡ standing
      (book_after r.book (strings_of s))
      (r.tried + length (strings_of s))
      (r.accepted + accepted_in (run r.book (strings_of s)))
      (r.text ++ texts_from (suc r.tried) (run r.book (strings_of s)))
