-- The records of a slice, one after another. 01, The ledger program.
use Rattle.std.specs.Prelude.{◌≡◌, cond, ◌&&◌, List, [], ◌∷◌, ◌++◌, ℕ, zero, suc, ◌+◌, ◌-◌, ◌^◌, ◌≤◌, eqb, ltb, leb, length, take, drop, Option, Some, None, Result, Ok, Err}
use Rattle.records.specs.Stream.{next_record, on_next, strings_of}
use Rattle.records.specs.Decoded.{decoded}
use Rattle.records.specs.Kinds.{of_post}
use Rattle.book.specs.declared.Book.{Book}
use Rattle.book.specs.Books.{empty_book}
use Rattle.book.specs.Entered.{entered}
use Rattle.book.specs.Runs.{Run, first_hours}
use Rattle.report.specs.declared.standing.Report.{Report}
use Rattle.report.specs.declared.pass.Stop.{Stop}
use Rattle.report.specs.declared.pass.Stop.TheVariants as stop
use Rattle.report.specs.Printed.{answer_text, end_line, pair_most, lines_most}

-- where a run stands: the book, how many records were tried and how many accepted, and what was printed
pub record State : Type 0 where
  pub book : Book
  pub tried : ℕ
  pub accepted : ℕ
  pub text : List ℕ

abbrev pub standing : Book → ℕ → ℕ → List ℕ → State
standing book tried accepted text = record { book = book; tried = tried; accepted = accepted; text = text }

-- what a report stands for, with the text that is to be printed
abbrev pub state_of : Report → List ℕ → State
state_of r text = standing r.book r.tried r.accepted text

-- nothing was entered or tried, and nothing is to be printed
abbrev pub at_first : State
at_first = standing empty_book 0 0 []

-- the area of a Post
abbrev pub post_area : List ℕ → ℕ
post_area s = of_post 0 (λ a. a) (decoded s)

-- a string is tried: entered, counted, and its answer printed
unfoldable pub tried : State → List ℕ → State
tried r s = record {
  book = (entered r.book s).book;
  tried = suc r.tried;
  accepted = r.accepted + cond (eqb (entered r.book s).number 0) 1 0;
  text = r.text ++ answer_text (suc r.tried) (post_area s) (entered r.book s);
}

-- the state after the Hours and Days that `hours` of the book took
abbrev pub after_run : State → Run → State
after_run r run = record {
  book = run.book;
  tried = r.tried + run.count;
  accepted = r.accepted + run.count;
  text = r.text;
}

-- the accepted Hours and Days at the start of s were taken, and that many bytes
abbrev pub HoursTaken : State → List ℕ → ℕ → State → Type 0
HoursTaken before s taken after =
    (taken ≡ (first_hours before.book s).next) × (after ≡ after_run before (first_hours before.book s)) × (taken ≤ length s)

-- a pass over a slice that stopped, and where the record begins that it stopped at
pub record Stopped : Type 0 where
  pub state : State
  pub next : ℕ
  pub stop : Stop

abbrev pub stopped : State → ℕ → Stop → Stopped
stopped r next stop = record { state = r; next = next; stop = stop }

-- the bytes that `ledger` keeps free for one answer and the last line
abbrev pub room : ℕ
room = lines_most + pair_most

-- The records of s from a place on, at most n of them, into a buffer of so many bytes. Each whole one is tried, until there is
-- no room for another answer or no whole record is left; a broken one is tried, takes all that is left, and is the last.
unfoldable pub pass_of : ℕ → ℕ → State → List ℕ → ℕ → Stopped
pass_of zero size r s from = stopped r from stop.Partial
pass_of (suc n) size r s from =
    cond (ltb size (length r.text + room)) (stopped r from stop.Full)
    (on_next (stopped r from stop.Partial)
    (stopped (tried r (drop from s)) (length s) stop.Broken)
    (λ k. pass_of n size (tried r (take k (drop from s))) s (from + k))
    (next_record (drop from s)))

-- all of s; each record has at least a byte
abbrev pub passed : ℕ → State → List ℕ → Stopped
passed size r s = pass_of (suc (length s)) size r s 0

-- what is left where the input ends is a cut record, and is tried
abbrev pub ended : State → List ℕ → State
ended r [] = r
ended r (b ∷ s) = tried r (b ∷ s)

-- strings are tried in turn
unfoldable pub tried_all : State → List (List ℕ) → State
tried_all r [] = r
tried_all r (s ∷ ss) = tried_all (tried r s) ss

-- a run over a whole input: all strings that it is cut into
abbrev pub run_of : State → List ℕ → State
run_of r s = tried_all r (strings_of s)

-- the last line
unfoldable pub closed : State → List ℕ
closed r = r.text ++ end_line r.tried r.accepted

-- all that is printed for a whole input from a state on
unfoldable pub printed_from : State → List ℕ → List ℕ
printed_from r s = closed (run_of r s)

-- the room that is left: for an answer and the last line if more may come, for the last line after a broken record
abbrev pub free : Stop → ℕ
free stop.Full = 0
free stop.Partial = room
free stop.Broken = pair_most

-- no more was tried than the bytes that were taken
abbrev pub Left : ℕ → ℕ → ℕ → List ℕ → Type 0
Left next counted before s = (next ≤ length s) × (counted + (length s - next) ≤ before + length s)

-- with all of the text printed
abbrev pub emptied : State → State
emptied r = standing r.book r.tried r.accepted []

-- so many records, if the count of records tried fits 64 bits with them; else none
unfoldable pub countable : ℕ → ℕ → ℕ
countable tried more = cond (ltb (tried + more) (2 ^ 64)) more 0

-- What the public functions answer, with a text of so many bytes at most. Where the counts might not fit, no record is tried.
unfoldable pub pass_answer : ℕ → State → List ℕ → Stopped
pass_answer size r s = passed size r (take (countable r.tried (length s)) s)

-- what is to be printed at the end, if the result is no failure
abbrev pub text_given : {E : Type 0} → Result (Unit {0}) E → List ℕ → Option (List ℕ)
text_given (Ok ok) text = Some text
text_given (Err e) text = None

-- the same, of a text that ends at a place of a slice
abbrev pub text_before : {E : Type 0} → Result ℕ E → List ℕ → Option (List ℕ)
text_before (Ok end) out = Some (take end out)
text_before (Err e) out = None

-- Where there is no room for the last line, it is a failure.
unfoldable pub close_answer : ℕ → State → Option (List ℕ)
close_answer size r = cond (leb (length r.text + pair_most) size) (Some (closed r)) None

-- What is left of the input is a cut record, and is tried first. Where there is no room for an answer and the last line, or the
-- counts do not fit, it is a failure.
abbrev pub finish_answer : ℕ → State → List ℕ → Option (List ℕ)
finish_answer size r [] = close_answer size r
finish_answer size r (b ∷ s) = cond (ltb (r.tried + 1) (2 ^ 64) && leb (length r.text + room) size) (Some (closed (tried r (b ∷ s)))) None

-- From any counts, those of a report or not: where more count as accepted than tried, they do not fit a cut record, and it is a
-- failure.
abbrev pub finish_from_answer : ℕ → State → List ℕ → Option (List ℕ)
finish_from_answer size r [] = close_answer size r
finish_from_answer size r (b ∷ s) = cond (leb r.accepted r.tried) (finish_answer size r (b ∷ s)) None
