-- Strings that are tried in turn are answered as the promise's run answers them.
use Rattle.std.proofs.Common.{◌≡◌, cond, List, [], ◌∷◌, ◌++◌, append_assoc, append-nil, ℕ, suc, ◌+◌, add-zero, arith, eqb, length, ap, ◌∙◌}
use Rattle.records.specs.Stream.{strings_of}
use Rattle.book.specs.Entered.{entered, book_after}
use Rattle.promise.specs.Promise.{run, from_empty}
use Rattle.report.specs.Printed.{answer_text, end_line}
use Rattle.report.specs.Passes.{State, standing, at_first, post_area, tried, tried_all, closed, printed_from}
use Rattle.ledger.specs.Answers.{texts_from, accepted_in}

pub all_answered : (ss : List (List ℕ)) (r : State) → tried_all r ss
    ≡ standing (book_after r.book ss) (r.tried + length ss) (r.accepted + accepted_in (run r.book ss)) (r.text ++ texts_from (suc r.tried) (run r.book ss))
unfolding tried_all tried run texts_from accepted_in
all_answered [] r = rw (add-zero r.tried, add-zero r.accepted, append-nil r.text)
all_answered (s ∷ ss) r =
    let one : ℕ = cond (eqb (entered r.book s).number 0) 1 0 in
    let later : ℕ = accepted_in (run (entered r.book s).book ss) in
    let count : suc r.tried + length ss ≡ r.tried + suc (length ss) = omega arith in
    let accepted : r.accepted + one + later ≡ r.accepted + (one + later) = omega arith in
    let text = append_assoc r.text (answer_text (suc r.tried) (post_area s) (entered r.book s)) (texts_from (suc (suc r.tried)) (run (entered r.book s).book ss)) in
    all_answered ss (tried r s) ∙ rw (count, accepted, text)

pub all_printed : (s : List ℕ) → printed_from at_first s
    ≡ texts_from 1 (from_empty (strings_of s)) ++ end_line (length (strings_of s)) (accepted_in (from_empty (strings_of s)))
unfolding printed_from closed
all_printed s =
    let tried : 0 + length (strings_of s) ≡ length (strings_of s) = omega arith in
    let accepted : 0 + accepted_in (from_empty (strings_of s)) ≡ accepted_in (from_empty (strings_of s)) = omega arith in
    ap closed (all_answered (strings_of s) at_first) ∙ rw (tried, accepted)
