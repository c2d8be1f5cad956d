-- Demand 3: the four parts of the promise.
use Rattle.std.proofs.Common.{◌≡◌, refl, sym, ◌∙◌, true, cond, true≢false, ◌⊎◌, inl, inr, List, [], ◌∷◌, ◌++◌, map, ℕ, zero, suc, ◌<◌, pos, ◌+ℤ◌, take}
use mathlib.Core.List.Memᴰ
use mathlib.Core.List.{Memᴰ}
use lib.IntN.{+ℤ_idl, +ℤ_idr, +ℤ_assoc}
use Rattle.numbers.specs.Signed.{sum_below_ℤ}
use Rattle.records.specs.Format.{party_count}
use Rattle.records.specs.Kinds.{Decoded}
use Rattle.book.specs.Books.{Book, empty_book}
use Rattle.book.specs.Entered.{entered, book_after}
use Rattle.promise.specs.Reckoning.{Answered, accepted_with, reckoned_due, reckoned_paid, answers_of, accepted_of}
use Rattle.promise.specs.Promise.{Entry, run, from_empty, number_of, line_of, is_post, ends_in_post, total, Promise}
use Rattle.promise.specs.Laws.{answered, SameAnswers, SameTotals, RunLaws}
use Rattle.promise.proofs.AcceptedLists.{Kept}
use Rattle.promise.proofs.Meeting.{Meets, meets_none, number_met, meets_next, all_meet}
use Rattle.promise.proofs.Posts.{entry, posted_by, answer_met, paid_more, paid_due, lines_balance}
use Rattle.promise.proofs.StandingFacts.{same_watts, standing_dues}

-- numbers
same_numbers : (b : Book) (acc : List Decoded) → Meets b acc → (ss : List (List ℕ))
    → map number_of (run b ss) ≡ map (λ (r : Answered). r.number) (answers_of acc ss)
unfolding run answers_of
same_numbers b acc m [] = refl
same_numbers b acc m (s ∷ ss) =
    rw (number_met b acc m s, same_numbers (entered b s).book (accepted_with acc s) (meets_next b acc m s) ss)

-- the lines so far and those of the strings to come are what is paid in the end
total_paid : (b : Book) (acc : List Decoded) → Meets b acc → (ss : List (List ℕ)) (a p : ℕ) → p < party_count
    → reckoned_paid acc a p +ℤ total a p (run b ss) ≡ reckoned_paid (accepted_of acc ss) a p
unfolding run total accepted_of
total_paid b acc m [] a p h = +ℤ_idr (reckoned_paid acc a p)
total_paid b acc m (s ∷ ss) a p h =
    sym (+ℤ_assoc (reckoned_paid acc a p) (cond (is_post a (entry b acc m s)) (line_of (entry b acc m s) p) (pos 0)) (total a p (run (entered b s).book ss)))
    ∙ rw (sym (paid_more b acc m s a p h)) (total_paid (entered b s).book (accepted_with acc s) (meets_next b acc m s) ss a p h)

-- at an accepted Post of the area that is the due
ended_due : (b : Book) (acc : List Decoded) → Meets b acc → (ss : List (List ℕ)) (a p : ℕ) → ends_in_post a (run b ss) ≡ true
    → reckoned_paid (accepted_of acc ss) a p ≡ reckoned_due (accepted_of acc ss) a p
unfolding run ends_in_post accepted_of
ended_due b acc m [] a p q = absurd (true≢false (sym q))
ended_due b acc m (s ∷ []) a p q = paid_due b acc m s a p (posted_by b acc m s a q)
ended_due b acc m (s ∷ t ∷ ss) a p q = ended_due (entered b s).book (accepted_with acc s) (meets_next b acc m s) (t ∷ ss) a p q

-- totals
totals_due : (ss : List (List ℕ)) (a p : ℕ) → p < party_count → ends_in_post a (from_empty ss) ≡ true
    → total a p (from_empty ss) ≡ reckoned_due (accepted_of [] ss) a p
unfolding reckoned_paid
totals_due ss a p h q =
    sym (+ℤ_idl (total a p (from_empty ss))) ∙ total_paid empty_book [] meets_none ss a p h ∙ ended_due empty_book [] meets_none ss a p q

-- balanced
each_balanced : (b : Book) (acc : List Decoded) → Meets b acc → (ss : List (List ℕ)) (a : ℕ) (e : Entry) → Memᴰ e (run b ss) → is_post a e ≡ true
    → sum_below_ℤ party_count (line_of e) ≡ pos 0
unfolding run
each_balanced b acc m [] a e i q = absurd (Memᴰ.not-nil i)
each_balanced b acc m (s ∷ ss) a e i q = go (Memᴰ.cases_cons i) (λ j. each_balanced (entered b s).book (accepted_with acc s) (meets_next b acc m s) ss a e j q)
  where
    go : (e ≡ record { string = s; answer = entered b s }) ⊎ Memᴰ e (run (entered b s).book ss) → (Memᴰ e (run (entered b s).book ss) → sum_below_ℤ party_count (line_of e) ≡ pos 0)
        → sum_below_ℤ party_count (line_of e) ≡ pos 0
    go (inl x) later = rw x (lines_balance b acc m s a (rw x at q))
    go (inr j) later = later j

-- order
pub same_totals : SameTotals
same_totals ss ts a p h q r same =
    let kept : (us : List (List ℕ)) → Kept (accepted_of [] us) = λ us. (all_meet empty_book [] meets_none us).kept in
    totals_due ss a p h q
    ∙ standing_dues (accepted_of [] ss) (accepted_of [] ts) (kept ss) (kept ts) same.year same.units same.areas same.commitments same.loads same.owners same.hours a p
    ∙ sym (totals_due ts a p h r)

pub promise_kept : Promise
promise_kept =
    record {
      numbers = same_numbers empty_book [] meets_none;
      balanced = each_balanced empty_book [] meets_none;
      totals = totals_due;
      order = λ ss ts a p h q r same. same_totals ss ts a p h q r (same_watts (accepted_of [] ss) (accepted_of [] ts) same);
    }

-- the answers with their lines
answers_met : (b : Book) (acc : List Decoded) → Meets b acc → (ss : List (List ℕ)) → map answered (run b ss) ≡ answers_of acc ss
unfolding run answers_of
answers_met b acc m [] = refl
answers_met b acc m (s ∷ ss) =
    rw (answer_met b acc m s, answers_met (entered b s).book (accepted_with acc s) (meets_next b acc m s) ss)

pub same_answers : SameAnswers
same_answers = answers_met empty_book [] meets_none

-- a run, and of more strings after those
goes_on : (b : Book) (ss ts : List (List ℕ)) → run b (ss ++ ts) ≡ run b ss ++ run (book_after b ss) ts
unfolding run
goes_on b [] ts = refl
goes_on b (s ∷ ss) ts = rw (goes_on (entered b s).book ss ts)

begins : (b : Book) (ss : List (List ℕ)) (n : ℕ) → take n (run b ss) ≡ run b (take n ss)
unfolding run
begins b ss zero = refl
begins b [] (suc n) = refl
begins b (s ∷ ss) (suc n) = rw (begins (entered b s).book ss n)

pub run_laws : RunLaws
run_laws =
    record {
      run_goes_on = goes_on;
      run_begins = begins;
      totals_inside = λ ss n a p h q. rw (begins empty_book ss n) (totals_due (take n ss) a p h (rw (begins empty_book ss n) at q));
    }
