-- An accepted Day, or its 24 Hours in its place, leave the same list and the same book.
use Rattle.std.proofs.Common.{◌≡◌, refl, sym, ap, subst, ◌∙◌, false, cond, List, [], ◌∷◌, ◌++◌, ℕ, zero, suc, ◌+◌, ◌≤◌, arith, ℤ, pos, ◌+ℤ◌, eqb, Ok}
use mathlib.Core.Bool.{and-false}
use lib.IntN.{+ℤ_idl, +ℤ_assoc}
use Rattle.numbers.specs.Lists.{list_below}
use Rattle.calendar.specs.Peak.{day_hours}
use Rattle.records.specs.declared.format.DayRecord.{DayRecord}
use Rattle.records.specs.declared.format.Record.TheVariants.{Day}
use Rattle.records.specs.Decoded.{decoded}
use Rattle.records.specs.Kinds.{Decoded, is_of}
use Rattle.rules.specs.Refusal.{refusal_of}
use Rattle.rules.specs.Rules.{asked}
use Rattle.records.specs.Format.{post_format}
use Rattle.book.specs.Books.{Book, empty_book}
use Rattle.book.specs.Entered.{Answer, entered, book_after}
use Rattle.book.specs.Days.{hour_strings}
use Rattle.book.proofs.Days.{book_more, hours_read, hour, hour_string, book_with, hours_entered}
use Rattle.promise.specs.Reckoning.{facts_of_list, number_for, with_day_hours, accepted_with, accepted_of}
use Rattle.promise.specs.Standing.{SameStanding}
use Rattle.promise.specs.Promise.{Entry, run, from_empty, line_of, is_post, total}
use Rattle.promise.specs.Laws.{EitherWay}
use Rattle.promise.proofs.OneMore.{record_joins, hours_stand}
use Rattle.promise.proofs.Promised.{run_laws}
use Rattle.promise.proofs.Meeting.{Meets, meets_none, number_met, rows_of, book_after_lem, day_accepted, hour_accepted, all_meet}

list_more : (acc : List Decoded) (ss ts : List (List ℕ)) → accepted_of acc (ss ++ ts) ≡ accepted_of (accepted_of acc ss) ts
unfolding accepted_of
list_more acc [] ts = refl
list_more acc (s ∷ ss) ts = list_more (accepted_with acc s) ss ts

same_itself : (rs : List Decoded) → SameStanding rs rs
same_itself rs =
    record {
      year = refl;
      units = λ k. refl;
      areas = λ k. refl;
      commitments = λ k. refl;
      loads = λ a p. refl;
      owners = λ k. refl;
      hours = λ u h. (λ m. m, λ m. m);
    }

module _ (b : Book) (acc : List Decoded) (m : Meets b acc) (s : List ℕ) (d : DayRecord) (is : decoded s ≡ Ok (Day d)) (e : number_for acc s ≡ 0) where
  row : refusal_of (asked (facts_of_list acc) (Ok (Day d))) (Ok (Day d)) ≡ 0
  row = rw is at (sym (rows_of (facts_of_list acc) s) ∙ e)

  -- each Hour joins the list
  hours_joined : (n : ℕ) → n ≤ 24 → accepted_of acc (list_below n (hour_string d)) ≡ with_day_hours acc d n
  unfolding accepted_of list_below with_day_hours
  hours_joined zero h = refl
  hours_joined (suc n) h =
      let number : number_for (with_day_hours acc d n) (hour_string d n) ≡ 0
      = rows_of (facts_of_list (with_day_hours acc d n)) (hour_string d n) ∙ rw (hours_read d (n + 1)) (hour_accepted b acc m d row n (omega arith)) in
      list_more acc (list_below n (hour_string d)) (hour_string d n ∷ [])
      ∙ rw (hours_joined n (omega arith)) (record_joins (with_day_hours acc d n) (hour_string d n) number (rw (hours_read d (n + 1)) refl) ∙ rw (hours_read d (n + 1)) refl)

  list_same : accepted_with acc s ≡ accepted_of acc (hour_strings d)
  list_same = hours_stand acc s d e is ∙ sym (hours_joined 24 (omega arith))

  book_same : (entered b s).book ≡ book_after b (hour_strings d)
  book_same =
      let day : (entered b s).book ≡ book_with d b m.sound 24 = ap (λ (x : Answer). x.book) (book_after_lem b acc m s e) ∙ rw is in
      day ∙ sym (hours_entered d b m.sound (day_accepted b acc m d row) 24 (omega arith)).1

-- a total over a run of entries, and of more
total_more : (a p : ℕ) (es fs : List Entry) → total a p (es ++ fs) ≡ total a p es +ℤ total a p fs
unfolding total
total_more a p [] fs = sym (+ℤ_idl (total a p fs))
total_more a p (e ∷ es) fs =
    ap (λ (z : ℤ). cond (is_post a e) (line_of e p) (pos 0) +ℤ z) (total_more a p es fs)
    ∙ sym (+ℤ_assoc (cond (is_post a e) (line_of e p) (pos 0)) (total a p es) (total a p fs))

-- strings that are no Post add nothing
module _ (a p : ℕ) where
  none_added : (b : Book) (s : List ℕ) (r : Decoded) → decoded s ≡ r → is_of post_format r ≡ false → total a p (run b (s ∷ [])) ≡ pos 0
  unfolding run total
  none_added b s r is other = rw (is, other, and-false (eqb (entered b s).number 0)) refl

  hours_add_none : (d : DayRecord) (b : Book) (n : ℕ) → total a p (run b (list_below n (hour_string d))) ≡ pos 0
  unfolding list_below run total
  hours_add_none d b zero = refl
  hours_add_none d b (suc n) =
      let before : List (List ℕ) = list_below n (hour_string d) in
      let one : List (List ℕ) = hour_string d n ∷ [] in
      ap (total a p) (run_laws.run_goes_on b before one) ∙ total_more a p (run b before) (run (book_after b before) one)
      ∙ rw (hours_add_none d b n, none_added (book_after b before) (hour_string d n) (hour d n) (hours_read d (n + 1)) refl) refl

  -- strings in the middle that add nothing
  total_without : (ss xs ts : List (List ℕ)) → total a p (run (book_after empty_book ss) xs) ≡ pos 0
      → total a p (from_empty (ss ++ (xs ++ ts))) ≡ total a p (from_empty ss) +ℤ total a p (run (book_after (book_after empty_book ss) xs) ts)
  total_without ss xs ts none =
      let b : Book = book_after empty_book ss in
      ap (total a p) (run_laws.run_goes_on empty_book ss (xs ++ ts)) ∙ total_more a p (from_empty ss) (run b (xs ++ ts))
      ∙ ap (λ (z : ℤ). total a p (from_empty ss) +ℤ z)
      (ap (total a p) (run_laws.run_goes_on b xs ts) ∙ total_more a p (run b xs) (run (book_after b xs) ts) ∙ rw none (+ℤ_idl (total a p (run (book_after b xs) ts))))

pub either_way : EitherWay
unfolding accepted_of
either_way ss s d ts is number =
    let b : Book = book_after empty_book ss in
    let acc : List Decoded = accepted_of [] ss in
    let m : Meets b acc = all_meet empty_book [] meets_none ss in
    let e : number_for acc s ≡ 0 = sym (number_met b acc m s) ∙ number in
    let list : accepted_of [] (ss ++ (s ∷ ts)) ≡ accepted_of [] (ss ++ (hour_strings d ++ ts))
    = list_more [] ss (s ∷ ts) ∙ ap (λ (l : List Decoded). accepted_of l ts) (list_same b acc m s d is e)
    ∙ sym (list_more [] ss (hour_strings d ++ ts) ∙ list_more acc (hour_strings d) ts) in
    record {
      same_list = list;
      same_standing = subst (SameStanding (accepted_of [] (ss ++ (s ∷ ts)))) list (same_itself (accepted_of [] (ss ++ (s ∷ ts))));
      same_book = book_more empty_book ss (s ∷ ts) ∙ ap (λ (x : Book). book_after x ts) (book_same b acc m s d is e)
          ∙ sym (book_more empty_book ss (hour_strings d ++ ts) ∙ book_more b (hour_strings d) ts);
      same_totals = λ a p.
          total_without a p ss (s ∷ []) ts (none_added a p b s (Ok (Day d)) is refl)
          ∙ ap (λ (x : Book). total a p (from_empty ss) +ℤ total a p (run x ts)) (book_same b acc m s d is e)
          ∙ sym (total_without a p ss (hour_strings d) ts (hours_add_none a p d b day_hours));
      same_answers = ap (λ (x : Book). run x ts) (book_more empty_book ss (s ∷ []) ∙ book_same b acc m s d is e ∙ sym (book_more empty_book ss (hour_strings d)));
    }
