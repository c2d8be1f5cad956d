-- The book and the list, string after string: every book reached is sound and holds what the list holds.
use Rattle.std.proofs.Common.{◌≡◌, refl, sym, ap, subst, ◌∙◌, Bool, true, false, List, [], ◌∷◌, ℕ, zero, suc, ◌≤◌, ◌<◌, arith, eqb, eqb-true, Ok}
use Rattle.records.specs.declared.format.DayRecord.{DayRecord}
use Rattle.records.specs.declared.format.Record.TheVariants.{Day}
use Rattle.records.specs.Format.{day_format}
use Rattle.records.proofs.OneKind.{is_made}
use Rattle.records.specs.Decoded.{decoded}
use Rattle.records.specs.Kinds.{Decoded, numbers_of, is_of, day_from}
use Rattle.rules.specs.Rules.{asked, refusal}
use Rattle.rules.specs.Refusal.{refusal_of}
use Rattle.rules.specs.Facts.{Facts}
use Rattle.rules.proofs.AcceptedRows.{Accepted, accepted}
use Rattle.book.specs.Books.{Book, facts_of_book, empty_book, Sound}
use Rattle.book.specs.Entered.{after, no_lines, lines_of, answer, entered, book_after}
use Rattle.book.proofs.AreaMoney.{due_most_lem}
use Rattle.book.proofs.Soundness.{empty_sound, after_sound}
use Rattle.book.proofs.Days.{hour, book_with, book_with_none, after_hour, hour_passed}
use Rattle.promise.specs.Reckoning.{facts_of_list, number_for, with_day_hours, accepted_with, accepted_of}
use Rattle.promise.specs.Laws.{SameFacts}
use Rattle.promise.proofs.OneMore.{record_joins, hours_stand, list_kept}
use Rattle.promise.proofs.AcceptedLists.{Kept, kept_none, kept_more}
use Rattle.promise.proofs.Agreement.{Agrees, agreed_facts, agrees_none, agrees_more}

pub record Meets (b : Book) (acc : List Decoded) : Type 0 where
  pub sound : Sound b
  pub agrees : Agrees b acc
  pub kept : Kept acc

pub meets_none : Meets empty_book []
meets_none = record { sound = empty_sound; agrees = agrees_none; kept = kept_none }

-- the number is the refusal's, accepted or not
pub number_entered : (b : Book) (s : List ℕ) → (entered b s).number ≡ refusal (facts_of_book b) s
unfolding entered
number_entered b s = go (eqb (refusal (facts_of_book b) s) 0) refl
  where
    go : (t : Bool) → eqb (refusal (facts_of_book b) s) 0 ≡ t → (entered b s).number ≡ refusal (facts_of_book b) s
    go true q = rw q (sym (eqb-true (refusal (facts_of_book b) s) 0 q))
    go false q = rw q

-- with an accepted record more, which is no Day
record_meets : (b : Book) (acc : List Decoded) → Meets b acc → (r : Decoded) → is_of day_format r ≡ false → refusal_of (asked (facts_of_list acc) r) r ≡ 0
    → Meets (after b r) (r ∷ acc)
record_meets b acc m r no_day e =
    let same : facts_of_book b ≡ facts_of_list acc = agreed_facts b acc m.agrees in
    let ok : Accepted (asked (facts_of_list acc) r) r = accepted (asked (facts_of_list acc) r) r e in
    record {
      sound = after_sound b r m.sound (due_most_lem b m.sound) (ap (λ (F : Facts). refusal_of (asked F r) r) same ∙ e);
      agrees = agrees_more b acc m.sound m.kept m.agrees r ok no_day;
      kept = kept_more acc m.kept r ok;
    }

-- with the first hours of an accepted Day more
module _ (b : Book) (acc : List Decoded) (m : Meets b acc) (d : DayRecord) (e : refusal_of (asked (facts_of_list acc) (Ok (Day d))) (Ok (Day d)) ≡ 0) where
  pub day_accepted : Accepted (asked (facts_of_book b) (Ok (Day d))) (Ok (Day d))
  day_accepted = accepted (asked (facts_of_book b) (Ok (Day d))) (Ok (Day d)) (ap (λ (F : Facts). refusal_of (asked F (Ok (Day d))) (Ok (Day d))) (agreed_facts b acc m.agrees) ∙ e)

  hour_joins : (n : ℕ) → n < 24 → Meets (book_with d b m.sound n) (with_day_hours acc d n) → refusal_of (asked (facts_of_list (with_day_hours acc d n)) (hour d n)) (hour d n) ≡ 0
  hour_joins n less now =
      ap (λ (F : Facts). refusal_of (asked F (hour d n)) (hour d n)) (sym (agreed_facts (book_with d b m.sound n) (with_day_hours acc d n) now.agrees))
      ∙ hour_passed d b m.sound day_accepted n less

  pub hours_meet : (n : ℕ) → n ≤ 24 → Meets (book_with d b m.sound n) (with_day_hours acc d n)
  unfolding with_day_hours
  hours_meet zero h = subst (λ (x : Book). Meets x acc) (sym (book_with_none d b m.sound)) m
  hours_meet (suc n) h =
      let before = hours_meet n (omega arith) in
      subst (λ (x : Book). Meets x (with_day_hours acc d (suc n))) (after_hour d b m.sound n)
      (record_meets (book_with d b m.sound n) (with_day_hours acc d n) before (hour d n) refl (hour_joins n (omega arith) before))

  -- each hour is one that no row fits
  pub hour_accepted : (n : ℕ) → n < 24 → refusal_of (asked (facts_of_list (with_day_hours acc d n)) (hour d n)) (hour d n) ≡ 0
  hour_accepted n less = hour_joins n less (hours_meet n (omega arith))

pub rows_of : (F : Facts) (s : List ℕ) → refusal F s ≡ refusal_of (asked F (decoded s)) (decoded s)
unfolding refusal
rows_of F s = refl

module _ (b : Book) (acc : List Decoded) (m : Meets b acc) (s : List ℕ) where
  pub same_number : refusal (facts_of_book b) s ≡ number_for acc s
  same_number = ap (λ (F : Facts). refusal F s) (agreed_facts b acc m.agrees)

  pub number_met : (entered b s).number ≡ number_for acc s
  number_met = number_entered b s ∙ same_number

  -- what the rows say of the record, where none fits
  pub accepted_by : number_for acc s ≡ 0 → Accepted (asked (facts_of_list acc) (decoded s)) (decoded s)
  accepted_by e = accepted (asked (facts_of_list acc) (decoded s)) (decoded s) (sym (rows_of (facts_of_list acc) s) ∙ e)

  -- the book after an accepted string, and after a refused one
  pub book_after_lem : number_for acc s ≡ 0 → entered b s ≡ answer 0 (lines_of b (decoded s)) (after b (decoded s))
  unfolding entered
  book_after_lem e = rw (same_number, e)

  pub book_kept : eqb (number_for acc s) 0 ≡ false → entered b s ≡ answer (number_for acc s) no_lines b
  unfolding entered
  book_kept q = rw (same_number, q)

  pub meets_next : Meets (entered b s).book (accepted_with acc s)
  meets_next = go (eqb (number_for acc s) 0) refl
    where
      -- a record joins the list, and the hours of a Day
      joins : number_for acc s ≡ 0 → (t : Bool) → is_of day_format (decoded s) ≡ t → Meets (entered b s).book (accepted_with acc s)
      joins e true q =
          let d : DayRecord = day_from (numbers_of (decoded s)) in
          let is : decoded s ≡ Ok (Day d) = is_made day_format (decoded s) tt q in
          rw (book_after_lem e, hours_stand acc s d e is, is) (hours_meet b acc m d (rw is at (sym (rows_of (facts_of_list acc) s) ∙ e)) 24 (omega arith))
      joins e false q = rw (book_after_lem e, record_joins acc s e q) (record_meets b acc m (decoded s) q (sym (rows_of (facts_of_list acc) s) ∙ e))

      go : (t : Bool) → eqb (number_for acc s) 0 ≡ t → Meets (entered b s).book (accepted_with acc s)
      go true q = joins (eqb-true (number_for acc s) 0 q) (is_of day_format (decoded s)) refl
      go false q = rw (book_kept q, list_kept acc s q) m

-- after every list of strings
pub all_meet : (b : Book) (acc : List Decoded) → Meets b acc → (ss : List (List ℕ)) → Meets (book_after b ss) (accepted_of acc ss)
unfolding accepted_of
all_meet b acc m [] = m
all_meet b acc m (s ∷ ss) = all_meet (entered b s).book (accepted_with acc s) (meets_next b acc m s) ss

-- the book's facts are the reckoning's
pub same_facts : SameFacts
same_facts ss = agreed_facts (book_after empty_book ss) (accepted_of [] ss) (all_meet empty_book [] meets_none ss).agrees
