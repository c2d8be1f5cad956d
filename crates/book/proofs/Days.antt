-- A Day is answered as the 24 Hours that it stands for are, in turn: all or none.
use Rattle.std.proofs.Common.{◌≡◌, refl, sym, ap, ◌∙◌, Bool, true, false, cond, Ok, List, [], ◌∷◌, ◌++◌, ℕ, zero, suc, ◌+◌, ◌≤◌, ◌<◌, arith, eqb, eqb-true, ne_eqb, get_or, set}
use Rattle.std.proofs.Common.{get_or-set_same}
use Rattle.std.proofs.lemmas.List.{set-set, set-get_or}
use borrow.Author.Tests.{eqb-false}
use Rattle.numbers.specs.Lists.{list_below}
use Rattle.records.specs.declared.format.DayRecord.{DayRecord}
use Rattle.records.specs.declared.format.Record.TheVariants.{Hour, Day}
use Rattle.records.specs.Decoded.{decoded}
use Rattle.records.specs.Format.{unit_count}
use Rattle.records.specs.Kinds.{Decoded}
use Rattle.records.specs.Written.{written_hour}
use Rattle.records.proofs.WrittenHours.{hour_written}
use Rattle.rules.specs.Days.{day_hour}
use Rattle.rules.specs.Refusal.{refusal_of}
use Rattle.rules.specs.Rules.{area_index, unit_index, asked, refusal}
use Rattle.rules.proofs.Named.{index_below}
use Rattle.rules.proofs.DayRows.{day_row}
use Rattle.rules.proofs.AcceptedRows.{Accepted, accepted}
use Rattle.book.specs.declared.UnitEntry.{UnitEntry}
use Rattle.book.specs.Books.{Book, no_entry, facts_of_book, Sound}
use Rattle.rules.specs.Facts.{no_area}
use Rattle.book.specs.Entered.{Answer, answer, no_lines, lines_of, after, with_hours, entered, book_after}
use Rattle.book.specs.Days.{hour_strings, first_refusal, all_or_none, DayLaws}
use Rattle.book.proofs.DayHours.{kept_entry, hour_admitted}

-- strings entered in turn, and one more
refusal_more : (b : Book) (ss : List (List ℕ)) (t : List ℕ)
    → first_refusal b (ss ++ (t ∷ [])) ≡ cond (eqb (first_refusal b ss) 0) (entered (book_after b ss) t).number (first_refusal b ss)
unfolding first_refusal
refusal_more b [] t = go (eqb (entered b t).number 0) refl
  where
    go : (z : Bool) → eqb (entered b t).number 0 ≡ z → cond z 0 (entered b t).number ≡ (entered b t).number
    go true q = sym (eqb-true _ _ q)
    go false q = refl
refusal_more b (s ∷ ss) t = go (eqb (entered b s).number 0) refl (refusal_more (entered b s).book ss t)
  where
    go : (z : Bool) → eqb (entered b s).number 0 ≡ z
        → first_refusal (entered b s).book (ss ++ (t ∷ [])) ≡ cond (eqb (first_refusal (entered b s).book ss) 0) (entered (book_after (entered b s).book ss) t).number (first_refusal (entered b s).book ss)
        → first_refusal b (s ∷ ss ++ (t ∷ [])) ≡ cond (eqb (first_refusal b (s ∷ ss)) 0) (entered (book_after b (s ∷ ss)) t).number (first_refusal b (s ∷ ss))
    go true q more = rw q more
    go false q more = rw (q, q)

pub book_more : (b : Book) (ss ts : List (List ℕ)) → book_after b (ss ++ ts) ≡ book_after (book_after b ss) ts
book_more b [] ts = refl
book_more b (s ∷ ss) ts = book_more (entered b s).book ss ts

abbrev pub with_units : Book → List UnitEntry → Book
with_units b us = record { year = b.year; areas = b.areas; units = us; commitments = b.commitments; obligations = b.obligations; posted = b.posted }

module _ (d : DayRecord) where
  pub hours_read : (k : ℕ) → decoded (written_hour (day_hour d k)) ≡ Ok (Hour (day_hour d k))
  hours_read k = hour_written d.unit d.month d.day k (day_hour d k).kind

  abbrev pub hour : ℕ → Decoded
  hour k = Ok (Hour (day_hour d (k + 1)))

  abbrev pub hour_string : ℕ → List ℕ
  hour_string k = written_hour (day_hour d (k + 1))

  -- a string's answer, by the record that it is
  answer_by : (b : Book) (s : List ℕ) (r : Decoded) → decoded s ≡ r
      → entered b s ≡ cond (eqb (refusal_of (asked (facts_of_book b) r) r) 0) (answer 0 (lines_of b r) (after b r)) (answer (refusal_of (asked (facts_of_book b) r) r) no_lines b)
  unfolding entered refusal
  answer_by b s r e = rw e

  module _ (b : Book) (sound : Sound b) where
    abbrev i : ℕ
    i = unit_index d.unit

    abbrev u : UnitEntry
    u = get_or b.units i no_entry

    abbrev pub book_with : ℕ → Book
    book_with n = with_units b (set b.units i (with_hours b.year u d n))

    pub book_with_none : book_with 0 ≡ b
    unfolding with_hours
    book_with_none = ap (with_units b) (set-get_or b.units i no_entry)

    unit_with : (n : ℕ) → get_or (book_with n).units i no_entry ≡ with_hours b.year u d n
    unit_with n = get_or-set_same b.units i (with_hours b.year u d n) no_entry (rw sound.units.long (index_below unit_count d.unit (omega arith)))

    pub after_hour : (n : ℕ) → after (book_with n) (hour n) ≡ book_with (suc n)
    unfolding with_hours
    after_hour n = rw (unit_with n, set-set b.units i (with_hours b.year u d n) (with_hours b.year u d (suc n)))

    -- of an accepted Day each hour passes, and the book after it has one hour more
    module _ (ok : Accepted (asked (facts_of_book b) (Ok (Day d))) (Ok (Day d))) where
      pub hour_passed : (n : ℕ) → n < 24 → refusal_of (asked (facts_of_book (book_with n)) (hour n)) (hour n) ≡ 0
      hour_passed n less = rw (unit_with n, kept_entry b.year u d n) (hour_admitted b.year u d (get_or b.areas (area_index 0) no_area) ok n less)

      hour_entered : (n : ℕ) → n < 24 → entered (book_with n) (hour_string n) ≡ answer 0 no_lines (book_with (suc n))
      hour_entered n less =
          answer_by (book_with n) (hour_string n) (hour n) (hours_read (n + 1)) ∙ rw (hour_passed n less, after_hour n)

      pub hours_entered : (n : ℕ) → n ≤ 24 → (first_refusal b (list_below n hour_string) ≡ 0) × (book_after b (list_below n hour_string) ≡ book_with n)
      unfolding list_below first_refusal
      hours_entered zero h = (refl, sym book_with_none)
      hours_entered (suc n) h =
          let (none, book) = hours_entered n (omega arith) in
          let entry = hour_entered n (omega arith) in (
            refusal_more b (list_below n hour_string) (hour_string n) ∙ rw (none, book, entry),
            book_more b (list_below n hour_string) (hour_string n ∷ []) ∙ rw book (ap (λ (y : Answer). y.book) entry),
          )

    -- a Day that is refused has the number of its first hour
    module _ {x : ℕ} (row : refusal_of (asked (facts_of_book b) (Ok (Day d))) (Ok (Day d)) ≡ x) (some : x ≡ 0 → ⊥) where
      first_number : (entered b (hour_string 0)).number ≡ x
      first_number =
          let h : Decoded = Ok (Hour (day_hour d 1)) in
          let refused : refusal_of (asked (facts_of_book b) h) h ≡ x = day_row (asked (facts_of_book b) h) d ∙ row in
          ap (λ (y : Answer). y.number) (answer_by b (hour_string 0) h (hours_read 1)) ∙ rw (refused, ne_eqb x 0 some)

      hours_refused : (n : ℕ) → first_refusal b (list_below (suc n) hour_string) ≡ x
      unfolding list_below first_refusal
      hours_refused zero = rw (first_number, ne_eqb x 0 some)
      hours_refused (suc n) = refusal_more b (list_below (suc n) hour_string) (hour_string (suc n)) ∙ rw (hours_refused n, ne_eqb x 0 some)

    day_answered : (s : List ℕ) → decoded s ≡ Ok (Day d) → entered b s ≡ all_or_none b (hour_strings d)
    day_answered s e = answer_by b s (Ok (Day d)) e ∙ go (eqb (refusal_of (asked (facts_of_book b) (Ok (Day d))) (Ok (Day d))) 0) refl
      where
        number : ℕ
        number = refusal_of (asked (facts_of_book b) (Ok (Day d))) (Ok (Day d))

        go : (t : Bool) → eqb number 0 ≡ t
            → cond t (answer 0 no_lines (book_with 24)) (answer number no_lines b) ≡ all_or_none b (hour_strings d)
        go true q =
            let (none, book) = hours_entered (accepted _ _ (eqb-true number 0 q)) 24 (omega arith) in
            rw (none, book)
        go false q =
            let refused : first_refusal b (hour_strings d) ≡ number = hours_refused refl (eqb-false number 0 q) 23 in
            rw (refused, q)

pub day_laws : DayLaws
day_laws = record { hours_read = hours_read; day_is_hours = λ b sound s d. day_answered d b sound s }
