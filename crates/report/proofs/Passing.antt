-- A pass over a slice, record by record: Hours and Days in a row are so many records tried, counted, and nothing is printed.
use Rattle.std.proofs.Common.{◌≡◌, refl, sym, ap, ◌∙◌, Some, Bool, true, false, ◌||◌, List, [], append-nil, ℕ, zero, suc, ◌+◌, ◌-◌, ◌≤◌, ◌<◌}
use Rattle.std.proofs.Common.{add-zero, le_refl, add-one, arith, eqb, ltb, length, take, drop, length-drop, take_all, eqb-true, lt-ltb, le-ltb, le-leb, ◌∷◌, ◌^◌}
use mathlib.Core.Bool.{false≢true}
use borrow.Author.Tests.{eqb-false}
use Rattle.std.proofs.lemmas.List.{drop-drop}
use Rattle.numbers.specs.Lists.{list_below}
use Rattle.numbers.proofs.Tests.{both_true}
use Rattle.records.specs.Format.{party_count}
use Rattle.records.specs.Decoded.{decoded}
use Rattle.records.specs.Kinds.{Decoded, tag_of_record, is_one_of}
use Rattle.records.specs.declared.stream.Next.TheVariants.{Whole, Broken, Partial}
use Rattle.records.specs.Stream.{next_record, on_next}
use Rattle.records.proofs.FormatLaws.{whole_least, whole_not_broken, broken_least}
use Rattle.rules.specs.Rules.{refusal}
use Rattle.book.specs.declared.Book.{Book}
use Rattle.book.specs.Books.{facts_of_book}
use Rattle.book.specs.Entered.{no_lines, lines_of, entered}
use Rattle.book.specs.Runs.{is_accepted_as, hour_kinds, next_hours, Run, run, hours_of, first_hours}
use Rattle.book.proofs.HourRuns.{taken_whole, taken_accepted, hours_ended}
use Rattle.report.specs.Passes.{State, standing, post_area, tried, after_run, HoursTaken, stopped, room, pass_of, passed, Left, ended, closed, pass_answer, countable, close_answer, finish_answer}
use Rattle.report.specs.declared.pass.Stop.TheVariants as stop
use Rattle.report.specs.Printed.{pair_most, party_lines, answer_text}

-- what follows a place, as the code has it
abbrev rest : List ℕ → ℕ → List ℕ
rest s at = take (length s - at) (drop at s)

rest_is : (s : List ℕ) (at : ℕ) → rest s at ≡ drop at s
rest_is s at = take_all (length s - at) (drop at s) (omega (arith, length-drop at s))

pub hours_counted : (r : State) (s : List ℕ) {taken count : ℕ} {after : Book} → run taken count after ≡ first_hours r.book s
    → HoursTaken r s taken (record { book = after; tried = r.tried + count; accepted = r.accepted + count; text = r.text })
hours_counted r s e = (ap (λ (x : Run). x.next) e, ap (after_run r) e, (hours_ended r.book s e).0)

-- the same, whatever was printed before
abbrev pub with_text : List ℕ → State → State
with_text text r = standing r.book r.tried r.accepted text

pub any_text : (text : List ℕ) (r x : State) (s : List ℕ) {taken : ℕ} → HoursTaken r s taken x → HoursTaken (with_text text r) s taken (with_text text x)
any_text text r x s (next, after, inside) = (next, ap (with_text text) after, inside)

-- a state with so many hours more
abbrev counted : State → Book → ℕ → State
counted r b k = record { book = b; tried = r.tried + k; accepted = r.accepted + k; text = r.text }

counted_none : (r : State) → counted r r.book 0 ≡ r
counted_none r = rw (add-zero r.tried, add-zero r.accepted)

counted_more : (r : State) (b b' : Book) (k : ℕ) → counted (counted r b 1) b' k ≡ counted r b' (suc k)
counted_more r b b' k =
    let t : r.tried + 1 + k ≡ r.tried + suc k = omega arith in
    let a : r.accepted + 1 + k ≡ r.accepted + suc k = omega arith in
    rw (t, a)

no_lines_text : (a : ℕ) → party_lines a no_lines party_count ≡ []
unfolding party_lines list_below
no_lines_text a = refl

-- an Hour and a Day are no Post
hour_lines : (b : Book) (r : Decoded) → is_one_of hour_kinds r ≡ true → lines_of b r ≡ no_lines
hour_lines b r e = go (eqb (tag_of_record r) 5) refl (eqb (tag_of_record r) 9) refl e
  where
    go : (t : Bool) → eqb (tag_of_record r) 5 ≡ t → (u : Bool) → eqb (tag_of_record r) 9 ≡ u → (t || (u || false)) ≡ true → lines_of b r ≡ no_lines
    go true q u p e = rw (eqb-true (tag_of_record r) 5 q)
    go false q true p e = rw (eqb-true (tag_of_record r) 9 p)
    go false q false p e = absurd (false≢true e)

module _ (b : Book) (s : List ℕ) (accepted : is_accepted_as hour_kinds b s ≡ true) where
  number_zero : eqb (entered b s).number 0 ≡ true
  number_zero = (both_true {a = is_one_of hour_kinds (decoded s)} accepted).1

  lines_zero : (entered b s).lines ≡ no_lines
  unfolding entered
  lines_zero = go (eqb (refusal (facts_of_book b) s) 0) refl
    where
      go : (t : Bool) → eqb (refusal (facts_of_book b) s) 0 ≡ t → (entered b s).lines ≡ no_lines
      go true q = rw q (hour_lines b (decoded s) (both_true {a = is_one_of hour_kinds (decoded s)} accepted).0)
      go false q = rw q

-- an accepted one is counted, and nothing is printed
tried_hour : (r : State) (s : List ℕ) → is_accepted_as hour_kinds r.book s ≡ true → tried r s ≡ counted r (entered r.book s).book 1
unfolding tried answer_text
tried_hour r s e =
    rw (number_zero r.book s e, lines_zero r.book s e, no_lines_text (post_area s), append-nil r.text, add-one r.tried)

-- the loop over s into a text of `size` bytes at most: what is left to do is what was to do at first
module _ (size : ℕ) (s : List ℕ) where
  one_hour : (n : ℕ) (r : State) (at k : ℕ) {l : List ℕ} → l ≡ drop at s → ltb size (length r.text + room) ≡ false → next_record l ≡ Whole k
      → is_accepted_as hour_kinds r.book (take k l) ≡ true
      → pass_of (suc n) size r s at ≡ pass_of n size (counted r (entered r.book (take k l)).book 1) s (at + k)
  unfolding pass_of
  one_hour n r at k {l} here free next e = rw (free, sym here, next, tried_hour r (take k l) e)

  -- so many Hours and Days of what follows a place, from k on, and what is left of the pass after them
  record AfterHours (n : ℕ) (r : State) (from k count : ℕ) (x : Run) : Type 0 where
    hours : ℕ
    left : ℕ
    count_is : x.count ≡ count + hours
    grows : k + hours ≤ x.next
    there : from + x.next ≤ length s
    enough : length s < from + x.next + left
    same : pass_of n size r s (from + k) ≡ pass_of left size (counted r x.book hours) s (from + x.next)

  after_hours : (m n : ℕ) (r : State) (from k count : ℕ) → ltb size (length r.text + room) ≡ false → from + k ≤ length s → length s < from + k + n
      → AfterHours n r from k count (hours_of m r.book (drop from s) k count)
  unfolding hours_of
  after_hours zero n r from k count free within enough =
      record { hours = 0; left = n; count_is = omega arith; grows = omega arith; there = within; enough = enough; same = rw (counted_none r) }
  after_hours (suc m) zero r from k count free within enough = absurd (omega arith)
  after_hours (suc m) (suc n) r from k count free within enough = go (eqb size_of 0) refl (after_hours m n)
    where
      size_of : ℕ
      size_of = next_hours r.book (drop from s) k

      next : Book
      next = (entered r.book (take size_of (drop k (drop from s)))).book

      go : (t : Bool) → eqb size_of 0 ≡ t
          → ((r : State) (from k count : ℕ) → ltb size (length r.text + room) ≡ false → from + k ≤ length s → length s < from + k + n
          → AfterHours n r from k count (hours_of m r.book (drop from s) k count))
          → AfterHours (suc n) r from k count (hours_of (suc m) r.book (drop from s) k count)
      go true q rest =
          rw q
          (record { hours = 0; left = suc n; count_is = omega arith; grows = omega arith; there = within; enough = enough; same = rw (counted_none r) })
      go false q rest =
          let some : (size_of ≡ 0 → ⊥) = eqb-false size_of 0 q in
          let here : drop k (drop from s) ≡ drop (from + k) s = drop-drop k from s in
          let whole = taken_whole hour_kinds r.book (drop k (drop from s)) size_of some refl in
          let accepted = taken_accepted hour_kinds r.book (drop k (drop from s)) size_of some refl in
          let inside : from + (k + size_of) ≤ length s = omega (arith, whole.there, length-drop k (drop from s), length-drop from s, within) in
          let more : AfterHours n (counted r next 1) from (k + size_of) (suc count) (hours_of m next (drop from s) (k + size_of) (suc count))
          = rest (counted r next 1) from (k + size_of) (suc count) free inside (omega (arith, some)) in
          let after : Run = hours_of m next (drop from s) (k + size_of) (suc count) in
          let place : from + k + size_of ≡ from + (k + size_of) = omega arith in
          let one : pass_of (suc n) size r s (from + k) ≡ pass_of n size (counted r next 1) s (from + (k + size_of))
          = rw place at (one_hour n r (from + k) size_of here free whole.next_is accepted) in
          let same : pass_of (suc n) size r s (from + k) ≡ pass_of more.left size (counted r after.book (suc more.hours)) s (from + after.next)
          = one ∙ more.same ∙ ap (λ (x : State). pass_of more.left size x s (from + after.next)) (counted_more r next after.book more.hours) in
          rw q
          (record {
            hours = suc more.hours;
            left = more.left;
            count_is = omega (arith, more.count_is);
            grows = omega (arith, more.grows, some);
            there = more.there;
            enough = more.enough;
            same = same;
          })

  module _ (first : State) where
    pub record Going (r : State) (at : ℕ) : Type 0 where
      pub left : ℕ
      pub there : at ≤ length s
      pub enough : length s < at + left
      pub same : pass_of left size r s at ≡ passed size first s
      pub counts : r.tried + (length s - at) ≤ first.tried + length s

    -- after the hours at a place, with room for an answer
    pub record Counted (r : State) (next : ℕ) : Type 0 where
      pub left : ℕ
      pub there : next ≤ length s
      pub enough : length s < next + suc left
      pub same : on_next (stopped r next stop.Partial) (stopped (tried r (drop next s)) (length s) stop.Broken)
          (λ k. pass_of left size (tried r (take k (drop next s))) s (next + k)) (next_record (drop next s))
          ≡ passed size first s
      pub counts : r.tried + (length s - next) ≤ first.tried + length s
      pub has_room : length r.text + room ≤ size

    pub begins : Going first 0
    begins = record { left = suc (length s); there = omega arith; enough = omega arith; same = refl; counts = omega arith }

    one_tried : (r : State) (s : List ℕ) → (tried r s).tried ≡ suc r.tried
    unfolding tried
    one_tried r s = refl

    -- a pass with room for an answer tries the next record
    tries_next : (n : ℕ) (r : State) (from : ℕ) → ltb size (length r.text + room) ≡ false
        → pass_of (suc n) size r s from
        ≡ on_next (stopped r from stop.Partial) (stopped (tried r (drop from s)) (length s) stop.Broken)
        (λ k. pass_of n size (tried r (take k (drop from s))) s (from + k)) (next_record (drop from s))
    unfolding pass_of
    tries_next n r from free = rw free

    -- the answers of the loop, by what the next record is
    module _ (r : State) (next : ℕ) (g : Counted r next) where
      pub not_whole : next_record (rest s next) ≡ Partial → stopped r next stop.Partial ≡ passed size first s
      not_whole e = rw (rw (rest_is s next) at e) at g.same

      module _ (e : next_record (rest s next) ≡ Broken) where
        pub broken_rest : r.tried + 3 ≤ first.tried + length s
        broken_rest = omega (arith, g.counts, g.there, broken_least (rest s next) e, ap length (rest_is s next), length-drop next s)

        pub is_broken_lem : {x : State} → x ≡ tried r (rest s next)
            → (stopped x (length s) stop.Broken ≡ passed size first s) × Left (length s) x.tried first.tried s
        is_broken_lem last =
            let one = ap (λ (x : State). x.tried) last ∙ one_tried r (rest s next) in
            (rw (last, rest_is s next) (rw (rw (rest_is s next) at e) at g.same), (le_refl (length s), omega (arith, one, broken_rest)))

      module _ (k : ℕ) (e : next_record (rest s next) ≡ Whole k) where
        pub whole_rest : (3 ≤ k) × (next + k ≤ length s) × (k ≤ length (rest s next)) × (r.tried + k ≤ first.tried + length s)
        whole_rest =
            let least = whole_least (rest s next) k e in
            let most = (whole_not_broken (rest s next) k e).0 in
            let size : length (rest s next) ≡ length s - next = ap length (rest_is s next) ∙ length-drop next s in
            (least, omega (arith, most, size, g.there), most, omega (arith, most, size, g.there, g.counts))

        pub is_whole : {x : State} → x ≡ tried r (take k (rest s next)) → Going x (next + k)
        is_whole more =
            let one = ap (λ (x : State). x.tried) more ∙ one_tried r (take k (rest s next)) in
            let (least, inside, most, few) = whole_rest in
            record {
              left = g.left;
              there = inside;
              enough = omega (arith, g.enough);
              same = rw (more, rest_is s next) (rw (rw (rest_is s next) at e) at g.same);
              counts = omega (arith, one, g.counts, inside, least);
            }

    module _ (r : State) (at : ℕ) (g : Going r at) where
      pub full : size < length r.text + room → stopped r at stop.Full ≡ passed size first s
      unfolding pass_of
      full h = go g.left g.enough g.same
        where
          short : ltb size (length r.text + room) ≡ true
          short = lt-ltb size (length r.text + room) h

          go : (n : ℕ) → length s < at + n → pass_of n size r s at ≡ passed size first s → stopped r at stop.Full ≡ passed size first s
          go zero e same = absurd (omega (arith, g.there))
          go (suc n) e same = rw short at same

      pub counted_hours : {taken : ℕ} {x : State} → length r.text + room ≤ size → HoursTaken r (rest s at) taken x → Counted x (at + taken)
      counted_hours {taken} {x} h hours_taken =
          let (next, after, inside) = rw (rest_is s at) at hours_taken in
          go taken x next after found.left found.enough found.same
        where
          run : Run
          run = first_hours r.book (drop at s)

          short : ltb size (length r.text + room) ≡ false
          short = le-ltb size (length r.text + room) h

          found : AfterHours g.left r at 0 0 run
          found = after_hours (length (drop at s)) g.left r at 0 0 short (omega (arith, g.there)) (omega (arith, g.enough))

          hours : run.count ≡ found.hours
          hours = omega (arith, found.count_is)

          go : (taken : ℕ) (x : State) → taken ≡ run.next → x ≡ after_run r run → (n : ℕ) → length s < at + run.next + n
              → pass_of g.left size r s (at + 0) ≡ pass_of n size (counted r run.book found.hours) s (at + run.next)
              → Counted x (at + taken)
          go taken x e after zero enough same = absurd (omega (arith, found.there))
          go taken x e after (suc n) enough same =
              rw (e, after)
              (record {
                left = n;
                there = found.there;
                enough = enough;
                same = rw hours (sym (tries_next n (counted r run.book found.hours) (at + run.next) short) ∙ sym same ∙ rw (add-zero at) g.same);
                counts = omega (arith, g.counts, hours, found.grows, found.there);
                has_room = h;
              })

-- with room, and counts that fit, the last lines are those of the definition
pub close_room : (size : ℕ) (r : State) → length r.text + pair_most ≤ size → close_answer size r ≡ Some (closed r)
unfolding close_answer
close_room size r h = simp (le-leb _ _ h)

pub finish_room : (size : ℕ) (r : State) (s : List ℕ) → length r.text + room ≤ size → r.tried + 1 < 2 ^ 64 → finish_answer size r s ≡ Some (closed (ended r s))
finish_room size r [] has_room few = close_room size r (omega arith)
finish_room size r (b ∷ s) has_room few = simp (lt-ltb _ _ few, le-leb _ _ has_room)

-- where the counts fit, all records are tried
pub passed_all : (size : ℕ) (r : State) (s : List ℕ) {t : List ℕ} → t ≡ s → r.tried + length t < 2 ^ 64 → pass_answer size r t ≡ passed size r s
unfolding pass_answer countable
passed_all size r s {t} e few = rw (sym e) (rw (lt-ltb (r.tried + length t) (2 ^ 64) few, take_all (length t) t (le_refl (length t))))
