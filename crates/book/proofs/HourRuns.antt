-- A run of hours goes on with each accepted record and stops at the first that is anything else or is refused.
use Rattle.std.proofs.Common.{◌≡◌, refl, sym, ap, ◌∙◌, Bool, true, false, cond, ◌&&◌, ◌||◌, Some, None, Ok, List, [], ◌∷◌, ℕ, zero, suc, ◌+◌, ◌-◌, ◌≤◌, ◌<◌, arith, eqb, ne_eqb, length}
use Rattle.std.proofs.Common.{take, drop, length-drop, length-take-le, take_all, add-one, add-zero, add_assoc, min, leb, leb-true, leb-false}
use native.Mathlib.Nat.{min-le_right}
use borrow.Author.Tests.{eqb-false}
use Rattle.std.proofs.lemmas.List.{drop-drop, drop-take, take_min}
use Rattle.numbers.specs.Range.{within}
use Rattle.records.specs.declared.format.HourRecord.{HourRecord}
use Rattle.records.specs.declared.format.DayRecord.{DayRecord}
use Rattle.records.specs.declared.format.Record.TheVariants.{Hour, Day}
use Rattle.records.specs.declared.stream.Next.{Next}
use Rattle.records.specs.declared.stream.Next.TheVariants.{Whole, Broken, Partial}
use Rattle.records.specs.Decoded.{decoded}
use Rattle.records.specs.Stream.{next_record, on_next, first_hour, first_day}
use Rattle.records.specs.Format.{Format, bytes_of, hour_format, day_format}
use Rattle.records.specs.Kinds.{is_of, hour_from, day_from}
use Rattle.records.proofs.OneKind.{is_made}
use Rattle.records.proofs.FormatLaws.{whole_not_broken, whole_least}
use Rattle.records.proofs.FirstRecords.{FirstIs, first_is, none_is}
use Rattle.rules.specs.Rules.{index, area_index}
use Rattle.book.specs.Books.{Book}
use Rattle.book.specs.Entered.{Answer, no_lines, answer, entered}
use Rattle.book.specs.Steps.{Moved}
use Rattle.book.specs.Runs.{is_accepted_as, first_accepted, hour_kinds, next_hours, Run, run, hours_of, first_hours, hours_between}

-- an Hour and a Day name no area
pub no_area_lem : 0 ≡ area_index 0
unfolding index within
no_area_lem = refl

-- the next record, if it is of one format
module _ (f : Format) (b : Book) (s : List ℕ) where
  next_left : ((k : ℕ) → next_record s ≡ Whole k → is_accepted_as (f ∷ []) b (take k s) ≡ false) → 0 ≡ first_accepted (f ∷ []) b s
  unfolding first_accepted
  next_left not_one = go (next_record s) refl
    where
      go : (n : Next) → next_record s ≡ n → 0 ≡ on_next 0 0 (λ k. cond (is_accepted_as (f ∷ []) b (take k s)) k 0) n
      go Partial q = refl
      go Broken q = refl
      go (Whole k) q = rw (not_one k q)

  module _ {A : Type 0} {given : List ℕ → A} {x : A} (g : FirstIs f given s x) where
    pub refused : eqb (entered b (take (bytes_of f) s)).number 0 ≡ false → 0 ≡ first_accepted (f ∷ []) b s
    unfolding first_accepted
    refused q = rw (g.next_is, g.is, q)

    pub taken : {b' : Book} → answer 0 no_lines b' ≡ entered b (take (bytes_of f) s) → bytes_of f ≡ first_accepted (f ∷ []) b s
    unfolding first_accepted
    taken e = rw (g.next_is, g.is, sym (ap (λ (a : Answer). a.number) e))

module _ (b : Book) (s : List ℕ) where
  pub no_hour : None ≡ first_hour s → 0 ≡ first_accepted (hour_format ∷ []) b s
  unfolding first_hour
  no_hour e = next_left hour_format b s (λ k q. rw (none_is hour_format tt (λ l. refl) hour_from s e k q))

  pub no_day : None ≡ first_day s → 0 ≡ first_accepted (day_format ∷ []) b s
  unfolding first_day
  no_day e = next_left day_format b s (λ k q. rw (none_is day_format tt (λ l. refl) day_from s e k q))

module _ (s : List ℕ) where
  pub an_hour : {h : HourRecord} → Some h ≡ first_hour s → FirstIs hour_format hour_from s h
  unfolding first_hour
  an_hour e = first_is hour_format tt (λ l. refl) hour_from s e

  pub hour_is : {h : HourRecord} → FirstIs hour_format hour_from s h → Ok (Hour h) ≡ decoded (take 12 s)
  hour_is g = ap (λ (x : HourRecord). Ok (Hour x)) g.made_is ∙ sym (is_made hour_format (decoded (take 12 s)) tt g.is)

  pub a_day : {d : DayRecord} → Some d ≡ first_day s → FirstIs day_format day_from s d
  unfolding first_day
  a_day e = first_is day_format tt (λ l. refl) day_from s e

  pub day_is : {d : DayRecord} → FirstIs day_format day_from s d → Ok (Day d) ≡ decoded (take 9 s)
  day_is g = ap (λ (x : DayRecord). Ok (Day x)) g.made_is ∙ sym (is_made day_format (decoded (take 9 s)) tt g.is)

-- a record that is taken is a whole one
pub record TakenWhole (s : List ℕ) (k : ℕ) : Type 0 where
  pub next_is : next_record s ≡ Whole k
  pub there : k ≤ length s

module _ (fs : List Format) (b : Book) (s : List ℕ) where
  abbrev of_next : Next → ℕ
  of_next = on_next 0 0 (λ k. cond (is_accepted_as fs b (take k s)) k 0)

  pub taken_whole : (k : ℕ) → (k ≡ 0 → ⊥) → k ≡ first_accepted fs b s → TakenWhole s k
  unfolding first_accepted
  taken_whole k some e = go (next_record s) refl e
    where
      go : (n : Next) → next_record s ≡ n → k ≡ of_next n → TakenWhole s k
      go Partial q e = absurd (some e)
      go Broken q e = absurd (some e)
      go (Whole j) q e = of (is_accepted_as fs b (take j s)) e
        where
          of : (t : Bool) → k ≡ cond t j 0 → TakenWhole s k
          of true e = record { next_is = q ∙ ap Whole (sym e); there = omega (arith, e, (whole_not_broken s j q).0) }
          of false e = absurd (some e)

  pub taken_accepted : (k : ℕ) → (k ≡ 0 → ⊥) → k ≡ first_accepted fs b s → is_accepted_as fs b (take k s) ≡ true
  unfolding first_accepted
  taken_accepted k some e = go (next_record s) e
    where
      go : (n : Next) → k ≡ of_next n → is_accepted_as fs b (take k s) ≡ true
      go Partial e = absurd (some e)
      go Broken e = absurd (some e)
      go (Whole j) e = of (is_accepted_as fs b (take j s)) refl e
        where
          of : (t : Bool) → is_accepted_as fs b (take j s) ≡ t → k ≡ cond t j 0 → is_accepted_as fs b (take k s) ≡ true
          of true p e = rw e p
          of false p e = absurd (some e)

-- of one format, or of the other
module _ (f g : Format) (b : Book) (s : List ℕ) where
  either : first_accepted (f ∷ g ∷ []) b s ≡ cond (eqb (first_accepted (f ∷ []) b s) 0) (first_accepted (g ∷ []) b s) (first_accepted (f ∷ []) b s)
  unfolding first_accepted
  either = go (next_record s) refl
    where
      choice : (k : ℕ) → eqb k 0 ≡ false → (p q n : Bool)
          → ◌≡◌ {A = ℕ} (cond ((p || (q || false)) && n) k 0) (cond (eqb (cond ((p || false) && n) k 0) 0) (cond ((q || false) && n) k 0) (cond ((p || false) && n) k 0))
      choice k some true q true = rw some
      choice k some true true false = refl
      choice k some true false false = refl
      choice k some false q n = refl

      go : (n : Next) → next_record s ≡ n
          → of_next (f ∷ g ∷ []) b s n ≡ cond (eqb (of_next (f ∷ []) b s n) 0) (of_next (g ∷ []) b s n) (of_next (f ∷ []) b s n)
      go Partial q = refl
      go Broken q = refl
      go (Whole k) q =
          choice k (ne_eqb k 0 (λ z. omega (arith, z, whole_least s k q))) (is_of f (decoded (take k s))) (is_of g (decoded (take k s))) (eqb (entered b (take k s)).number 0)

-- an Hour, or else a Day
module _ (b : Book) (s : List ℕ) {k : ℕ} (hour : k ≡ first_accepted (hour_format ∷ []) b s) where
  pub of_hour : (k ≡ 0 → ⊥) → k ≡ first_accepted hour_kinds b s
  of_hour some = rw (either hour_format day_format b s, ← hour, ne_eqb k 0 some)

  pub or_day : k ≡ 0 → {j : ℕ} → j ≡ first_accepted (day_format ∷ []) b s → j ≡ first_accepted hour_kinds b s
  or_day none day = rw (either hour_format day_format b s, ← hour, none, day)

-- what follows a place, as the code has it
pub rest_is : (s : List ℕ) (from : ℕ) → take (length s - from) (drop from s) ≡ drop from s
rest_is s from = take_all (length s - from) (drop from s) (omega (arith, length-drop from s))

-- The loop of `hours` at a place, where the bytes from there on are not read yet: what is left to do there is what was to do at first.
pub record HoursLeft (first : Book) (s : List ℕ) (b : Book) (from count : ℕ) : Type 0 where
  pub most : ℕ
  pub inside : from ≤ length s
  pub enough : length s ≤ from + most
  pub few : count ≤ from
  pub left : hours_of most b s from count ≡ first_hours first s

pub begins : (b : Book) (s : List ℕ) → HoursLeft b s b 0 0
begins b s = record { most = length s; inside = omega arith; enough = omega arith; few = omega arith; left = refl }

module _ {first b : Book} {s : List ℕ} {from count : ℕ} (h : HoursLeft first s b from count) where
  -- the record that was taken lies inside
  pub lies_inside : {k : ℕ} → k ≡ next_hours b s from → (k ≡ 0 → ⊥) → from + k ≤ length s
  lies_inside is some = omega (arith, (taken_whole hour_kinds b (drop from s) _ some is).there, length-drop from s, h.inside)

  pub stops : {k : ℕ} → k ≡ next_hours b s from → k ≡ 0 → run from count b ≡ first_hours first s
  unfolding hours_of
  stops {k} is none = go h.most h.left
    where
      go : (n : ℕ) → hours_of n b s from count ≡ first_hours first s → run from count b ≡ first_hours first s
      go zero e = e
      go (suc n) e = rw (sym is, none) at e

  pub goes_on : {k : ℕ} {b' : Book} → k ≡ next_hours b s from → (k ≡ 0 → ⊥) → Moved b (drop from s) k b'
      → HoursLeft first s b' (from + k) (count + 1)
  unfolding hours_of
  goes_on {k} {b'} is some moved = go h.most h.enough h.left
    where
      whole : TakenWhole (drop from s) k
      whole = taken_whole hour_kinds b (drop from s) k some is

      go : (n : ℕ) → length s ≤ from + n → hours_of n b s from count ≡ first_hours first s → HoursLeft first s b' (from + k) (count + 1)
      go zero enough e = absurd (omega (arith, whole.there, length-drop from s, h.inside, some))
      go (suc n) enough e =
          record {
            most = n;
            inside = omega (arith, whole.there, length-drop from s, h.inside);
            enough = omega (arith, some);
            few = omega (arith, h.few, some);
            left = rw (moved, add-one count, ne_eqb k 0 some) (rw (sym is, ne_eqb k 0 some) at e);
          }

-- where a run of hours ends: inside, and after no more records than bytes
record Ended (s : List ℕ) (x : Run) : Type 0 where
  inside : x.next ≤ length s
  few : x.count ≤ x.next

hours_end : (m : ℕ) (b : Book) (s : List ℕ) (from count : ℕ) → from ≤ length s → count ≤ from → Ended s (hours_of m b s from count)
unfolding hours_of
hours_end zero b s from count inside few = record { inside = inside; few = few }
hours_end (suc m) b s from count inside few = go (eqb k 0) refl (hours_end m (entered b (take k (drop from s))).book s (from + k) (suc count))
  where
    k : ℕ
    k = next_hours b s from

    go : (t : Bool) → eqb k 0 ≡ t
        → (from + k ≤ length s → suc count ≤ from + k → Ended s (hours_of m (entered b (take k (drop from s))).book s (from + k) (suc count)))
        → Ended s (hours_of (suc m) b s from count)
    go true q rest = rw q (record { inside = inside; few = few })
    go false q rest =
        let some : (k ≡ 0 → ⊥) = eqb-false k 0 q in
        rw q (rest (omega (arith, (taken_whole hour_kinds b (drop from s) k some refl).there, length-drop from s)) (omega (arith, some)))

pub hours_ended : (b : Book) (s : List ℕ) {taken count : ℕ} {after : Book} → run taken count after ≡ first_hours b s → (taken ≤ length s) × (count ≤ taken)
hours_ended b s e =
    let end = hours_end (length s) b s 0 0 (omega arith) (omega arith) in
    let next = ap (λ (x : Run). x.next) e in
    (omega (arith, next, end.inside), omega (arith, next, ap (λ (x : Run). x.count) e, end.few))

-- From another place on, of the bytes that lie there, it is the same run.
moved_by : (s : List ℕ) (from n k count : ℕ) (b : Book) → let there = hours_of n b (drop from s) k count in
    hours_of n b s (from + k) count ≡ run (from + there.next) there.count there.book
unfolding hours_of
moved_by s from zero k count b = refl
moved_by s from (suc n) k count b = rw (ap (first_accepted hour_kinds b) (sym (drop-drop k from s)), sym (drop-drop k from s)) (go (eqb size 0) (moved_by s from n (k + size) (suc count) b'))
  where
    t : List ℕ
    t = drop from s

    size : ℕ
    size = next_hours b t k

    b' : Book
    b' = (entered b (take size (drop k t))).book

    there : Run
    there = hours_of n b' t (k + size) (suc count)

    go : (none : Bool) → hours_of n b' s (from + (k + size)) (suc count) ≡ run (from + there.next) there.count there.book
        → cond none (run (from + k) count b) (hours_of n b' s (from + k + size) (suc count))
        ≡ run (from + (cond none (run k count b) there).next) (cond none (run k count b) there).count (cond none (run k count b) there).book
    go true e = refl
    go false e = rw (add_assoc from k size) e

-- A run between two places is that of the bytes between them.
module _ (b : Book) (s : List ℕ) (from to : ℕ) where
  abbrev later : Run → Run
  later r = run (from + r.next) r.count r.book

  pub none_between : min to (length s) ≤ from → hours_between b s from to ≡ run (from + 0) 0 b
  unfolding hours_of
  none_between behind =
      let none : min to (length s) - from ≡ 0 = omega (arith, behind) in
      rw none (ap (λ (at : ℕ). run at 0 b) (sym (add-zero from)))

  pub some_between : {n : ℕ} → from ≤ min to (length s) → n ≡ min to (length s) - from →
      let t = take n (drop from s) in hours_between b s from to ≡ run (from + (first_hours b t).next) (first_hours b t).count (first_hours b t).book
  some_between {n} inside is =
      let cut : min to (length s) ≡ from + n = omega (arith, inside, is) in
      let same : drop from (take to s) ≡ take n (drop from s) = ap (drop from) (sym (take_min to s) ∙ ap (λ (m : ℕ). take m s) cut) ∙ drop-take from n s in
      let long : length (take n (drop from s)) ≡ n = length-take-le n (drop from s) (omega (arith, is, length-drop from s, min-le_right to (length s))) in
      ap (λ (m : ℕ). hours_of m b (take to s) from 0) (sym is) ∙ ap (λ (at : ℕ). hours_of n b (take to s) at 0) (sym (add-zero from))
      ∙ moved_by (take to s) from n 0 0 b ∙ ap (λ (l : List ℕ). later (hours_of n b l 0 0)) same
      ∙ ap (λ (m : ℕ). later (hours_of m b (take n (drop from s)) 0 0)) (sym long)

  -- whatever the places
  pub run_of_part : let t = take (min to (length s) - from) (drop from s) in
      hours_between b s from to ≡ run (from + (first_hours b t).next) (first_hours b t).count (first_hours b t).book
  unfolding hours_of
  run_of_part = go (leb from (min to (length s))) refl
    where
      go : (i : Bool) → leb from (min to (length s)) ≡ i → let t = take (min to (length s) - from) (drop from s) in
          hours_between b s from to ≡ run (from + (first_hours b t).next) (first_hours b t).count (first_hours b t).book
      go true i = some_between (leb-true from (min to (length s)) i) refl
      go false i =
          let behind : min to (length s) < from = leb-false from (min to (length s)) i in
          let none : min to (length s) - from ≡ 0 = omega (arith, behind) in
          none_between (omega (arith, behind)) ∙ rw none refl
