-- One record, hour, string or entry more. These come before all that rests on them.
use Rattle.std.proofs.Common.{Ok, ◌≡◌, refl, ◌∙◌, Bool, true, false, cond, List, [], ◌∷◌, ◌++◌, map, reverse, ℕ, zero, suc, ◌+◌, pos, ◌+ℤ◌, eqb, eq-eqb, eqb-true}
use Rattle.numbers.proofs.Tests.{both_true}
use Rattle.std.proofs.lemmas.List.{map-append, reverse-append}
use Rattle.numbers.specs.Lists.{list_below}
use Rattle.calendar.specs.Peak.{day_hours}
use Rattle.records.specs.declared.format.Record.TheVariants.{Commitment, Hour, Load, Owner, Day}
use Rattle.records.specs.declared.format.CommitmentRecord.{CommitmentRecord}
use Rattle.records.specs.declared.format.HourRecord.{HourRecord}
use Rattle.records.specs.declared.format.LoadRecord.{LoadRecord}
use Rattle.records.specs.declared.format.OwnerRecord.{OwnerRecord}
use Rattle.records.specs.declared.format.DayRecord.{DayRecord}
use Rattle.records.specs.Format.{day_format}
use Rattle.records.specs.Decoded.{decoded}
use Rattle.records.specs.Kinds.{Decoded, numbers_of, is_of, day_from}
use Rattle.rules.specs.Hours.{counted}
use Rattle.rules.specs.Days.{day_hour}
use Rattle.book.specs.Days.{hour_strings}
use Rattle.book.proofs.Days.{hours_read, hour_string}
use Rattle.promise.specs.Reckoning.{latest_commitment, latest_load, latest_owner, sum_over, counts_of, number_for, with_day_hours, joined, accepted_with, line_for}
use Rattle.promise.specs.Promise.{Entry, number_of, line_of, is_post, total}

pub hour_counts_once : (y : ℕ) (h : HourRecord) (hs : List HourRecord) → counts_of y (h ∷ hs) ≡ counted y (counts_of y hs) h
unfolding sum_over counted
hour_counts_once y h hs = refl

-- what no Hour moves no hours of a Day move, and no record of which it is known
module _ {A : Type 0} (f : List Decoded → A) (kept : (h : HourRecord) (acc : List Decoded) → f (Ok (Hour h) ∷ acc) ≡ f acc) (acc : List Decoded) where
  pub hours_keep : (d : DayRecord) (n : ℕ) → f (with_day_hours acc d n) ≡ f acc
  unfolding with_day_hours
  hours_keep d zero = refl
  hours_keep d (suc n) = kept (day_hour d (n + 1)) (with_day_hours acc d n) ∙ hours_keep d n

  pub joined_keeps : (r : Decoded) → (is_of day_format r ≡ false → f (r ∷ acc) ≡ f acc) → f (joined acc r) ≡ f acc
  joined_keeps r other = go (is_of day_format r) refl
    where
      go : (t : Bool) → is_of day_format r ≡ t → f (cond t (with_day_hours acc (day_from (numbers_of r)) 24) (r ∷ acc)) ≡ f acc
      go true q = hours_keep (day_from (numbers_of r)) 24
      go false q = other q

-- the list with a Day's first hours, by their strings
hours_read_in : (acc : List Decoded) (d : DayRecord) (n : ℕ) → with_day_hours acc d n ≡ reverse (map decoded (list_below n (hour_string d))) ++ acc
unfolding with_day_hours list_below
hours_read_in acc d zero = refl
hours_read_in acc d (suc n) =
    let f : ℕ → List ℕ = hour_string d in
    let last : map decoded (list_below n f ++ (f n ∷ [])) ≡ map decoded (list_below n f) ++ (Ok (Hour (day_hour d (n + 1))) ∷ [])
    = map-append decoded (list_below n f) (f n ∷ []) ∙ rw (hours_read d (n + 1)) refl in
    rw (last, reverse-append (map decoded (list_below n f)) (Ok (Hour (day_hour d (n + 1))) ∷ []), ← hours_read_in acc d n)

module _ (acc : List Decoded) where
  pub hours_stand : (s : List ℕ) (d : DayRecord) → number_for acc s ≡ 0 → decoded s ≡ Ok (Day d) → accepted_with acc s ≡ with_day_hours acc d day_hours
  unfolding accepted_with
  hours_stand s d e is = rw (e, is)

  pub commitment_replaces : (c : CommitmentRecord) (k : ℕ) → c.number ≡ k + 1 → latest_commitment (Ok (Commitment c) ∷ acc) k ≡ c
  unfolding latest_commitment
  commitment_replaces c k e = rw (eq-eqb c.number (k + 1) e)

  pub load_replaces : (l : LoadRecord) (a p : ℕ) → l.area ≡ a + 1 → l.party ≡ p + 1 → latest_load (Ok (Load l) ∷ acc) a p ≡ l
  unfolding latest_load
  load_replaces l a p e f = rw (eq-eqb l.area (a + 1) e, eq-eqb l.party (p + 1) f)

  pub owner_replaces : (o : OwnerRecord) (u : ℕ) → o.unit ≡ u + 1 → latest_owner (Ok (Owner o) ∷ acc) u ≡ o
  unfolding latest_owner
  owner_replaces o u e = rw (eq-eqb o.unit (u + 1) e)

  pub record_joins : (s : List ℕ) → number_for acc s ≡ 0 → is_of day_format (decoded s) ≡ false → accepted_with acc s ≡ decoded s ∷ acc
  unfolding accepted_with
  record_joins s e other = rw (e, other)

  pub hours_join : (s : List ℕ) (d : DayRecord) → number_for acc s ≡ 0 → decoded s ≡ Ok (Day d) → accepted_with acc s ≡ reverse (map decoded (hour_strings d)) ++ acc
  unfolding accepted_with
  hours_join s d e is = rw (e, is) (hours_read_in acc d day_hours)

  pub list_kept : (s : List ℕ) → eqb (number_for acc s) 0 ≡ false → accepted_with acc s ≡ acc
  unfolding accepted_with
  list_kept s q = rw q

  pub refused_lines : (s : List ℕ) (p : ℕ) → eqb (number_for acc s) 0 ≡ false → line_for acc s p ≡ pos 0
  unfolding line_for
  refused_lines s p q = rw q

pub post_accepted : (a : ℕ) (e : Entry) → is_post a e ≡ true → number_of e ≡ 0
post_accepted a e q = eqb-true (number_of e) 0 (both_true {a = eqb (number_of e) 0} q).0

pub post_adds : (a p : ℕ) (e : Entry) (es : List Entry) → is_post a e ≡ true → total a p (e ∷ es) ≡ line_of e p +ℤ total a p es
unfolding total
post_adds a p e es q = rw q
