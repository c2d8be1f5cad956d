-- A book and a list of accepted records that hold the same, field by field.
use Rattle.std.proofs.Common.{◌≡◌, refl, sym, ap, ◌∙◌, Bool, true, false, cond, ◌&&◌, List, [], ◌∷◌, ℕ, ◌+◌, ◌<◌, arith, pos, eqb, length}
use Rattle.std.proofs.Common.{get_or, set, ltb-false}
use Rattle.numbers.specs.Range.{within}
use Rattle.numbers.specs.Lists.{list_below, element}
use Rattle.numbers.proofs.Tests.{within_from, within_to}
use Rattle.numbers.proofs.Lists.{element_below, stored_at, each_made}
use Rattle.money.specs.declared.Cents.{Cents}
use Rattle.money.specs.Quantities.{cents}
use Rattle.records.specs.declared.format.UnitRecord.{UnitRecord}
use Rattle.records.specs.declared.format.HourRecord.{HourRecord}
use Rattle.records.specs.declared.format.LoadRecord.{LoadRecord}
use Rattle.records.specs.declared.format.OwnerRecord.{OwnerRecord}
use Rattle.records.specs.Format.{area_count, unit_count, commitment_count, party_count, year_format, area_format, unit_format, commitment_format, hour_format}
use Rattle.records.specs.Format.{load_format, post_format, owner_format, day_format}
use Rattle.records.specs.Kinds.{Decoded, is_of}
use Rattle.rules.specs.Hours.{hour_index}
use Rattle.rules.specs.Facts.{no_area, no_commitment, is_entered}
use Rattle.rules.specs.Rules.{index, area_index, unit_index, party_index, asked}
use Rattle.rules.proofs.Named.{index_below, named_by, named_index}
use Rattle.rules.proofs.AcceptedRows.{Accepted}
use Rattle.rules.proofs.ByKind.{paired, as_made, fit, by_kind}
use Rattle.book.specs.declared.UnitEntry.{UnitEntry}
use Rattle.book.specs.Books.{Book, no_entry, no_obligations, no_sums, obligation_in, facts_of_book, posted_in, empty_book, Sound}
use Rattle.book.specs.Entered.{new_unit, with_hour, with_owner, posted_after, obligations_after, units_after, after}
use Rattle.promise.specs.Reckoning.{year_of, latest_area, unit_of, latest_commitment, latest_load, latest_obligation, latest_owner, accepted_hours, sum_over, last_index, facts_of_list}
use Rattle.promise.specs.Reckoning.{counts_of, reckoned_due, reckoned_paid}
use Rattle.promise.proofs.OneMore.{hour_counts_once}
use Rattle.promise.proofs.AcceptedLists.{Kept, before_year}

-- a unit with this owner and these hours, and the unit at index k as the list has it
abbrev unit_with : ℕ → UnitRecord → OwnerRecord → List HourRecord → UnitEntry
unit_with y entry owner hours = record { entry = entry; owner = owner.party; hours = counts_of y hours; last = last_index y hours }

abbrev unit_in : List Decoded → ℕ → UnitEntry
unit_in acc k = unit_with (year_of acc) (unit_of acc k) (latest_owner acc k) (accepted_hours acc k)

hour_joins : (y : ℕ) (entry : UnitRecord) (owner : OwnerRecord) (h : HourRecord) (hs : List HourRecord)
    → with_hour y (unit_with y entry owner hs) h ≡ unit_with y entry owner (h ∷ hs)
unfolding last_index
hour_joins y entry owner h hs = λ i. record { entry = entry; owner = owner.party; hours = sym (hour_counts_once y h hs) i; last = hour_index y h }

pub record Agrees (b : Book) (acc : List Decoded) : Type 0 where
  pub year : b.year ≡ year_of acc
  pub areas : (k : ℕ) → get_or b.areas k no_area ≡ latest_area acc k
  pub units : (k : ℕ) → get_or b.units k no_entry ≡ unit_in acc k
  pub commitments : (k : ℕ) → get_or b.commitments k no_commitment ≡ latest_commitment acc k
  pub obligations : (a p : ℕ) → obligation_in b.obligations a p ≡ latest_obligation acc a p
  pub posted : (a p : ℕ) → a < area_count → p < party_count → posted_in b.posted a p ≡ reckoned_paid acc a p

-- then their facts are the same
pub agreed_facts : (b : Book) (acc : List Decoded) → Agrees b acc → facts_of_book b ≡ facts_of_list acc
unfolding facts_of_list
agreed_facts b acc g = λ i. record {
  year = g.year i;
  area = λ k. g.areas k i;
  unit = λ k. (g.units k i).entry;
  commitment = λ k. g.commitments k i;
  obligation = λ a p. g.obligations a p i;
  owner = λ k. (g.units k i).owner;
  hours = λ k. (g.units k i).hours;
  last = λ k. (g.units k i).last;
}

-- every place of a list of one value holds that value, and past the list's end the default does
all_one : {A : Type 0} (n : ℕ) (x : A) (k : ℕ) → get_or (list_below n (λ j. x)) k x ≡ x
all_one n x k = each_made (λ c. c ≡ x) x n (λ j. x) refl (λ j h. refl) k

pub agrees_none : Agrees empty_book []
unfolding year_of latest_area unit_of latest_commitment latest_load latest_owner accepted_hours sum_over last_index reckoned_paid
agrees_none =
    record {
      year = refl;
      areas = all_one area_count no_area;
      units = all_one unit_count no_entry;
      commitments = all_one commitment_count no_commitment;
      obligations = λ a p. rw (all_one area_count no_obligations a) (all_one party_count 0 p);
      posted = λ a p ha hp.
          ap (λ (row : List Cents). (get_or row p (cents (pos 0))).0) (all_one area_count no_sums a) ∙ ap (λ (c : Cents). c.0) (all_one party_count (cents (pos 0)) p);
    }

module _ {A : Type 0} where
  -- a record stored at the index of its number n
  keyed : (most n : ℕ) (l : List A) (x d : A) (k : ℕ) {old : A} → within 1 most n ≡ true → length l ≡ most → get_or l k d ≡ old
      → get_or (set l (index most n) x) k d ≡ cond (eqb n (k + 1)) x old
  keyed most n l x d k ok long e =
      let inside : index most n < length l = rw long (index_below most n (omega (arith, within_from 1 most n ok, within_to 1 most n ok))) in
      stored_at l (index most n) k x d inside ∙ rw (named_by most n k ok, e)

  -- by a record that has the key, where there is one
  keyed_more : (t : Bool) (most n : ℕ) (l : List A) (x d : A) (k : ℕ) {old : A} → (t ≡ true → within 1 most n ≡ true) → length l ≡ most → get_or l k d ≡ old
      → get_or (cond t (set l (index most n) x) l) k d ≡ cond t (cond (eqb n (k + 1)) x old) old
  keyed_more t most n l x d k ok long e = paired (λ m y. get_or m k d ≡ y) t (λ q. keyed most n l x d k (ok q) long e) e

module _ (b : Book) (acc : List Decoded) (s : Sound b) (k : Kept acc) (g : Agrees b acc) where
  -- a new unit has no owner and no hours
  new_unit_lem : (u : UnitRecord) (j : ℕ) → within 1 unit_count u.unit ≡ true → is_entered (unit_of acc (unit_index u.unit)).unit ≡ false
      → get_or (set b.units (unit_index u.unit) (new_unit u)) j no_entry
      ≡ unit_with (year_of acc) (cond (eqb u.unit (j + 1)) u (unit_of acc j)) (latest_owner acc j) (accepted_hours acc j)
  unfolding sum_over last_index
  new_unit_lem u j ok first =
      keyed unit_count u.unit b.units (new_unit u) no_entry j ok s.units.long (g.units j)
      ∙ paired (λ x e. x ≡ unit_with (year_of acc) e (latest_owner acc j) (accepted_hours acc j)) (eqb u.unit (j + 1))
      (λ q. rw (k.no_owner_lem j (none q), k.no_hours_lem j (none q))) refl
    where
      none : eqb u.unit (j + 1) ≡ true → (unit_of acc j).unit ≡ 0
      none q =
          let new : (unit_of acc (unit_index u.unit)).unit ≡ 0 = omega (arith, ltb-false 0 (unit_of acc (unit_index u.unit)).unit first) in
          rw (named_index unit_count u.unit j ok q) at new

  hour_more : (h : HourRecord) (j : ℕ) → within 1 unit_count h.unit ≡ true
      → get_or (set b.units (unit_index h.unit) (with_hour b.year (get_or b.units (unit_index h.unit) no_entry) h)) j no_entry
      ≡ unit_with (year_of acc) (unit_of acc j) (latest_owner acc j) (cond (eqb h.unit (j + 1)) (h ∷ accepted_hours acc j) (accepted_hours acc j))
  unfolding last_index
  hour_more h j ok =
      keyed unit_count h.unit b.units _ no_entry j ok s.units.long (g.units j)
      ∙ paired (λ x hs. x ≡ unit_with (year_of acc) (unit_of acc j) (latest_owner acc j) hs) (eqb h.unit (j + 1))
      (λ q. rw (named_index unit_count h.unit j ok q, g.year, g.units j) (hour_joins (year_of acc) (unit_of acc j) (latest_owner acc j) h (accepted_hours acc j))) refl

  owner_more : (o : OwnerRecord) (j : ℕ) → within 1 unit_count o.unit ≡ true
      → get_or (set b.units (unit_index o.unit) (with_owner (get_or b.units (unit_index o.unit) no_entry) o)) j no_entry
      ≡ unit_with (year_of acc) (unit_of acc j) (cond (eqb o.unit (j + 1)) o (latest_owner acc j)) (accepted_hours acc j)
  owner_more o j ok =
      keyed unit_count o.unit b.units _ no_entry j ok s.units.long (g.units j)
      ∙ paired (λ x owner. x ≡ unit_with (year_of acc) (unit_of acc j) owner (accepted_hours acc j)) (eqb o.unit (j + 1))
      (λ q. rw (named_index unit_count o.unit j ok q, g.units j)) refl

  load_stored : (l : LoadRecord) (a p : ℕ) → within 1 area_count l.area ≡ true → within 1 party_count l.party ≡ true
      → obligation_in (obligations_after b l) a p
      ≡ (cond (eqb l.area (a + 1) && eqb l.party (p + 1)) l (latest_load acc a p)).obligation
  load_stored l a p area party =
      ap (λ (row : List ℕ). element row p) (keyed area_count l.area b.obligations _ no_obligations a area s.obligations.long refl) ∙ go (eqb l.area (a + 1)) refl
    where
      row : ℕ → List ℕ
      row i = get_or b.obligations i no_obligations

      go : (t : Bool) → eqb l.area (a + 1) ≡ t
          → element (cond t (set (row (area_index l.area)) (party_index l.party) l.obligation) (row a)) p
          ≡ (cond (t && eqb l.party (p + 1)) l (latest_load acc a p)).obligation
      go true q =
          rw (named_index area_count l.area a area q)
          (keyed party_count l.party (row a) l.obligation 0 p party (s.obligations.each a).long (g.obligations a p)
          ∙ paired (λ z (x : LoadRecord). z ≡ x.obligation) (eqb l.party (p + 1)) (λ k. refl) refl)
      go false q = g.obligations a p

  due_posted : (n a p : ℕ) → within 1 area_count n ≡ true → a < area_count → p < party_count
      → posted_in (posted_after b (area_index n)) a p ≡ cond (eqb n (a + 1)) (reckoned_due acc a p) (reckoned_paid acc a p)
  unfolding reckoned_due posted_after
  due_posted n a p ok ha hp =
      ap (λ (row : List Cents). (get_or row p (cents (pos 0))).0) (keyed area_count n b.posted _ no_sums a ok s.posted.long refl)
      ∙ paired (λ (row : List Cents) z. (get_or row p (cents (pos 0))).0 ≡ z) (eqb n (a + 1))
      (λ q. ap (λ (c : Cents). c.0) (element_below party_count _ p (cents (pos 0)) hp) ∙ rw (named_index area_count n a ok q, agreed_facts b acc g))
      (g.posted a p ha hp)

  -- the book after an accepted record that is no Day, and the list with it
  module _ (r : Decoded) (ok : Accepted (asked (facts_of_list acc) r) r) (no_day : is_of day_format r ≡ false) where
    -- a Year comes before all units
    unit_agrees : (j : ℕ) → get_or (units_after b r) j no_entry ≡ unit_in (r ∷ acc) j
    unfolding year_of unit_of latest_owner accepted_hours facts_of_list sum_over last_index
    unit_agrees j =
        let P : Decoded → Type 0 = λ x. get_or (units_after b x) j no_entry ≡ unit_in (x ∷ acc) j in
        by_kind P r year_format tt (λ q. g.units j ∙ rw (before_year acc k r ok q))
        (λ y. by_kind P r unit_format tt (λ q. new_unit_lem _ j (fit ok unit_format tt q).0 (as_made (facts_of_list acc) r ok unit_format tt q).first_unit)
        (λ u. by_kind P r hour_format tt (λ q. hour_more _ j (fit ok hour_format tt q).0)
        (λ h. by_kind P r owner_format tt (λ q. owner_more _ j (fit ok owner_format tt q).0) (λ o. rw (y, u, h, o, no_day) (g.units j)))))

    pub agrees_more : Agrees (after b r) (r ∷ acc)
    unfolding year_of latest_area latest_commitment latest_load reckoned_paid
    agrees_more =
        record {
          year = paired (λ x y. x ≡ y) (is_of year_format r) (λ q. refl) g.year;
          areas = λ j. keyed_more (is_of area_format r) area_count _ b.areas _ no_area j (λ q. (fit ok area_format tt q).0) s.areas.long (g.areas j);
          units = unit_agrees;
          commitments = λ j.
              keyed_more (is_of commitment_format r) commitment_count _ b.commitments _ no_commitment j (λ q. (fit ok commitment_format tt q).0) s.commitments.long
              (g.commitments j);
          obligations = λ a p.
              paired (λ l (x : LoadRecord). obligation_in l a p ≡ x.obligation) (is_of load_format r)
              (λ q. load_stored _ a p (fit ok load_format tt q).0 (fit ok load_format tt q).1.0) (g.obligations a p);
          posted = λ a p ha hp.
              paired (λ l x. posted_in l a p ≡ x) (is_of post_format r) (λ q. due_posted _ a p (fit ok post_format tt q).0 ha hp) (g.posted a p ha hp);
        }
