-- Every book that strings lead to is sound: the empty book is, and an answer's book is if the book before it was.
use Rattle.std.proofs.Common.{◌≡◌, refl, ◌∙◌, Bool, true, false, cond, ◌&&◌, List, [], ◌∷◌, inl, inr, ℕ, zero, suc, ◌+◌, ◌*◌, ◌≤◌, ◌<◌, add-mul}
use Rattle.std.proofs.Common.{Ok, arith, pos, nat_abs, eqb, leb, get_or, set, length-set, ltb-true, leb-true, leb-false, eqb-true}
use Rattle.numbers.specs.Lists.{list_below}
use Rattle.numbers.proofs.Tests.{within_from, within_to, both_true}
use Rattle.numbers.proofs.Lists.{length_below, each_made, each_stored}
use Rattle.calendar.specs.DeliveryYear.{delivery_days}
use Rattle.calendar.proofs.DeliveryYears.{day_small}
use Rattle.money.specs.declared.Cents.{Cents}
use Rattle.money.specs.Quantities.{cents}
use Rattle.money.specs.AreaMoney.{due_most}
use Rattle.records.specs.declared.format.UnitRecord.{UnitRecord}
use Rattle.records.specs.declared.format.CommitmentRecord.{CommitmentRecord}
use Rattle.records.specs.declared.format.HourRecord.{HourRecord}
use Rattle.records.specs.declared.format.OwnerRecord.{OwnerRecord}
use Rattle.records.specs.declared.format.DayRecord.{DayRecord}
use Rattle.records.specs.declared.format.AreaRecord.{AreaRecord}
use Rattle.records.specs.declared.format.Record.TheVariants as records
use Rattle.records.specs.declared.format.Record.TheVariants.{Commitment, Hour, Owner, Day}
use Rattle.records.specs.Format.{area_count, unit_count, commitment_count, party_count, year_format, area_format, unit_format, commitment_format, hour_format}
use Rattle.records.specs.Format.{load_format, post_format, owner_format, day_format}
use Rattle.records.specs.Decoded.{decoded}
use Rattle.records.specs.Kinds.{Decoded, is_of}
use Rattle.rules.specs.Facts.{no_area, no_commitment}
use Rattle.rules.specs.Hours.{derated, excused, forced_out, hour_index, service_hour, outage_hour, derated_watts, counted, is_peak}
use Rattle.rules.specs.Days.{day_hour}
use Rattle.rules.specs.Refusal.{days_fit, in_range, refusal_of}
use Rattle.rules.specs.Dues.{due_in}
use Rattle.rules.specs.Rules.{area_index, unit_index, asked_of, asked, refusal}
use Rattle.rules.proofs.ByKind.{chosen, as_made, fit}
use Rattle.rules.proofs.Fields.{numbers_fit_lem, rule_holds}
use Rattle.rules.proofs.AcceptedRows.{Accepted, accepted}
use Rattle.book.specs.declared.UnitEntry.{UnitEntry}
use Rattle.book.specs.Books.{Book, no_entry, facts_of_book, empty_book, no_obligations, no_sums, SoundUnit, SoundCommitment, Array, Sound}
use Rattle.book.specs.Steps.{with_posted}
use Rattle.book.specs.Entered.{new_unit, with_hour, with_hours, with_day, with_owner, posted_after, after, entered, book_after}
use Rattle.book.proofs.AreaNets.{days_in_range}
use Rattle.book.proofs.DayHours.{kept_entry, hour_admitted}

-- places without a unit or a commitment
no_unit_sound : SoundUnit no_entry
no_unit_sound =
    record {
      rating =
          record { installed_bound = omega arith; eford_most = omega arith; eford5_most = omega arith; efordyear_most = omega arith; class_most = omega arith };
      installed_least = inl refl;
      owner = inl refl;
      hours_counted = omega arith;
      last_most = omega arith;
      derated_most = omega arith;
    }

no_commitment_sound : SoundCommitment no_commitment
no_commitment_sound = record { party = inl refl; in_order = omega arith; last_most = omega arith; watts_most = omega arith }

-- an array of the default, and one after a store
module _ {A : Type 0} {P : A → Type 0} {d : A} where
  array_of : (n : ℕ) → P d → Array n P d (list_below n (λ k. d))
  array_of n h = record { long = length_below n (λ k. d); each = each_made P d n (λ k. d) h (λ k b. h) }

  array_stored : {n : ℕ} {l : List A} (i : ℕ) (x : A) → P x → Array n P d l → Array n P d (set l i x)
  array_stored {n} {l} i x new old = record { long = length-set l i x ∙ old.long; each = each_stored P d l i x new old.each }

-- the obligations and the posted sums of an area's parties
abbrev Obligations : List ℕ → Type 0
Obligations = Array party_count (λ o. o ≤ 100000000) 0

abbrev Sums : List Cents → Type 0
Sums = Array party_count (λ (c : Cents). nat_abs c.0 ≤ due_most) (cents (pos 0))

no_obligations_sound : Obligations no_obligations
no_obligations_sound = array_of party_count (omega arith)

no_sums_sound : Sums no_sums
no_sums_sound = array_of party_count (omega arith)

pub empty_sound : Sound empty_book
empty_sound =
    record {
      year_most = omega arith;
      areas = array_of area_count (omega arith);
      units = array_of unit_count no_unit_sound;
      commitments = array_of commitment_count no_commitment_sound;
      obligations = array_of area_count no_obligations_sound;
      posted = array_of area_count no_sums_sound;
    }

-- a unit in range, without hours
new_unit_sound : (y : ℕ) (r : UnitRecord) → in_range y (Ok (records.Unit r)) ≡ true → SoundUnit (new_unit r)
new_unit_sound y r ok =
    let installed = (numbers_fit_lem y (Ok (records.Unit r)) ok).1.1 in
    record {
      rating =
          record {
            installed_bound = within_to _ _ _ installed.0;
            eford_most = within_to _ _ _ installed.1.0;
            eford5_most = within_to _ _ _ installed.1.1.0;
            efordyear_most = within_to _ _ _ installed.1.1.1.0;
            class_most = within_to _ _ _ installed.1.1.1.1.0;
          };
      installed_least = inr (within_from _ _ _ installed.0);
      owner = inl refl;
      hours_counted = omega arith;
      last_most = omega arith;
      derated_most = omega arith;
    }

days_most : (y : ℕ) → delivery_days y ≤ 366
days_most y = within_to 365 366 (delivery_days y) (days_in_range y)

commitment_sound : (y : ℕ) (c : CommitmentRecord) → in_range y (Ok (Commitment c)) ≡ true → SoundCommitment c
unfolding days_fit
commitment_sound y c ok =
    let days = both_true {a = leb c.first c.last} (rule_holds y (Ok (Commitment c)) ok) in
    record {
      party = inr (numbers_fit_lem y (Ok (Commitment c)) ok).1.1.0;
      in_order = leb-true c.first c.last days.0;
      last_most = omega (arith, ltb-true c.last (delivery_days y) days.1, days_most y);
      watts_most = within_to _ _ _ (numbers_fit_lem y (Ok (Commitment c)) ok).1.1.1.1.1.0;
    }

-- no kind is in service and in outage
counted_once : (peak : Bool) (kind : ℕ) → cond (peak && leb kind excused) 1 0 + cond (peak && eqb kind forced_out) 1 0 ≤ 1
counted_once false kind = omega arith
counted_once true kind = go (leb kind excused) refl (eqb kind forced_out) refl
  where
    go : (s : Bool) → leb kind excused ≡ s → (o : Bool) → eqb kind forced_out ≡ o → cond s 1 0 + cond o 1 0 ≤ 1
    go true qs true qo = absurd (omega (arith, leb-true kind excused qs, eqb-true kind forced_out qo))
    go true qs false qo = omega arith
    go false qs true qo = omega arith
    go false qs false qo = omega arith

-- a derating that row 9 let pass is below I, and its hour is one in service
derated_in_service : (peak : Bool) (kind derating installed : ℕ) → (eqb kind derated && leb installed derating) ≡ false
    → cond (peak && eqb kind derated) derating 0 ≤ cond (peak && leb kind excused) 1 0 * installed
derated_in_service false kind derating installed e = omega arith
derated_in_service true kind derating installed e = go (eqb kind derated) refl e
  where
    go : (t : Bool) → eqb kind derated ≡ t → (t && leb installed derating) ≡ false → cond t derating 0 ≤ cond (leb kind excused) 1 0 * installed
    go true q e = rw (eqb-true kind derated q) (omega (arith, leb-false installed derating e))
    go false q e = omega arith

-- a unit with an accepted hour more
with_hour_sound : (y : ℕ) (u : UnitEntry) (h : HourRecord) → SoundUnit u → in_range y (Ok (Hour h)) ≡ true
    → (eqb h.kind derated && leb u.entry.rating.installed.0 h.derating) ≡ false → leb (hour_index y h) u.last ≡ false → SoundUnit (with_hour y u h)
unfolding hour_index counted service_hour outage_hour derated_watts
with_hour_sound y u h s ok not_out later =
    let installed : ℕ = u.entry.rating.installed.0 in
    let service : ℕ = cond (is_peak y h && leb h.kind excused) 1 0 in
    let ending : h.hour ≤ 24 = within_to _ _ _ (numbers_fit_lem y (Ok (Hour h)) ok).1.1.1.0 in
    record {
      rating = s.rating;
      installed_least = s.installed_least;
      owner = s.owner;
      hours_counted = omega (arith, s.hours_counted, leb-false (hour_index y h) u.last later, counted_once (is_peak y h) h.kind);
      last_most = omega (arith, day_small y h.month h.day, ending);
      derated_most =
          omega (
            arith,
            s.derated_most,
            add-mul u.hours.service service installed,
            derated_in_service (is_peak y h) h.kind h.derating installed not_out,
          );
    }

-- with the first hours of an accepted Day more
with_hours_sound : (y : ℕ) (area : AreaRecord) (u : UnitEntry) (d : DayRecord) → SoundUnit u
    → Accepted (asked_of y area u.entry u.last false) (Ok (Day d)) → (n : ℕ) → n ≤ 24 → SoundUnit (with_hours y u d n)
unfolding with_hours
with_hours_sound y area u d s ok zero h = s
with_hours_sound y area u d s ok (suc n) h =
    let hour = accepted _ _ (hour_admitted y u d area ok n (omega arith)) in
    with_hour_sound y (with_hours y u d n) (day_hour d (n + 1)) (with_hours_sound y area u d s ok n (omega arith)) hour.in_range_lem
    (rw (kept_entry y u d n) hour.not_out) hour.later

-- a unit with an owner
with_owner_sound : (y : ℕ) (u : UnitEntry) (o : OwnerRecord) → SoundUnit u → in_range y (Ok (Owner o)) ≡ true → SoundUnit (with_owner u o)
with_owner_sound y u o s ok =
    record {
      rating = s.rating;
      installed_least = s.installed_least;
      owner = inr (numbers_fit_lem y (Ok (Owner o)) ok).1.0;
      hours_counted = s.hours_counted;
      last_most = s.last_most;
      derated_most = s.derated_most;
    }

-- every due of a book is one that its lines may add up to
abbrev pub DuesFit : Book → Type 0
DuesFit b = (a p : ℕ) → p < party_count → nat_abs (due_in (facts_of_book b) a p) ≤ due_most

posted_sound : (b : Book) → Sound b → DuesFit b → (a : ℕ) → Array area_count Sums no_sums (posted_after b a)
unfolding posted_after
posted_sound b s dues a =
    array_stored a _ (record { long = length_below party_count _; each = each_made (λ (c : Cents). nat_abs c.0 ≤ due_most) (cents (pos 0)) party_count _ (omega arith) (dues a) })
    s.posted

-- the book after a Post
pub with_posted_sound : (b : Book) → Sound b → DuesFit b → (a : ℕ) → Sound (with_posted b (posted_after b a))
with_posted_sound b s dues a =
    record { year_most = s.year_most; areas = s.areas; units = s.units; commitments = s.commitments; obligations = s.obligations; posted = posted_sound b s dues a }

-- the book after an accepted record is sound, field by field
module _ (b : Book) (r : Decoded) (s : Sound b) (dues : DuesFit b) (ok : Accepted (asked (facts_of_book b) r) r) where
  hour_sound : (h : HourRecord) → Accepted (asked (facts_of_book b) (Ok (Hour h))) (Ok (Hour h))
      → SoundUnit (with_hour b.year (get_or b.units (unit_index h.unit) no_entry) h)
  hour_sound h passed = with_hour_sound b.year _ h (s.units.each _) passed.in_range_lem passed.not_out passed.later

  day_sound : (d : DayRecord) → Accepted (asked (facts_of_book b) (Ok (Day d))) (Ok (Day d))
      → SoundUnit (with_day b.year (get_or b.units (unit_index d.unit) no_entry) d)
  day_sound d passed = with_hours_sound b.year (get_or b.areas (area_index 0) no_area) _ d (s.units.each _) passed 24 (omega arith)

  accepted_sound : Sound (after b r)
  accepted_sound =
      record {
        year_most = chosen (λ y. y ≤ 2099) (is_of year_format r) (λ q. within_to _ _ _ (fit ok year_format tt q).0) s.year_most;
        areas =
            chosen (Array area_count _ no_area) (is_of area_format r)
            (λ q. array_stored _ _ (within_to _ _ _ (fit ok area_format tt q).1.0) s.areas) s.areas;
        units =
            chosen (Array unit_count SoundUnit no_entry) (is_of unit_format r) (λ q. array_stored _ _ (new_unit_sound b.year _ (as_made (facts_of_book b) r ok unit_format tt q).in_range_lem) s.units)
            (chosen (Array unit_count SoundUnit no_entry) (is_of hour_format r) (λ q. array_stored _ _ (hour_sound _ (as_made (facts_of_book b) r ok hour_format tt q)) s.units)
            (chosen (Array unit_count SoundUnit no_entry) (is_of owner_format r)
            (λ q. array_stored _ _ (with_owner_sound b.year _ _ (s.units.each _) (as_made (facts_of_book b) r ok owner_format tt q).in_range_lem) s.units)
            (chosen (Array unit_count SoundUnit no_entry) (is_of day_format r) (λ q. array_stored _ _ (day_sound _ (as_made (facts_of_book b) r ok day_format tt q)) s.units) s.units)));
        commitments =
            chosen (Array commitment_count SoundCommitment no_commitment) (is_of commitment_format r)
            (λ q. array_stored _ _ (commitment_sound b.year _ (as_made (facts_of_book b) r ok commitment_format tt q).in_range_lem) s.commitments) s.commitments;
        obligations =
            chosen (Array area_count Obligations no_obligations) (is_of load_format r)
            (λ q. array_stored _ _ (array_stored _ _ (within_to _ _ _ (fit ok load_format tt q).1.1.0) (s.obligations.each _)) s.obligations) s.obligations;
        posted = chosen (Array area_count Sums no_sums) (is_of post_format r) (λ q. posted_sound b s dues _) s.posted;
      }

-- the book after a record that no row refuses
pub after_sound : (b : Book) (r : Decoded) → Sound b → DuesFit b → refusal_of (asked (facts_of_book b) r) r ≡ 0 → Sound (after b r)
after_sound b r s dues e = accepted_sound b r s dues (accepted (asked (facts_of_book b) r) r e)

-- the book after any string, refused or not
pub entered_sound : (b : Book) (s : List ℕ) → Sound b → DuesFit b → Sound (entered b s).book
unfolding entered refusal
entered_sound b s sound dues = go (eqb (refusal (facts_of_book b) s) 0) refl
  where
    go : (t : Bool) → eqb (refusal (facts_of_book b) s) 0 ≡ t → Sound (entered b s).book
    go true q = rw q (after_sound b (decoded s) sound dues (eqb-true _ _ q))
    go false q = rw q sound

-- every book that strings lead to from a sound one, if every sound book's dues fit
module _ (dues : (b : Book) → Sound b → DuesFit b) where
  pub reached_sound : (b : Book) (ss : List (List ℕ)) → Sound b → Sound (book_after b ss)
  reached_sound b [] sound = sound
  reached_sound b (s ∷ ss) sound = reached_sound (entered b s).book ss (entered_sound b s sound (dues b sound))

  pub run_sound : (ss : List (List ℕ)) → Sound (book_after empty_book ss)
  run_sound ss = reached_sound empty_book ss empty_sound
