-- Dues depend on the standing facts alone.
use Rattle.std.proofs.Common.{◌≡◌, ◌↔◌, ap, List, ℕ}
use mathlib.Core.List.{Memᴰ}
use Rattle.records.specs.declared.format.HourRecord.{HourRecord}
use Rattle.records.specs.declared.format.LoadRecord.{LoadRecord}
use Rattle.records.specs.Kinds.{Decoded}
use Rattle.rules.specs.Facts.{Facts}
use Rattle.rules.specs.Dues.{due_in}
use Rattle.promise.specs.Reckoning.{year_of, latest_area, unit_of, latest_commitment, latest_obligation, latest_owner, accepted_hours, counts_of, last_index, facts_of_list, reckoned_due}
use Rattle.promise.specs.Standing.{SameStanding, SameStandingWatts}
use Rattle.promise.proofs.Falling.{same_hours}
use Rattle.promise.proofs.AcceptedLists.{Kept}

-- where the latest Loads are the same, so are their watts
pub same_watts : (rs qs : List Decoded) → SameStanding rs qs → SameStandingWatts rs qs
same_watts rs qs same =
    record {
      year = same.year;
      units = same.units;
      areas = same.areas;
      commitments = same.commitments;
      loads = λ a p. ap (λ (l : LoadRecord). l.obligation) (same.loads a p);
      owners = same.owners;
      hours = same.hours;
    }

-- the same standing facts give the same counts, sum and last hour of each unit; they are taken one by one, so that the proof of
-- `order` is where `SameStanding` gives them
module _ (rs qs : List Decoded) (k : Kept rs) (l : Kept qs) (year : year_of rs ≡ year_of qs) (units : (u : ℕ) → unit_of rs u ≡ unit_of qs u)
    (areas : (a : ℕ) → latest_area rs a ≡ latest_area qs a) (commitments : (n : ℕ) → latest_commitment rs n ≡ latest_commitment qs n)
    (obligations : (a p : ℕ) → latest_obligation rs a p ≡ latest_obligation qs a p)
    (owners : (u : ℕ) → latest_owner rs u ≡ latest_owner qs u) (hours : (u : ℕ) (h : HourRecord) → Memᴰ h (accepted_hours rs u) ↔ Memᴰ h (accepted_hours qs u)) where
  standing_facts : facts_of_list rs ≡ facts_of_list qs
  unfolding facts_of_list
  standing_facts =
      let same : (u : ℕ) → accepted_hours rs u ≡ accepted_hours qs u = λ u. same_hours (year_of rs) (accepted_hours rs u) (accepted_hours qs u) (k.falling u) (rw year (l.falling u)) (hours u) in
      λ i. record {
        year = year i;
        area = λ j. areas j i;
        unit = λ j. units j i;
        commitment = λ j. commitments j i;
        obligation = λ a p. obligations a p i;
        owner = λ u. (owners u i).party;
        hours = λ u. counts_of (year i) (same u i);
        last = λ u. last_index (year i) (same u i);
      }

  pub standing_dues : (a p : ℕ) → reckoned_due rs a p ≡ reckoned_due qs a p
  unfolding reckoned_due
  standing_dues a p = ap (λ (F : Facts). due_in F a p) standing_facts
