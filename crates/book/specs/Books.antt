-- What a book holds: its facts, the empty book, and what every book that its own functions made satisfies.
use Rattle.std.specs.Prelude.{◌≡◌, true, List, ◌⊎◌, ℕ, ◌+◌, ◌*◌, ◌≤◌, ℤ, pos, nat_abs, length, get_or}
use Rattle.numbers.specs.Range.{within}
use Rattle.numbers.specs.Lists.{list_below, element}
use Rattle.capacity.specs.declared.rating.Rating.{Rating}
use Rattle.capacity.specs.Shortfall.{installed_most, rate_most, commitment_most, hours_most}
use Rattle.money.specs.declared.Cents.{Cents}
use Rattle.money.specs.Quantities.{cents}
use Rattle.money.specs.AreaMoney.{due_most}
use Rattle.records.specs.declared.format.AreaRecord.{AreaRecord}
use Rattle.records.specs.declared.format.CommitmentRecord.{CommitmentRecord}
use Rattle.records.specs.Format.{area_count, unit_count, commitment_count, party_count}
use Rattle.rules.specs.Facts.{Facts, no_area, no_unit, no_commitment, no_hours}
use Rattle.book.specs.declared.UnitEntry.{UnitEntry}

-- what has been entered, each at its number less 1
pub record Book : Type 0 where
  -- 0 before a year is entered
  pub year : ℕ
  pub areas : List AreaRecord
  pub units : List UnitEntry
  pub commitments : List CommitmentRecord
  -- by area and then party
  pub obligations : List (List ℕ)
  pub posted : List (List Cents)

-- no unit
abbrev pub no_entry : UnitEntry
no_entry = record { entry = no_unit; owner = 0; hours = no_hours; last = 0 }

-- an area's parties without obligations, and without lines
abbrev pub no_obligations : List ℕ
no_obligations = list_below party_count (λ p. 0)

abbrev pub no_sums : List Cents
no_sums = list_below party_count (λ p. cents (pos 0))

-- party p's obligation in area a
abbrev pub obligation_in : List (List ℕ) → ℕ → ℕ → ℕ
obligation_in l a p = element (get_or l a no_obligations) p

-- commitment number k + 1
abbrev pub commitment_in : List CommitmentRecord → ℕ → CommitmentRecord
commitment_in l k = get_or l k no_commitment

-- the facts of a book
abbrev pub facts_of_book : Book → Facts
facts_of_book b = record {
  year = b.year;
  area = λ k. get_or b.areas k no_area;
  unit = λ k. (get_or b.units k no_entry).entry;
  commitment = commitment_in b.commitments;
  obligation = obligation_in b.obligations;
  owner = λ k. (get_or b.units k no_entry).owner;
  hours = λ k. (get_or b.units k no_entry).hours;
  last = λ k. (get_or b.units k no_entry).last;
}

-- what the lines of party p in area a so far add up to
abbrev pub posted_in : List (List Cents) → ℕ → ℕ → ℤ
posted_in l a p = (get_or (get_or l a no_sums) p (cents (pos 0))).0

-- the book with nothing entered
abbrev pub empty_book : Book
empty_book = record {
  year = 0;
  areas = list_below area_count (λ k. no_area);
  units = list_below unit_count (λ k. no_entry);
  commitments = list_below commitment_count (λ k. no_commitment);
  obligations = list_below area_count (λ k. no_obligations);
  posted = list_below area_count (λ k. no_sums);
}

-- The ranges of 01, Records, and what follows from them for a unit's hours. What is not entered is in them too.
pub record SoundRating (r : Rating) : Type 0 where
  pub installed_bound : r.installed.0 ≤ installed_most
  pub eford_most : r.eford ≤ rate_most
  pub eford5_most : r.eford5 ≤ rate_most
  pub efordyear_most : r.efordyear ≤ rate_most
  pub class_most : r.class ≤ 2

pub record SoundUnit (u : UnitEntry) : Type 0 where
  pub rating : SoundRating u.entry.rating
  -- a unit that has an area has a capacity
  pub installed_least : (u.entry.area ≡ 0) ⊎ (1 ≤ u.entry.rating.installed.0)
  -- its owner, if it has one, is a party
  pub owner : (u.owner ≡ 0) ⊎ (within 1 party_count u.owner ≡ true)
  -- each hour counts once, and is later than the one before
  pub hours_counted : u.hours.service + u.hours.outage ≤ u.last
  pub last_most : u.last ≤ hours_most
  -- each derating is below I
  pub derated_most : u.hours.derated ≤ u.hours.service * u.entry.rating.installed.0

pub record SoundCommitment (c : CommitmentRecord) : Type 0 where
  -- a commitment that has a unit has a party
  pub party : (c.unit ≡ 0) ⊎ (within 1 party_count c.party ≡ true)
  pub in_order : c.first ≤ c.last
  pub last_most : c.last ≤ 365
  pub watts_most : c.watts ≤ commitment_most

-- an array of so many values, in each of which something holds; past its end it holds of the default
pub record Array {A : Type 0} (size : ℕ) (Holds : A → Type 0) (default : A) (l : List A) : Type 0 where
  pub long : length l ≡ size
  pub each : (k : ℕ) → Holds (get_or l k default)

abbrev pub SoundCommitments : List CommitmentRecord → Type 0
SoundCommitments l = (k : ℕ) → SoundCommitment (commitment_in l k)

pub record Sound (b : Book) : Type 0 where
  pub year_most : b.year ≤ 2099
  pub areas : Array area_count (λ (a : AreaRecord). a.price ≤ 50000) no_area b.areas
  pub units : Array unit_count SoundUnit no_entry b.units
  pub commitments : Array commitment_count SoundCommitment no_commitment b.commitments
  pub obligations : Array area_count (Array party_count (λ o. o ≤ 100000000) 0) no_obligations b.obligations
  pub posted : Array area_count (Array party_count (λ (c : Cents). nat_abs c.0 ≤ due_most) (cents (pos 0))) no_sums b.posted
