-- What every list of accepted records satisfies, by the rows of refusal alone.
use Rattle.std.proofs.Common.{◌≡◌, refl, sym, Bool, true, false, cond, inl, inr, List, [], ◌∷◌, ℕ, ◌+◌, ◌<◌, arith, ℤ, pos, eqb, ltb-true}
use Rattle.std.proofs.Common.{leb-false, eqb-true}
use mathlib.Core.Bool.{and-true}
use borrow.Author.Tests.{eqb-false, not-false}
use Rattle.numbers.specs.Lists.{element}
use Rattle.numbers.specs.Signed.{sum_below_ℤ}
use Rattle.numbers.proofs.Tests.{within_from}
use Rattle.money.proofs.Balance.{dues_balance}
use Rattle.records.specs.declared.format.UnitRecord.{UnitRecord}
use Rattle.records.specs.declared.format.HourRecord.{HourRecord}
use Rattle.records.specs.Format.{area_count, unit_count, party_count, year_format, unit_format, commitment_format, hour_format, post_format, owner_format}
use Rattle.records.specs.Kinds.{Decoded, numbers_of, is_of, unit_from, commitment_from, hour_from, owner_from}
use Rattle.records.proofs.OneKind.{is_made}
use Rattle.rules.specs.Hours.{hour_index}
use Rattle.rules.specs.Dues.{due_in, undistributed_in}
use Rattle.rules.specs.Rules.{area_index, unit_index, asked}
use Rattle.rules.proofs.Named.{named_index}
use Rattle.rules.proofs.WattDays.{PartyKnown}
use Rattle.rules.proofs.AcceptedRows.{Accepted}
use Rattle.rules.proofs.ByKind.{chosen, by_key, by_key_each, as_made, fit}
use Rattle.promise.specs.Reckoning.{no_owner, year_of, unit_of, latest_commitment, latest_owner, accepted_hours, last_index, facts_of_list, reckoned_due, reckoned_paid}
use Rattle.promise.proofs.Falling.{Falling}

-- amounts of the sixteen parties add up to 0
abbrev Balanced : (ℕ → ℤ) → Type 0
Balanced f = sum_below_ℤ party_count f ≡ pos 0

pub record Kept (acc : List Decoded) : Type 0 where
  -- nothing is accepted before a year
  pub no_year_lem : year_of acc ≡ 0 → acc ≡ []
  -- a unit that is not entered has no hours
  pub no_hours_lem : (u : ℕ) → (unit_of acc u).unit ≡ 0 → accepted_hours acc u ≡ []
  -- nor an owner
  pub no_owner_lem : (u : ℕ) → (unit_of acc u).unit ≡ 0 → latest_owner acc u ≡ no_owner
  -- each hour of a unit is later than the one before it
  pub falling : (u : ℕ) → Falling (year_of acc) (accepted_hours acc u)
  pub parties : (j : ℕ) → PartyKnown (latest_commitment acc j)
  -- an area's lines so far
  pub balance : (a : ℕ) → Balanced (reckoned_paid acc a)

pub kept_none : Kept []
unfolding year_of latest_commitment latest_owner accepted_hours reckoned_paid sum_below_ℤ
kept_none = record { no_year_lem = λ e. refl; no_hours_lem = λ u e. refl; no_owner_lem = λ u e. refl; falling = λ u. tt; parties = λ j. inl refl; balance = λ a. refl }

-- the list with an accepted record more
module _ (acc : List Decoded) (k : Kept acc) (r : Decoded) (ok : Accepted (asked (facts_of_list acc) r) r) where
  -- row 5, passed by a Year: there is no year yet, so nothing is accepted
  pub before_year : is_of year_format r ≡ true → acc ≡ []
  unfolding facts_of_list
  before_year q = k.no_year_lem (eqb-true (year_of acc) 0 (not-false _ (rw (q, and-true) at ok.first_year)))

  -- row 4, passed by a record that is no Year
  year_known : year_of (r ∷ acc) ≡ 0 → r ∷ acc ≡ []
  unfolding year_of facts_of_list
  year_known = go (is_of year_format r) refl
    where
      go : (t : Bool) → is_of year_format r ≡ t → cond t (element (numbers_of r) 0) (year_of acc) ≡ 0 → r ∷ acc ≡ []
      go true q z = absurd (omega (arith, within_from _ _ _ (fit ok year_format tt q).0, z))
      go false q z = absurd (eqb-false (year_of acc) 0 (rw (q, and-true) at ok.has_year) z)

  -- an Hour of unit u: by rows 7 and 10 the unit is entered, and the hour is later than its last
  module _ (q : is_of hour_format r ≡ true) (u : ℕ) (e : eqb (hour_from (numbers_of r)).unit (u + 1) ≡ true) where
    abbrev hour : HourRecord
    hour = hour_from (numbers_of r)

    unit_named_lem : unit_index hour.unit ≡ u
    unit_named_lem = named_index unit_count _ u (fit ok hour_format tt q).0 e

    unit_entered : (unit_of acc u).unit ≡ 0 → ⊥
    unfolding facts_of_list
    unit_entered z =
        let none : (unit_of acc (unit_index hour.unit)).unit ≡ 0 = rw unit_named_lem z in
        omega (arith, ltb-true 0 (unit_of acc (unit_index hour.unit)).unit (not-false _ (as_made (facts_of_list acc) r ok hour_format tt q).entered))

    later : last_index (year_of acc) (accepted_hours acc u) < hour_index (year_of acc) hour
    unfolding facts_of_list
    later = rw (sym unit_named_lem) (leb-false _ _ (as_made (facts_of_list acc) r ok hour_format tt q).later)

  -- a unit that is not entered was not before
  entered_yet : (u : ℕ) → (unit_of (r ∷ acc) u).unit ≡ 0 → (unit_of acc u).unit ≡ 0
  unfolding unit_of
  entered_yet u =
      by_key (λ (x : UnitRecord). x.unit ≡ 0 → (unit_of acc u).unit ≡ 0) (is_of unit_format r) (eqb (unit_from (numbers_of r)).unit (u + 1))
      (λ q e z. absurd (omega (arith, eqb-true (unit_from (numbers_of r)).unit (u + 1) e))) (λ z. z)

  -- row 7, passed by an Hour
  hours_known : (u : ℕ) → (unit_of acc u).unit ≡ 0 → accepted_hours (r ∷ acc) u ≡ []
  unfolding accepted_hours
  hours_known u z =
      by_key (λ hs. hs ≡ []) (is_of hour_format r) (eqb (hour_from (numbers_of r)).unit (u + 1)) (λ q e. absurd (unit_entered q u e z)) (k.no_hours_lem u z)

  -- and by an Owner
  owners_known : (u : ℕ) → (unit_of acc u).unit ≡ 0 → latest_owner (r ∷ acc) u ≡ no_owner
  unfolding latest_owner facts_of_list
  owners_known u z =
      by_key (λ o. o ≡ no_owner) (is_of owner_format r) (eqb (owner_from (numbers_of r)).unit (u + 1)) (λ q e.
      let named : unit_index (owner_from (numbers_of r)).unit ≡ u = named_index unit_count _ u (fit ok owner_format tt q).0 e in
      let none : (unit_of acc (unit_index (owner_from (numbers_of r)).unit)).unit ≡ 0 = rw named z in
      absurd (omega (arith, ltb-true 0 (unit_of acc (unit_index (owner_from (numbers_of r)).unit)).unit (not-false _ (as_made (facts_of_list acc) r ok owner_format tt q).entered))))
      (k.no_owner_lem u z)

  -- row 10, passed by an Hour; a Year comes before all hours
  hours_fall : (u : ℕ) → Falling (year_of (r ∷ acc)) (accepted_hours (r ∷ acc) u)
  unfolding year_of accepted_hours
  hours_fall u =
      chosen (λ y. Falling y (accepted_hours (r ∷ acc) u)) (is_of year_format r) (λ q. rw (is_made year_format r tt q, before_year q) tt)
      (by_key (Falling (year_of acc)) (is_of hour_format r) (eqb (hour_from (numbers_of r)).unit (u + 1)) (λ q e. (later q u e, k.falling u)) (k.falling u))

  -- row 6, passed by a Commitment
  parties_known : (j : ℕ) → PartyKnown (latest_commitment (r ∷ acc) j)
  unfolding latest_commitment
  parties_known j =
      by_key PartyKnown (is_of commitment_format r) (eqb (commitment_from (numbers_of r)).number (j + 1)) (λ q e. inr (fit ok commitment_format tt q).1.1.0)
      (k.parties j)

  -- row 11, passed by a Post: the dues add up to 0
  dues_balanced : is_of post_format r ≡ true → (a : ℕ) → eqb (element (numbers_of r) 0) (a + 1) ≡ true → Balanced (reckoned_due acc a)
  unfolding reckoned_due due_in undistributed_in
  dues_balanced q a e =
      let named : area_index (element (numbers_of r) 0) ≡ a = named_index area_count _ a (fit ok post_format tt q).0 e in
      dues_balance _ _ _ _ (rw named at (as_made (facts_of_list acc) r ok post_format tt q).distributed)

  lines_balanced : (a : ℕ) → Balanced (reckoned_paid (r ∷ acc) a)
  unfolding reckoned_paid
  lines_balanced a = by_key_each Balanced (is_of post_format r) (eqb (element (numbers_of r) 0) (a + 1)) (λ q e. dues_balanced q a e) (k.balance a)

  pub kept_more : Kept (r ∷ acc)
  kept_more =
      record { no_year_lem = year_known; no_hours_lem = λ u z. hours_known u (entered_yet u z); no_owner_lem = λ u z. owners_known u (entered_yet u z); falling = hours_fall; parties = parties_known; balance = lines_balanced }
