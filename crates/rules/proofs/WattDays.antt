-- The sixteen parties' parts of a unit's V add up to V, where each commitment that has a unit has one of the sixteen parties.
use Rattle.std.proofs.Common.{◌≡◌, refl, sym, ap, ◌∙◌, Bool, true, false, cond, ◌⊎◌, inl, inr, ℕ, ◌+◌, arith, eqb, ne_eqb}
use Rattle.numbers.specs.Range.{within}
use Rattle.numbers.proofs.Sums.{sum_same}
use Rattle.numbers.proofs.Tests.{flipped}
use Rattle.capacity.specs.Shortfall.{part_of, watt_days_of}
use Rattle.capacity.proofs.Capacities as capacity
use Rattle.records.specs.declared.format.CommitmentRecord.{CommitmentRecord}
use Rattle.records.specs.Format.{commitment_count, party_count}
use Rattle.rules.specs.Dues.{watt_days_for, watt_days_in, part_for}
use Rattle.rules.specs.Rules.{party_index}
use Rattle.rules.proofs.Named.{index_below, named_by}

-- a commitment that is entered has one of the sixteen parties
abbrev pub PartyKnown : CommitmentRecord → Type 0
PartyKnown c = (c.unit ≡ 0) ⊎ (within 1 party_count c.party ≡ true)

module _ (commitment : ℕ → CommitmentRecord) (known : (j : ℕ) → PartyKnown (commitment j)) (u : ℕ) where
  -- the index of each commitment's party
  abbrev party : ℕ → ℕ
  party j = party_index (commitment j).party

  none_without_a_unit : (j : ℕ) → (commitment j).unit ≡ 0 → watt_days_for commitment u j ≡ 0
  unfolding watt_days_for
  none_without_a_unit j e = rw (ne_eqb (commitment j).unit (u + 1) (λ q. omega (arith, e, q)))

  in_part : (p j : ℕ) → PartyKnown (commitment j)
      → cond (eqb (commitment j).party (p + 1)) (watt_days_for commitment u j) 0 ≡ cond (eqb (party j) p) (watt_days_for commitment u j) 0
  in_part p j (inl e) = rw (none_without_a_unit j e) (either (eqb (commitment j).party (p + 1)) (eqb (party j) p))
    where
      either : (s t : Bool) → cond {A = ℕ} s 0 0 ≡ cond t 0 0
      either true true = refl
      either true false = refl
      either false true = refl
      either false false = refl
  in_part p j (inr ok) =
      ap (λ (t : Bool). cond t (watt_days_for commitment u j) 0) (sym (named_by party_count (commitment j).party p ok) ∙ flipped p (party j))

  pub parts_add_up : watt_days_of (part_for commitment u) ≡ watt_days_in commitment u
  unfolding watt_days_of part_for part_of watt_days_in
  parts_add_up =
      sum_same party_count _ (part_of commitment_count (watt_days_for commitment u) party) (λ p h. sum_same commitment_count _ _ (λ j i. in_part p j (known j)))
      ∙ capacity.parts_add_up commitment_count (watt_days_for commitment u) party (λ j h. index_below party_count (commitment j).party (omega arith))
