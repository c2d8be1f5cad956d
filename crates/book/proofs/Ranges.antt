-- What the ranges of a unit and of a commitment bound.
use Rattle.std.proofs.Common.{◌≡◌, refl, ◌∙◌, Bool, true, false, cond, ◌⊎◌, inl, inr, List, ℕ, ◌+◌, ◌-◌, ◌≤◌, ◌<◌, mul-le-mul, arith, eqb, length}
use Rattle.std.proofs.Common.{set, eq-eqb, ne_eqb, le-leb}
use Rattle.numbers.specs.Range.{within}
use Rattle.numbers.specs.Lists.{element}
use Rattle.numbers.proofs.Lists.{stored_at}
use Rattle.capacity.specs.Shortfall.{commitment_most, watt_days, watt_days_answer}
use Rattle.records.specs.declared.format.CommitmentRecord.{CommitmentRecord}
use Rattle.records.specs.Format.{party_count}
use Rattle.rules.specs.Rules.{party_index}
use Rattle.rules.proofs.Named.{named_by, named_index}
use Rattle.book.specs.Books.{SoundCommitment}
use Rattle.book.specs.Steps.{part_most, commitment_part}

-- a commitment's watt-days are at most 5,000,000 × 366, and what `watt_days` answers
pub watt_days_most_lem : {c : CommitmentRecord} → SoundCommitment c → watt_days c.watts c.first c.last ≤ part_most
unfolding watt_days
watt_days_most_lem {c} h =
    mul-le-mul {n₁ = c.watts} {m₁ = c.last - c.first + 1} {n₂ = commitment_most} {m₂ = 366} h.watts_most (omega (arith, h.last_most))

pub watt_days_answered : {c : CommitmentRecord} → SoundCommitment c → watt_days_answer c.watts c.first c.last ≡ watt_days c.watts c.first c.last
unfolding watt_days_answer
watt_days_answered {c} h = rw (le-leb _ _ h.watts_most, le-leb _ _ h.in_order, le-leb _ _ h.last_most)

pub answer_most : {c : CommitmentRecord} → SoundCommitment c → watt_days_answer c.watts c.first c.last ≤ part_most
answer_most h = rw (watt_days_answered h) (watt_days_most_lem h)

-- what a commitment adds: nothing for another unit, else its watt-days, to its party's part
module _ (c : CommitmentRecord) (u p : ℕ) where
  pub other_unit : (c.unit ≡ u + 1 → ⊥) → commitment_part c u p ≡ 0
  unfolding commitment_part
  other_unit ne = rw (ne_eqb _ _ ne) (either (eqb c.party (p + 1)))
    where
      either : (t : Bool) → cond {A = ℕ} t 0 0 ≡ 0
      either true = refl
      either false = refl

  module _ (h : SoundCommitment c) (e : c.unit ≡ u + 1) where
    in_range_lem : within 1 party_count c.party ≡ true
    in_range_lem = go h.party
      where
        go : (c.unit ≡ 0) ⊎ (within 1 party_count c.party ≡ true) → within 1 party_count c.party ≡ true
        go (inl none) = absurd (omega arith)
        go (inr ok) = ok

    pub own_part : (parts : List ℕ) {q days : ℕ} → q ≡ party_index c.party → q < length parts → days ≡ watt_days_answer c.watts c.first c.last
        → element (set parts q (element parts q + days)) p ≡ element parts p + commitment_part c u p
    unfolding commitment_part
    own_part parts {q} {days} named inside known =
        stored_at parts q p _ 0 inside ∙ rw (named, named_by party_count c.party p in_range_lem, eq-eqb _ _ e, known ∙ watt_days_answered h)
        (go (eqb c.party (p + 1)) refl)
      where
        go : (t : Bool) → eqb c.party (p + 1) ≡ t
            → cond t (element parts (party_index c.party) + watt_days c.watts c.first c.last) (element parts p)
            ≡ element parts p + cond t (watt_days c.watts c.first c.last) 0
        go true q = rw (named_index party_count c.party p in_range_lem q)
        go false q = omega arith

  pub part_most_lem : SoundCommitment c → commitment_part c u p ≤ part_most
  unfolding commitment_part
  part_most_lem h = go (eqb c.party (p + 1)) (eqb c.unit (u + 1))
    where
      go : (s t : Bool) → cond s (cond t (watt_days c.watts c.first c.last) 0) 0 ≤ part_most
      go true true = watt_days_most_lem h
      go true false = omega arith
      go false t = omega arith
