-- The example of sets that are kept ready: its facts, its nets before and after the ready excesses, and its lines.
use Rattle.std.proofs.Common.{Ok, ◌≡◌, refl, ap, ◌∙◌, Bool, true, false, cond, List, [], ◌∷◌, ℕ, ◌+◌, ◌≤◌, ◌<◌, arith, ℤ, pos, neg_ℤ}
use Rattle.std.proofs.Common.{eqb, ne_eqb}
use lib.IntN.{+ℤ_idl}
use lib.Signed.{le_z_yes}
use Rattle.numbers.specs.Sum.{sum_below}
use Rattle.numbers.specs.Range.{within}
use Rattle.numbers.specs.Lists.{list_below, element}
use Rattle.numbers.specs.Signed.{above, below, sum_below_ℤ}
use Rattle.numbers.specs.Split.{first_shares, split, with_sign, split_signed}
use Rattle.calendar.specs.Gregorian.{leap_year}
use Rattle.calendar.specs.DeliveryYear.{delivery_days}
use Rattle.capacity.specs.Figures.{rated}
use Rattle.capacity.specs.Shortfall.{watt_days, committed, is_ready, unforced, available, quarters, limit, limited, unit_committed}
use Rattle.capacity.specs.Shortfall.{unit_shortfall, unit_limit, limited_shortfall}
use Rattle.capacity.specs.Shares.{unit_share, net, lowered}
use Rattle.capacity.proofs.Nets.{shares_same}
use Rattle.money.specs.AreaMoney.{priced, charge, ceiling, charges, ceilings, credit, left, load_share, due, is_undistributed}
use Rattle.money.specs.Lines.{line}
use Rattle.records.specs.declared.format.UnitRecord.{UnitRecord}
use Rattle.records.specs.declared.format.AreaRecord.{AreaRecord}
use Rattle.records.specs.declared.format.CommitmentRecord.{CommitmentRecord}
use Rattle.records.specs.declared.format.OwnerRecord.{OwnerRecord}
use Rattle.records.specs.declared.format.Record.TheVariants as records
use Rattle.records.specs.declared.format.Record.TheVariants.{Year, Area, Commitment, Load, Post, Owner}
use Rattle.records.specs.Format.{unit_count, party_count, number_at}
use Rattle.records.specs.Decoded.{is_broken, of_length, framed, decoded}
use Rattle.records.specs.Kinds.{Decoded}
use Rattle.rules.specs.Facts.{Facts, no_area, no_unit, no_commitment, no_hours}
use Rattle.rules.specs.Refusal.{days_fit, numbers_fit, in_range, refusal_of}
use Rattle.rules.specs.Rules.{index, asked}
use Rattle.rules.specs.Dues.{watt_days_for, watt_days_in, part_for, committed_in, shortfall_in, share_in, net_in, ready_excess, ready_excesses, net_after, due_in}
use Rattle.rules.proofs.Owners.{committed_no_excess, no_shares, no_excess_of_shortfall, own_area}
use Rattle.promise.specs.Reckoning.{year_of, latest_area, unit_of, latest_commitment, latest_load, latest_obligation, latest_owner, owner_of, accepted_hours, sum_over}
use Rattle.promise.specs.Reckoning.{last_index, facts_of_list, reckoned_due, reckoned_paid, reckoned_line}
use Rattle.promise.specs.Figures.{year, area, unit, commitment, load, post, owner, of_three}
use Rattle.promise.specs.ReadySets.{ready_lines, ReadySets}
use Rattle.promise.proofs.Runs.{none_next, accepted_next}
use Rattle.promise.proofs.Written.{first_terms, first_terms_ℤ, first_watt_days, first_part, amount_of, by_list, dues_are, post_accepted, lines_are}
use Rattle.promise.proofs.Example.{area₁, unit₁, unit₂, load₅, load₇, obligations}

-- the records of the strings that the worked example does not have
abbrev area₂ : AreaRecord
area₂ = record { area = 2; price = 9000 }

abbrev unit₃ : UnitRecord
unit₃ = record { unit = 3; area = 1; rating = rated 500000 0 10000 4000 0 }

abbrev unit₄ : UnitRecord
unit₄ = record { unit = 4; area = 2; rating = rated 1000000 0 10000 0 0 }

abbrev unit₅ : UnitRecord
unit₅ = record { unit = 5; area = 1; rating = rated 800000 0 0 50000 0 }

abbrev committed₁ : CommitmentRecord
committed₁ = record { number = 1; unit = 1; party = 5; first = 0; last = 364; watts = 3000000 }

abbrev owned : ℕ → ℕ → OwnerRecord
owned u p = record { unit = u; party = p }

-- the lists as the strings are accepted
abbrev after₃ : List Decoded
after₃ = Ok (Area area₂) ∷ Ok (Area (area₁ 9000)) ∷ Ok (Year 2010) ∷ []

abbrev after₆ : List Decoded
after₆ = Ok (records.Unit unit₃) ∷ Ok (records.Unit unit₂) ∷ Ok (records.Unit unit₁) ∷ after₃

abbrev after₉ : List Decoded
after₉ = Ok (Commitment committed₁) ∷ Ok (records.Unit unit₅) ∷ Ok (records.Unit unit₄) ∷ after₆

abbrev after₁₂ : List Decoded
after₁₂ = Ok (Owner (owned 2 5)) ∷ Ok (Owner (owned 2 6)) ∷ Ok (Owner (owned 1 7)) ∷ after₉

abbrev after₁₅ : List Decoded
after₁₅ = Ok (Owner (owned 5 5)) ∷ Ok (Owner (owned 4 5)) ∷ Ok (Owner (owned 3 5)) ∷ after₁₂

abbrev loaded : List Decoded
loaded = Ok (Load load₇) ∷ Ok (Load load₅) ∷ after₁₅

abbrev facts : Facts
facts = record {
  year = 2010;
  area = λ k. cond (eqb 2 (k + 1)) area₂ (cond (eqb 1 (k + 1)) (area₁ 9000) no_area);
  unit = λ k.
      cond (eqb 5 (k + 1)) unit₅
      (cond (eqb 4 (k + 1)) unit₄ (cond (eqb 3 (k + 1)) unit₃ (cond (eqb 2 (k + 1)) unit₂ (cond (eqb 1 (k + 1)) unit₁ no_unit))));
  commitment = λ k. cond (eqb 1 (k + 1)) committed₁ no_commitment;
  obligation = latest_obligation loaded;
  owner = owner_of loaded;
  hours = λ u. no_hours;
  last = λ u. 0;
}

facts_loaded : facts_of_list loaded ≡ facts
unfolding facts_of_list year_of latest_area unit_of latest_commitment latest_load latest_owner accepted_hours sum_over last_index
facts_loaded = refl

no_commitment_lem : (k : ℕ) → 1 ≤ k → facts.commitment k ≡ no_commitment
no_commitment_lem k h = rw (ne_eqb 1 (k + 1) (λ e. omega arith))

-- V of unit 1, and of the others
watt_days_first : watt_days_in facts.commitment 0 ≡ 1095000000
unfolding watt_days_for watt_days sum_below
watt_days_first = first_watt_days facts.commitment 1 0 (omega arith) no_commitment_lem ∙ refl

watt_days_other : (u : ℕ) → 1 ≤ u → watt_days_in facts.commitment u ≡ 0
unfolding watt_days_for sum_below
watt_days_other u h = first_watt_days facts.commitment 1 u (omega arith) no_commitment_lem ∙ rw (ne_eqb 1 (u + 1) (λ e. omega arith)) refl

-- party 5 has all of unit 1
abbrev part : ℕ → ℕ
part p = cond (eqb 5 (p + 1)) 1095000000 0

part_first : (p : ℕ) → part_for facts.commitment 0 p ≡ part p
unfolding watt_days_for watt_days sum_below
part_first p = first_part facts.commitment 1 0 (omega arith) no_commitment_lem p ∙ omega arith

-- S of units 1, 2, 3 and 5
shortfalls : (shortfall_in facts 0 ≡ pos 428572) × (shortfall_in facts 1 ≡ neg_ℤ (pos 100000)) × (shortfall_in facts 2 ≡ neg_ℤ (pos 30000)) × (shortfall_in facts 4 ≡ pos 400000)
unfolding shortfall_in committed_in unit_committed is_ready committed limited_shortfall unit_limit unit_shortfall limited limit quarters available unforced delivery_days
    leap_year latest_owner
shortfalls = (
  rw watt_days_first refl,
  rw (watt_days_other 1 (omega arith)) refl,
  rw (watt_days_other 2 (omega arith)) refl,
  rw (watt_days_other 4 (omega arith)) refl,
)

-- party p's net in area 1: a share of unit 1 alone
net_is : (p : ℕ) → p < party_count → net_in facts 0 p ≡ unit_share (pos 428572) part p
unfolding net_in net share_in sum_below_ℤ
net_is p h =
    first_terms_ℤ 1 unit_count (λ u. share_in facts 0 u p) (omega arith) (λ u b. no_shares facts u (watt_days_other u b) 0 p)
    ∙ +ℤ_idl (share_in facts 0 0 p)
    ∙ rw (shortfalls.0, shares_same (pos 428572) (part_for facts.commitment 0) part (λ q b. part_first q) p h) refl

-- the ready excess of each unit in area 1
module _ (p : ℕ) where
  abbrev of_five : ℕ → ℕ
  of_five x = cond (eqb 5 (p + 1)) x 0

  second_excess : ready_excess facts 0 p 1 ≡ of_five 100000
  unfolding ready_excess is_ready latest_owner below
  second_excess = rw (watt_days_other 1 (omega arith), shortfalls.1) refl

  third_excess : ready_excess facts 0 p 2 ≡ of_five 30000
  unfolding ready_excess is_ready latest_owner below
  third_excess = rw (watt_days_other 2 (omega arith), shortfalls.2) refl

  fifth_excess : ready_excess facts 0 p 4 ≡ 0
  fifth_excess = no_excess_of_shortfall facts 4 (rw shortfalls.3 (le_z_yes tt)) 0 p

  others_excess : (u : ℕ) → 5 ≤ u → ready_excess facts 0 p u ≡ 0
  others_excess u h =
      own_area facts u 0
      (rw (ne_eqb 5 (u + 1) (λ e. omega arith), ne_eqb 4 (u + 1) (λ e. omega arith), ne_eqb 3 (u + 1) (λ e. omega arith), ne_eqb 2 (u + 1) (λ e. omega arith), ne_eqb 1 (u + 1) (λ e. omega arith)) refl)
      p

  excesses_are : ready_excesses facts 0 p ≡ of_five 130000
  unfolding ready_excesses sum_below
  excesses_are =
      first_terms 5 unit_count (ready_excess facts 0 p) (omega arith) others_excess
      ∙ rw (committed_no_excess facts 0 (rw watt_days_first (omega arith)) 0 p, second_excess, third_excess, own_area facts 3 0 refl p, fifth_excess) (go (eqb 5 (p + 1)))
    where
      go : (t : Bool) → 0 + 0 + cond t 100000 0 + cond t 30000 0 + 0 + 0 ≡ cond t 130000 0
      go true = refl
      go false = refl

abbrev nets : List ℤ
nets = of_three (pos 298572) (pos 0) (pos 0)

nets_listed : list_below party_count (λ p. lowered (cond (eqb 5 (p + 1)) 130000 0) (unit_share (pos 428572) part p)) ≡ nets
unfolding list_below sum_below lowered unit_share split_signed with_sign split first_shares
nets_listed = refl

nets_are : (p : ℕ) → p < party_count → net_after facts 0 p ≡ amount_of nets p
unfolding net_after
nets_are p h =
    rw (excesses_are p, net_is p h)
    (by_list party_count (λ q. lowered (cond (eqb 5 (q + 1)) 130000 0) (unit_share (pos 428572) part q)) nets (pos 0) nets_listed p h)

obligations_listed : list_below party_count (facts.obligation 0) ≡ obligations
unfolding list_below latest_load
obligations_listed = refl

money : (list_below party_count (due (amount_of nets) 9000 365 (element obligations)) ≡ ready_lines) × (is_undistributed (amount_of nets) 9000 365 (element obligations) ≡ false)
unfolding list_below sum_below above below priced charge ceiling charges ceilings credit left load_share due is_undistributed split first_shares
money = (refl, refl)

post_number : refusal_of (asked (facts_of_list loaded) (Ok (Post 1))) (Ok (Post 1)) ≡ 0
post_number = rw facts_loaded (post_accepted facts refl refl nets nets_are obligations_listed money.1)

dues_loaded : (p : ℕ) → p < party_count → reckoned_due loaded 0 p ≡ amount_of ready_lines p
unfolding reckoned_due
dues_loaded p h = ap (λ (F : Facts). due_in F 0 p) facts_loaded ∙ dues_are facts refl refl nets nets_are obligations_listed money.0 p h

lines_found : list_below party_count (reckoned_line loaded 0) ≡ ready_lines
unfolding list_below reckoned_paid line
lines_found = lines_are loaded ready_lines (λ p. pos 0) dues_loaded (λ p h. refl) ∙ refl

pub ready_given : ReadySets
unfolding number_at is_broken of_length framed decoded within index leap_year delivery_days days_fit numbers_fit in_range refusal_of list_below
    year_of latest_area unit_of latest_commitment latest_load accepted_hours sum_over last_index facts_of_list
ready_given = record {
  answered = (
      accepted_next (year 2010) (Ok (Year 2010)) [] _ refl refl refl
      (accepted_next (area 1 9000) (Ok (Area (area₁ 9000))) (Ok (Year 2010) ∷ []) _ refl refl refl
      (accepted_next (area 2 9000) (Ok (Area area₂)) (Ok (Area (area₁ 9000)) ∷ Ok (Year 2010) ∷ []) _ refl refl refl
      (accepted_next (unit 1 1 4500000 30000 5000 15000 0) (Ok (records.Unit unit₁)) after₃ _ refl refl refl
      (accepted_next (unit 2 1 1000000 0 10000 0 0) (Ok (records.Unit unit₂)) (Ok (records.Unit unit₁) ∷ after₃) _ refl refl refl
      (accepted_next (unit 3 1 500000 0 10000 4000 0) (Ok (records.Unit unit₃)) (Ok (records.Unit unit₂) ∷ Ok (records.Unit unit₁) ∷ after₃) _ refl refl refl
      (accepted_next (unit 4 2 1000000 0 10000 0 0) (Ok (records.Unit unit₄)) after₆ _ refl refl refl
      (accepted_next (unit 5 1 800000 0 0 50000 0) (Ok (records.Unit unit₅)) (Ok (records.Unit unit₄) ∷ after₆) _ refl refl refl
      (accepted_next (commitment 1 1 5 0 364 3000000) (Ok (Commitment committed₁)) (Ok (records.Unit unit₅) ∷ Ok (records.Unit unit₄) ∷ after₆) _ refl refl refl
      (accepted_next (owner 1 7) (Ok (Owner (owned 1 7))) after₉ _ refl refl refl
      (accepted_next (owner 2 6) (Ok (Owner (owned 2 6))) (Ok (Owner (owned 1 7)) ∷ after₉) _ refl refl refl
      (accepted_next (owner 2 5) (Ok (Owner (owned 2 5))) (Ok (Owner (owned 2 6)) ∷ Ok (Owner (owned 1 7)) ∷ after₉) _ refl refl refl
      (accepted_next (owner 3 5) (Ok (Owner (owned 3 5))) after₁₂ _ refl refl refl
      (accepted_next (owner 4 5) (Ok (Owner (owned 4 5))) (Ok (Owner (owned 3 5)) ∷ after₁₂) _ refl refl refl
      (accepted_next (owner 5 5) (Ok (Owner (owned 5 5))) (Ok (Owner (owned 4 5)) ∷ Ok (Owner (owned 3 5)) ∷ after₁₂) _ refl refl refl
      (accepted_next (load 1 5 500000) (Ok (Load load₅)) after₁₅ _ refl refl refl
      (accepted_next (load 1 7 600000) (Ok (Load load₇)) (Ok (Load load₅) ∷ after₁₅) _ refl refl refl
      (accepted_next (post 1) (Ok (Post 1)) loaded [] refl post_number lines_found (none_next (Ok (Post 1) ∷ loaded)))))))))))))))))))).answers_are;
}
