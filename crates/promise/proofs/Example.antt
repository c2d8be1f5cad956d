-- The worked example of 01, The ledger program: its facts, nets and dues.
use Rattle.std.proofs.Common.{Ok, ◌≡◌, refl, ap, ◌∙◌, true, false, cond, List, [], ◌∷◌, ℕ, ◌+◌, ◌≤◌, ◌<◌, arith, ℤ, pos, neg_ℤ, ◌+ℤ◌}
use Rattle.std.proofs.Common.{eqb, ne_eqb}
use Rattle.numbers.specs.Sum.{sum_below}
use Rattle.numbers.specs.Lists.{list_below, element}
use Rattle.numbers.specs.Signed.{above, below, sum_below_ℤ}
use Rattle.numbers.specs.Split.{first_shares, split, with_sign, split_signed}
use Rattle.calendar.specs.Gregorian.{leap_year}
use Rattle.calendar.specs.DeliveryYear.{delivery_days}
use Rattle.capacity.specs.declared.rating.HourCounts.{HourCounts}
use Rattle.capacity.specs.Figures.{rated}
use Rattle.capacity.specs.Shortfall.{watt_days, committed, unforced, available, quarters, limit, limited, unit_shortfall, unit_limit}
use Rattle.capacity.specs.Shortfall.{is_ready, unit_committed, limited_shortfall}
use Rattle.capacity.specs.Shares.{unit_share, net}
use Rattle.capacity.proofs.Nets.{shares_same}
use Rattle.money.specs.AreaMoney.{priced, charge, ceiling, charges, ceilings, credit, left, load_share, due, is_undistributed}
use Rattle.money.specs.Lines.{line}
use Rattle.records.specs.declared.format.AreaRecord.{AreaRecord}
use Rattle.records.specs.declared.format.UnitRecord.{UnitRecord}
use Rattle.records.specs.declared.format.CommitmentRecord.{CommitmentRecord}
use Rattle.records.specs.declared.format.LoadRecord.{LoadRecord}
use Rattle.records.specs.declared.format.Record.TheVariants as records
use Rattle.records.specs.declared.format.Record.TheVariants.{Year, Area, Commitment, Load, Post}
use Rattle.records.specs.Format.{unit_count, party_count}
use Rattle.records.specs.Kinds.{Decoded}
use Rattle.rules.specs.Facts.{Facts, no_area, no_unit, no_commitment, no_hours}
use Rattle.rules.specs.Refusal.{refusal_of}
use Rattle.rules.specs.Rules.{asked}
use Rattle.rules.specs.Dues.{watt_days_for, watt_days_in, part_for, committed_in, shortfall_in, share_in, net_in, net_after, due_in}
use Rattle.rules.proofs.Owners.{unowned_net}
use Rattle.promise.specs.Reckoning.{year_of, latest_area, unit_of, latest_commitment, latest_load, latest_obligation, latest_owner, accepted_hours, sum_over, last_index, facts_of_list}
use Rattle.promise.specs.Reckoning.{reckoned_due, reckoned_paid, reckoned_line}
use Rattle.promise.specs.Figures.{no_lines, of_three}
use Rattle.promise.proofs.Posts.{post_keeps}
use Rattle.promise.proofs.Written.{first_terms_ℤ, first_watt_days, first_part, amount_of, by_list, dues_are, post_accepted, post_refused, lines_are}

-- the records of the strings
abbrev pub area₁ : ℕ → AreaRecord
area₁ price = record { area = 1; price = price }

abbrev pub unit₁ : UnitRecord
unit₁ = record { unit = 1; area = 1; rating = rated 4500000 30000 5000 15000 0 }

abbrev pub unit₂ : UnitRecord
unit₂ = record { unit = 2; area = 1; rating = rated 1000000 0 10000 0 0 }

abbrev pub commitment₁ : CommitmentRecord
commitment₁ = record { number = 1; unit = 1; party = 5; first = 0; last = 364; watts = 4000000 }

abbrev pub commitment₂ : CommitmentRecord
commitment₂ = record { number = 2; unit = 2; party = 6; first = 0; last = 364; watts = 1000000 }

abbrev pub load₅ : LoadRecord
load₅ = record { area = 1; party = 5; obligation = 500000 }

abbrev pub load₇ : LoadRecord
load₇ = record { area = 1; party = 7; obligation = 600000 }

abbrev pub unloaded : List Decoded
unloaded = Ok (Commitment commitment₂) ∷ Ok (Commitment commitment₁) ∷ Ok (records.Unit unit₂) ∷ Ok (records.Unit unit₁) ∷ Ok (Area (area₁ 9000)) ∷ Ok (Year 2010) ∷ []

abbrev pub loaded : List Decoded
loaded = Ok (Load load₇) ∷ Ok (Load load₅) ∷ unloaded

-- The facts of the example's area, units and commitments, whatever price, obligations and hours.
abbrev pub example : ℕ → (ℕ → ℕ → ℕ) → (ℕ → HourCounts) → (ℕ → ℕ) → Facts
example price o hours last = record {
  year = 2010;
  area = λ k. cond (eqb 1 (k + 1)) (area₁ price) no_area;
  unit = λ k. cond (eqb 2 (k + 1)) unit₂ (cond (eqb 1 (k + 1)) unit₁ no_unit);
  commitment = λ k. cond (eqb 2 (k + 1)) commitment₂ (cond (eqb 1 (k + 1)) commitment₁ no_commitment);
  obligation = o;
  owner = λ u. 0;
  hours = hours;
  last = last;
}

-- parties 5 and 6 have all of a unit each
abbrev parts : ℕ → ℕ → ℕ → ℕ
parts v₅ v₆ p = cond (eqb 5 (p + 1)) v₅ 0 + cond (eqb 6 (p + 1)) v₆ 0

module _ (price : ℕ) (o : ℕ → ℕ → ℕ) (hours : ℕ → HourCounts) (last : ℕ → ℕ) where
  abbrev facts : Facts
  facts = example price o hours last

  -- the shares of the two units, added up
  abbrev pub shortfall : UnitRecord → HourCounts → ℕ → ℤ
  shortfall u h v = limited_shortfall u.rating h (unit_committed u.rating false v 365)

  abbrev pub added : ℕ → ℤ
  added p = (pos 0 +ℤ unit_share (shortfall unit₁ (hours 0) 1460000000) (parts 1460000000 0) p) +ℤ unit_share (shortfall unit₂ (hours 1) 365000000) (parts 0 365000000) p

  no_unit_lem : (k : ℕ) → 2 ≤ k → facts.unit k ≡ no_unit
  no_unit_lem k h = rw (ne_eqb 2 (k + 1) (λ e. omega arith), ne_eqb 1 (k + 1) (λ e. omega arith))

  no_commitment_lem : (k : ℕ) → 2 ≤ k → facts.commitment k ≡ no_commitment
  no_commitment_lem k h = rw (ne_eqb 2 (k + 1) (λ e. omega arith), ne_eqb 1 (k + 1) (λ e. omega arith))

  part_first : (p : ℕ) → part_for facts.commitment 0 p ≡ parts 1460000000 0 p
  unfolding watt_days_for watt_days sum_below
  part_first p = first_part facts.commitment 2 0 (omega arith) no_commitment_lem p ∙ omega arith

  part_second : (p : ℕ) → part_for facts.commitment 1 p ≡ parts 0 365000000 p
  unfolding watt_days_for watt_days sum_below
  part_second p = first_part facts.commitment 2 1 (omega arith) no_commitment_lem p ∙ omega arith

  watt_days_first : watt_days_in facts.commitment 0 ≡ 1460000000
  unfolding watt_days_for watt_days sum_below
  watt_days_first = first_watt_days facts.commitment 2 0 (omega arith) no_commitment_lem ∙ refl

  watt_days_second : watt_days_in facts.commitment 1 ≡ 365000000
  unfolding watt_days_for watt_days sum_below
  watt_days_second = first_watt_days facts.commitment 2 1 (omega arith) no_commitment_lem ∙ refl

  net_of_two : (p : ℕ) → p < party_count → net_in facts 0 p ≡ added p
  unfolding net_in net share_in shortfall_in committed_in sum_below_ℤ delivery_days leap_year
  net_of_two p h =
      first_terms_ℤ 2 unit_count (λ u. share_in facts 0 u p) (omega arith) (λ k b. rw (no_unit_lem k b))
      ∙ rw (
        watt_days_first,
        watt_days_second,
        shares_same _ _ (parts 1460000000 0) (λ q b. part_first q) p h,
        shares_same _ _ (parts 0 365000000) (λ q b. part_second q) p h,
      )

  -- no unit of the example has an owner
  pub nets_are : {nets : List ℤ} → list_below party_count added ≡ nets → (p : ℕ) → p < party_count → net_after facts 0 p ≡ amount_of nets p
  nets_are {nets} n p h = unowned_net facts (λ u. refl) 0 p ∙ net_of_two p h ∙ by_list party_count added nets (pos 0) n p h

-- no hours, and none that is the last
abbrev pub none : ℕ → HourCounts
none u = no_hours

abbrev pub no_last : ℕ → ℕ
no_last u = 0

facts_unloaded : facts_of_list unloaded ≡ example 9000 (λ a p. 0) none no_last
unfolding facts_of_list year_of latest_area unit_of latest_commitment latest_load latest_owner accepted_hours sum_over last_index
facts_unloaded = refl

pub facts_loaded : facts_of_list loaded ≡ example 9000 (latest_obligation loaded) none no_last
unfolding facts_of_list year_of latest_area unit_of latest_commitment latest_load latest_owner accepted_hours sum_over last_index
facts_loaded = refl

abbrev no_obligations : List ℕ
no_obligations = 0 ∷ 0 ∷ 0 ∷ 0 ∷ 0 ∷ 0 ∷ 0 ∷ 0 ∷ 0 ∷ 0 ∷ 0 ∷ 0 ∷ 0 ∷ 0 ∷ 0 ∷ 0 ∷ []

none_listed : list_below party_count (λ p. 0) ≡ no_obligations
unfolding list_below
none_listed = refl

abbrev pub obligations : List ℕ
obligations = 0 ∷ 0 ∷ 0 ∷ 0 ∷ 500000 ∷ 0 ∷ 600000 ∷ 0 ∷ 0 ∷ 0 ∷ 0 ∷ 0 ∷ 0 ∷ 0 ∷ 0 ∷ 0 ∷ []

pub obligations_listed : list_below party_count (latest_obligation loaded 0) ≡ obligations
unfolding list_below latest_load
obligations_listed = refl

abbrev pub nets : List ℤ
nets = of_three (pos 450000) (neg_ℤ (pos 100000)) (pos 0)

pub nets_listed : (o : ℕ → ℕ → ℕ) → list_below party_count (added 9000 o none no_last) ≡ nets
unfolding list_below sum_below unit_share unit_committed is_ready limited_shortfall unit_limit unit_shortfall limited limit quarters available unforced committed
    split_signed with_sign split first_shares
nets_listed o = refl

-- worked out; that the table has them is for the table to say
abbrev pub dues_found : List ℤ
dues_found = of_three (neg_ℤ (pos 955637)) (pos 328500) (pos 627137)

pub dues_listed : list_below party_count (due (amount_of nets) 9000 365 (element obligations)) ≡ dues_found
unfolding list_below sum_below above below priced charge ceiling charges ceilings credit left load_share due split first_shares
dues_listed = refl

pub distributed : is_undistributed (amount_of nets) 9000 365 (element obligations) ≡ false
unfolding sum_below above below priced charge ceiling charges ceilings left is_undistributed
distributed = refl

not_distributed : is_undistributed (amount_of nets) 9000 365 (element no_obligations) ≡ true
unfolding sum_below above below priced charge ceiling charges ceilings left is_undistributed
not_distributed = refl

-- the dues with both Loads and the number of Post 1, whatever price and hours
module _ (acc : List Decoded) (price : ℕ) (hours : ℕ → HourCounts) (last : ℕ → ℕ) (f : facts_of_list acc ≡ example price (latest_obligation loaded) hours last)
    (ns : List ℤ) (n : list_below party_count (added price (latest_obligation loaded) hours last) ≡ ns) where
  pub dues_with : {dues : List ℤ} → list_below party_count (due (amount_of ns) price 365 (element obligations)) ≡ dues
      → (p : ℕ) → p < party_count → reckoned_due acc 0 p ≡ amount_of dues p
  unfolding reckoned_due
  dues_with e p h =
      ap (λ (F : Facts). due_in F 0 p) f
      ∙ dues_are (example price (latest_obligation loaded) hours last) refl refl ns (nets_are price (latest_obligation loaded) hours last n) obligations_listed e p h

  pub number_with : is_undistributed (amount_of ns) price 365 (element obligations) ≡ false → refusal_of (asked (facts_of_list acc) (Ok (Post 1))) (Ok (Post 1)) ≡ 0
  number_with e =
      rw f
      (post_accepted (example price (latest_obligation loaded) hours last) refl refl ns (nets_are price (latest_obligation loaded) hours last n) obligations_listed e)

-- those of the example; with the Loads no money is left over undistributed, without them some is
dues_loaded : (p : ℕ) → p < party_count → reckoned_due loaded 0 p ≡ amount_of dues_found p
dues_loaded = dues_with loaded 9000 none no_last facts_loaded nets (nets_listed (latest_obligation loaded)) dues_listed

pub first_number : refusal_of (asked (facts_of_list loaded) (Ok (Post 1))) (Ok (Post 1)) ≡ 0
first_number = number_with loaded 9000 none no_last facts_loaded nets (nets_listed (latest_obligation loaded)) distributed

pub second_number : refusal_of (asked (facts_of_list (Ok (Post 1) ∷ loaded)) (Ok (Post 1))) (Ok (Post 1)) ≡ 0
second_number = rw (post_keeps 1 loaded) first_number

pub unloaded_number : refusal_of (asked (facts_of_list unloaded) (Ok (Post 1))) (Ok (Post 1)) ≡ 11
unloaded_number =
    rw facts_unloaded
    (post_refused (example 9000 (λ a p. 0) none no_last) refl refl nets (nets_are 9000 (λ a p. 0) none no_last (nets_listed (λ a p. 0))) none_listed not_distributed)

-- its lines, the first time and the second
pub first_lines_lem : list_below party_count (reckoned_line loaded 0) ≡ dues_found
unfolding list_below reckoned_paid line
first_lines_lem = lines_are loaded dues_found (λ p. pos 0) dues_loaded (λ p h. refl) ∙ refl

pub second_lines : list_below party_count (reckoned_line (Ok (Post 1) ∷ loaded) 0) ≡ no_lines
unfolding list_below reckoned_paid reckoned_due line
second_lines =
    lines_are (Ok (Post 1) ∷ loaded) dues_found (amount_of dues_found) (λ p h. rw (post_keeps 1 loaded) (dues_loaded p h)) (λ p h. dues_loaded p h) ∙ refl
