-- An area whose nets and obligations are written out: its dues, row 11 and the lines of its Post. Computing an example at one go
-- takes far too long; its facts, nets and dues are each written out and computed from what comes before.
use Rattle.std.proofs.Common.{Ok, ◌≡◌, refl, sym, ap, ◌∙◌, Bool, true, false, List, ℕ, zero, suc, ◌≤◌, ◌<◌, arith, ℤ, pos, get_or, leb, leb-true, leb-false, cond, eqb, ne_eqb, ◌+◌}
use lib.IntN.{+ℤ_idr}
use Rattle.numbers.specs.Sum.{sum_below}
use Rattle.numbers.specs.Range.{within}
use Rattle.numbers.specs.Lists.{list_below, element}
use Rattle.numbers.specs.Signed.{sum_below_ℤ}
use Rattle.numbers.proofs.Lists.{element_below, list_same}
use Rattle.calendar.specs.Gregorian.{leap_year}
use Rattle.calendar.specs.DeliveryYear.{delivery_days}
use Rattle.capacity.specs.Shortfall.{unit_watt_days, part_of}
use Rattle.money.specs.AreaMoney.{due, is_undistributed}
use Rattle.money.specs.Lines.{line}
use Rattle.money.proofs.Sixteen.{due_same, undistributed_same}
use Rattle.records.specs.declared.format.Record.TheVariants.{Post}
use Rattle.records.specs.declared.format.CommitmentRecord.{CommitmentRecord}
use Rattle.records.specs.Format.{commitment_count, party_count}
use Rattle.records.specs.Kinds.{Decoded}
use Rattle.rules.specs.Facts.{Facts, no_commitment, is_entered}
use Rattle.rules.specs.Refusal.{numbers_fit, in_range, refusal_of}
use Rattle.rules.specs.Rules.{index, asked}
use Rattle.rules.specs.Dues.{days, watt_days_for, watt_days_in, part_for, net_after, due_in, undistributed_in}
use Rattle.promise.specs.Reckoning.{reckoned_due, reckoned_paid, reckoned_line}

-- a sum whose terms from number m on are 0 is that of the first m
pub first_terms : (m n : ℕ) (f : ℕ → ℕ) → m ≤ n → ((k : ℕ) → m ≤ k → f k ≡ 0) → sum_below n f ≡ sum_below m f
unfolding sum_below
first_terms m zero f h none = let e : m ≡ 0 = omega arith in rw e
first_terms m (suc n) f h none = go (leb m n) refl (first_terms m n f)
  where
    go : (t : Bool) → leb m n ≡ t → (m ≤ n → ((k : ℕ) → m ≤ k → f k ≡ 0) → sum_below n f ≡ sum_below m f) → sum_below (suc n) f ≡ sum_below m f
    go true q fewer = omega (arith, fewer (leb-true m n q) none, none n (leb-true m n q))
    go false q fewer = let e : m ≡ suc n = omega (arith, leb-false m n q) in rw e

pub first_terms_ℤ : (m n : ℕ) (f : ℕ → ℤ) → m ≤ n → ((k : ℕ) → m ≤ k → f k ≡ pos 0) → sum_below_ℤ n f ≡ sum_below_ℤ m f
unfolding sum_below_ℤ
first_terms_ℤ m zero f h none = let e : m ≡ 0 = omega arith in rw e
first_terms_ℤ m (suc n) f h none = go (leb m n) refl (first_terms_ℤ m n f)
  where
    go : (t : Bool) → leb m n ≡ t → (m ≤ n → ((k : ℕ) → m ≤ k → f k ≡ pos 0) → sum_below_ℤ n f ≡ sum_below_ℤ m f) → sum_below_ℤ (suc n) f ≡ sum_below_ℤ m f
    go true q fewer = rw (none n (leb-true m n q), +ℤ_idr (sum_below_ℤ n f)) (fewer (leb-true m n q) none)
    go false q fewer = let e : m ≡ suc n = omega (arith, leb-false m n q) in rw e

-- V of a unit, and a party's part of it, where only the first m commitments are entered
module _ (commitment : ℕ → CommitmentRecord) (m u : ℕ) (few : m ≤ commitment_count) (none : (k : ℕ) → m ≤ k → commitment k ≡ no_commitment) where
  pub first_watt_days : watt_days_in commitment u ≡ sum_below m (watt_days_for commitment u)
  unfolding watt_days_in unit_watt_days watt_days_for
  first_watt_days = first_terms m commitment_count (watt_days_for commitment u) few (λ k h. rw (none k h, ne_eqb 0 (u + 1) (λ e. omega arith)))

  pub first_part : (p : ℕ) → part_for commitment u p ≡ sum_below m (λ k. cond (eqb (commitment k).party (p + 1)) (watt_days_for commitment u k) 0)
  unfolding part_for part_of
  first_part p =
      first_terms m commitment_count (λ k. cond (eqb (commitment k).party (p + 1)) (watt_days_for commitment u k) 0) few
      (λ k h. rw (none k h, ne_eqb 0 (p + 1) (λ e. omega arith)))

-- party p's amount of a list
abbrev pub amount_of : List ℤ → ℕ → ℤ
amount_of l p = get_or l p (pos 0)

-- what the elements of a list are, the list being known
pub by_list : {A : Type 0} (n : ℕ) (f : ℕ → A) (l : List A) (d : A) → list_below n f ≡ l → (k : ℕ) → k < n → f k ≡ get_or l k d
by_list n f l d e k h = sym (element_below n f k d h) ∙ ap (λ x. get_or x k d) e

common : (F : Facts) → F.year ≡ 2010 → days F ≡ 365
unfolding delivery_days leap_year
common F year = rw year refl

-- facts of 2010 with an area 1, whose nets and obligations are these
module _ (F : Facts) (year : F.year ≡ 2010) (entered : is_entered (F.area 0).area ≡ true) (nets : List ℤ) {obligations : List ℕ}
    (n : (p : ℕ) → p < party_count → net_after F 0 p ≡ amount_of nets p) (l : list_below party_count (F.obligation 0) ≡ obligations) where
  pub dues_are : {dues : List ℤ} → list_below party_count (due (amount_of nets) (F.area 0).price 365 (element obligations)) ≡ dues
      → (p : ℕ) → p < party_count → due_in F 0 p ≡ amount_of dues p
  unfolding due_in
  dues_are {dues} e p h =
      rw (common F year)
      (due_same (net_after F 0) (amount_of nets) (F.area 0).price 365 (F.obligation 0) (element obligations) n (by_list party_count _ obligations 0 l) p h
      ∙ by_list party_count _ dues (pos 0) e p h)

  -- row 11, and with it the number of Post 1
  distributed_is : {t : Bool} → is_undistributed (amount_of nets) (F.area 0).price 365 (element obligations) ≡ t → undistributed_in F 0 ≡ t
  unfolding undistributed_in
  distributed_is e =
      rw (common F year) (undistributed_same (net_after F 0) (amount_of nets) (F.area 0).price 365 (F.obligation 0) (element obligations) n (by_list party_count _ obligations 0 l) ∙ e)

  pub post_accepted : is_undistributed (amount_of nets) (F.area 0).price 365 (element obligations) ≡ false → refusal_of (asked F (Ok (Post 1))) (Ok (Post 1)) ≡ 0
  unfolding within numbers_fit in_range refusal_of index
  post_accepted e = rw (distributed_is e, year, entered)

  pub post_refused : is_undistributed (amount_of nets) (F.area 0).price 365 (element obligations) ≡ true → refusal_of (asked F (Ok (Post 1))) (Ok (Post 1)) ≡ 11
  unfolding within numbers_fit in_range refusal_of index
  post_refused e = rw (distributed_is e, year, entered)

-- the lines of a Post, from its dues and what was paid before
pub lines_are : (acc : List Decoded) (dues : List ℤ) (paid : ℕ → ℤ) → ((p : ℕ) → p < party_count → reckoned_due acc 0 p ≡ amount_of dues p)
    → ((p : ℕ) → p < party_count → reckoned_paid acc 0 p ≡ paid p) → list_below party_count (reckoned_line acc 0) ≡ list_below party_count (λ p. line (amount_of dues p) (paid p))
unfolding reckoned_line
lines_are acc dues paid d e =
    list_same party_count (reckoned_line acc 0) (λ p. line (amount_of dues p) (paid p))
    (λ p h. ap (λ (z : ℤ). line z (reckoned_paid acc 0 p)) (d p h) ∙ ap (line (amount_of dues p)) (e p h))
