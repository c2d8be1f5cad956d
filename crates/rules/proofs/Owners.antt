-- What an owner does and does not change.
use Rattle.std.proofs.Common.{◌≡◌, refl, ap, ◌∙◌, Bool, true, false, cond, ◌&&◌, ℕ, ◌+◌, ◌-◌, ◌*◌, ◌≤◌, ◌<◌, arith, zero-le, le_refl, ℤ, pos, negsuc, nat_abs, ◌≤ℤ◌, eqb, ne_eqb, eqb-true, zero-mul}
use mathlib.Core.Bool.{and-false}
use Rattle.numbers.specs.Sum.{sum_below}
use Rattle.numbers.specs.Signed.{below}
use Rattle.numbers.specs.Split.{split_signed, with_sign}
use Rattle.numbers.proofs.Sums.{sum_same, sum_none, sum_at_most}
use Rattle.numbers.proofs.Splits.{no_weights}
use Rattle.capacity.specs.Shortfall.{watt_days, part_of, unit_watt_days, is_ready}
use Rattle.capacity.specs.Shares.{unit_share, lowered}
use Rattle.capacity.proofs.Capacities as capacity
use Rattle.capacity.proofs.Nets.{nothing_lowered}
use Rattle.money.specs.AreaMoney.{due, is_undistributed}
use Rattle.records.specs.Format.{unit_count, commitment_count, party_count}
use Rattle.rules.specs.Facts.{Facts, is_entered}
use Rattle.rules.specs.Dues.{days, watt_days_for, watt_days_in, part_for, is_ready_in, committed_in, shortfall_in, share_in, net_in, ready_excess, ready_excesses, net_after, due_in}
use Rattle.rules.specs.Dues.{undistributed_in}
use Rattle.rules.specs.Laws.{committed_of, SettledBy01}

-- nothing is nothing on either side of zero
no_size : (z : ℤ) → with_sign z 0 ≡ pos 0
unfolding with_sign
no_size (pos n) = refl
no_size (negsuc n) = refl

module _ (F : Facts) (u : ℕ) where
  pub owner_no_part : 0 < watt_days_in F.commitment u → committed_in F u ≡ committed_of F u
  unfolding committed_in
  owner_no_part some = capacity.owner_no_part (F.unit u).rating (is_entered (F.owner u)) (watt_days_in F.commitment u) (days F) some

  unowned_committed : F.owner u ≡ 0 → committed_in F u ≡ committed_of F u
  unfolding committed_in
  unowned_committed none = rw none (capacity.unowned_committed (F.unit u).rating (watt_days_in F.commitment u) (days F))

  pub not_ready : is_ready_in F u ≡ false → (a p : ℕ) → ready_excess F a p u ≡ 0
  unfolding ready_excess
  not_ready q a p = simp (q, and-false)

  pub committed_no_excess : 0 < watt_days_in F.commitment u → (a p : ℕ) → ready_excess F a p u ≡ 0
  unfolding is_ready
  committed_no_excess some = not_ready (simp (ne_eqb (watt_days_in F.commitment u) 0 (λ e. omega arith), and-false))

  unowned_excess : F.owner u ≡ 0 → (a p : ℕ) → ready_excess F a p u ≡ 0
  unfolding is_ready
  unowned_excess none = not_ready (rw none)

  pub own_area : (a : ℕ) → eqb (F.unit u).area (a + 1) ≡ false → (p : ℕ) → ready_excess F a p u ≡ 0
  unfolding ready_excess
  own_area a other p = rw other

  pub own_party : (p : ℕ) → eqb (F.owner u) (p + 1) ≡ false → (a : ℕ) → ready_excess F a p u ≡ 0
  unfolding ready_excess
  own_party p other a = simp (other, and-false)

  pub no_excess_of_shortfall : pos 0 ≤ℤ shortfall_in F u → (a p : ℕ) → ready_excess F a p u ≡ 0
  unfolding ready_excess below
  no_excess_of_shortfall h a p = go (shortfall_in F u) h (eqb (F.unit u).area (a + 1) && (is_ready_in F u && eqb (F.owner u) (p + 1)))
    where
      go : (s : ℤ) → pos 0 ≤ℤ s → (t : Bool) → cond t (below s) 0 ≡ 0
      go (pos s) h true = refl
      go (negsuc s) h true = absurd h.le
      go s h false = refl

  pub withdrawn : ((k : ℕ) → (F.commitment k).unit ≡ u + 1 → (F.commitment k).watts ≡ 0) → watt_days_in F.commitment u ≡ 0
  unfolding watt_days_in unit_watt_days watt_days_for watt_days
  withdrawn none = sum_same commitment_count (watt_days_for F.commitment u) (λ k. 0) (λ k h. go k (eqb (F.commitment k).unit (u + 1)) refl) ∙ sum_none commitment_count
    where
      go : (k : ℕ) (t : Bool) → eqb (F.commitment k).unit (u + 1) ≡ t → cond t ((F.commitment k).watts * ((F.commitment k).last - (F.commitment k).first + 1)) 0 ≡ 0
      go k true q = rw (none k (eqb-true _ _ q)) (zero-mul _)
      go k false q = refl

  part_at_most : (p : ℕ) → part_for F.commitment u p ≤ watt_days_in F.commitment u
  unfolding part_for part_of watt_days_in unit_watt_days
  part_at_most p = sum_at_most commitment_count _ _ (λ k h. go k (eqb (F.commitment k).party (p + 1)))
    where
      go : (k : ℕ) (t : Bool) → cond t (watt_days_for F.commitment u k) 0 ≤ watt_days_for F.commitment u k
      go k true = le_refl (watt_days_for F.commitment u k)
      go k false = zero-le

  pub no_shares : watt_days_in F.commitment u ≡ 0 → (a p : ℕ) → share_in F a u p ≡ pos 0
  unfolding share_in unit_share split_signed
  no_shares none a p =
      let parts : sum_below party_count (part_for F.commitment u) ≡ 0 = sum_same party_count _ (λ q. 0) (λ q h. omega (arith, part_at_most q)) ∙ sum_none party_count in
      rw (no_weights (nat_abs (shortfall_in F u)) party_count (part_for F.commitment u) p parts, no_size (shortfall_in F u)) (either (eqb (F.unit u).area (a + 1)))
    where
      either : (t : Bool) → cond t (pos 0) (pos 0) ≡ pos 0
      either true = refl
      either false = refl

module _ (F : Facts) (none : (u : ℕ) → F.owner u ≡ 0) where
  pub unowned_net : (a p : ℕ) → net_after F a p ≡ net_in F a p
  unfolding net_after ready_excesses
  unowned_net a p =
      ap (λ (x : ℕ). lowered x (net_in F a p)) (sum_same unit_count _ (λ u. 0) (λ u h. unowned_excess F u (none u) a p) ∙ sum_none unit_count) ∙ nothing_lowered (net_in F a p)

  unowned_due : (a p : ℕ) → due_in F a p ≡ due (net_in F a) (F.area a).price (days F) (F.obligation a) p
  unfolding due_in
  unowned_due a p = λ i. due (λ q. unowned_net a q i) (F.area a).price (days F) (F.obligation a) p

  unowned_undistributed : (a : ℕ) → undistributed_in F a ≡ is_undistributed (net_in F a) (F.area a).price (days F) (F.obligation a)
  unfolding undistributed_in
  unowned_undistributed a = λ i. is_undistributed (λ q. unowned_net a q i) (F.area a).price (days F) (F.obligation a)

  pub unowned : SettledBy01 F
  unowned =
      record {
        same_committed = λ u. unowned_committed F u (none u);
        same_due = unowned_due;
        same_undistributed = unowned_undistributed;
      }
