-- From nets to dues, list by list: what each step of an area's money holds, by the definitions.
use Rattle.std.proofs.Common.{min, ◌≤◌, ◌≡◌, refl, sym, Ok, Err, ap, ◌∙◌, Bool, true, false, cond, ◌&&◌, List, ℕ, ◌+◌, ◌-◌, ◌^◌, ◌<◌, arith, ℤ, pos, ltb, eqb}
use lib.IntN.{sub_ℕ}
use Rattle.numbers.specs.Lists.{list_below}
use Rattle.numbers.specs.Sum.{sum_below}
use Rattle.numbers.specs.Signed.{above}
use Rattle.numbers.specs.Split.{split}
use Rattle.numbers.proofs.Tests.{chosen, refused}
use Rattle.numbers.proofs.Sums.{sum_same}
use Rattle.numbers.proofs.Lists.{element_below, list_same}
use Rattle.numbers.proofs.Splits.{split_same, shares_at_most}
use Rattle.money.specs.Quantities.{money, cents, cents_of}
use Rattle.money.specs.declared.Cents.{Cents}
use Rattle.money.specs.AreaMoney.{due_most, charge, ceiling, charges, ceilings, credit, left, load_share, due, is_undistributed, area_in_range}
use Rattle.money.specs.AreaMoney.{each_due, settled}
use Rattle.money.proofs.Balance.{credits_add_up}
use Rattle.money.proofs.Bounds.{charges_bound, ceilings_bound}

pub amount_at : (f : ℕ → ℕ) {m : List Cents} → m ≡ money f → (p : ℕ) → p < 16 → above (cents_of m p) ≡ f p
unfolding above
amount_at f e p h = rw e (ap (λ (c : Cents). above c.0) (element_below 16 (λ k. cents (pos (f k))) p (cents (pos 0)) h))

pub amounts_sum : (f : ℕ → ℕ) {m : List Cents} → m ≡ money f → sum_below 16 (λ p. above (cents_of m p)) ≡ sum_below 16 f
amounts_sum f filled = sum_same 16 _ f (amount_at f filled)

pub total_filled : (f : ℕ → ℕ) {m : List Cents} {c : Cents} → sum_below 16 f ≤ due_most → m ≡ money f
    → c ≡ cents (pos (min (sum_below 16 (λ p. above (cents_of m p))) (2 ^ 63 - 1))) → c ≡ cents (pos (sum_below 16 f))
total_filled f few filled e = e ∙ ap (λ (n : ℕ). cents (pos n)) (omega (arith, amounts_sum f filled))

module _ (N : ℕ → ℤ) (price days : ℕ) where
  pub credits_filled : {ms cs : List Cents} {r m : Cents} → r ≡ cents (pos (charges N price days)) → m ≡ cents (pos (ceilings N price days))
      → ms ≡ money (ceiling N price days)
      → cs ≡ cond (ltb (above r.0) (above m.0)) (money (split (above r.0) 16 (λ p. above (cents_of ms p)))) ms → cs ≡ money (credit N price days)
  unfolding above credit
  credits_filled {ms} {cs} r m filled e = e ∙ rw (r, m) (go (ltb (charges N price days) (ceilings N price days)) refl)
    where
      by_ceiling : (p : ℕ) → p < 16
          → split (charges N price days) 16 (λ k. above (cents_of ms k)) p ≡ split (charges N price days) 16 (ceiling N price days) p
      by_ceiling = split_same (charges N price days) 16 _ (ceiling N price days) (amount_at _ filled)

      go : (t : Bool) → ltb (charges N price days) (ceilings N price days) ≡ t
          → cond t (money (split (charges N price days) 16 (λ k. above (cents_of ms k)))) ms ≡ money (credit N price days)
      go true q = list_same 16 _ _ (λ p h. ap (λ (n : ℕ). cents (pos n)) (by_ceiling p h ∙ chosen _ q))
      go false q = filled ∙ list_same 16 _ _ (λ p h. ap (λ (n : ℕ). cents (pos n)) (refused _ q))

  pub left_filled : {r m l : Cents} → r ≡ cents (pos (charges N price days)) → m ≡ cents (pos (ceilings N price days))
      → l ≡ cents (pos (above r.0 - above m.0)) → l ≡ cents (pos (left N price days))
  unfolding above left
  left_filled r m e = e ∙ rw (r, m)

  -- what R, the sum of M and what is left of R are
  pub record Reckoned (r m l : Cents) : Type 0 where
    pub charged_is : r ≡ cents (pos (charges N price days))
    pub ceiling_is : m ≡ cents (pos (ceilings N price days))
    pub left_is : l ≡ cents (pos (left N price days))

  module _ (o : ℕ → ℕ) where
    -- what is left, the credits and the load shares are
    pub record Received (l : Cents) (cs ls : List Cents) : Type 0 where
      pub left_is : l ≡ cents (pos (left N price days))
      pub credits_are : cs ≡ money (credit N price days)
      pub load_shares_are : ls ≡ money (load_share N price days o)

    pub reckoned : {hs ms : List Cents} {r m l : Cents} → area_in_range N price days o ≡ true
        → hs ≡ money (charge N price days) → ms ≡ money (ceiling N price days)
        → r ≡ cents (pos (min (sum_below 16 (λ p. above (cents_of hs p))) (2 ^ 63 - 1)))
        → m ≡ cents (pos (min (sum_below 16 (λ p. above (cents_of ms p))) (2 ^ 63 - 1)))
        → l ≡ cents (pos (above r.0 - above m.0)) → Reckoned r m l
    unfolding charges ceilings
    reckoned {r = r} {m = m} q hs ms total_charged total_ceiling rest =
        let charged_is : r ≡ cents (pos (charges N price days)) = total_filled _ (charges_bound N price days o q) hs total_charged in
        let ceiling_is : m ≡ cents (pos (ceilings N price days)) = total_filled _ (ceilings_bound N price days o q) ms total_ceiling in
        record { charged_is = charged_is; ceiling_is = ceiling_is; left_is = left_filled charged_is ceiling_is rest }

    pub loads_filled : {l : Cents} {ls : List Cents} → l ≡ cents (pos (left N price days))
        → ls ≡ money (split (above l.0) 16 o) → ls ≡ money (load_share N price days o)
    unfolding above load_share
    loads_filled l e = e ∙ rw l

    pub paid_fits : {l : Cents} {cs ls : List Cents} → area_in_range N price days o ≡ true → Received l cs ls
        → sum_below 16 (λ p. above (cents_of cs p)) + sum_below 16 (λ p. above (cents_of ls p)) < 2 ^ 63
    unfolding load_share left
    paid_fits q r =
        rw (amounts_sum _ r.credits_are, amounts_sum _ r.load_shares_are)
        (omega (arith, credits_add_up N price days, shares_at_most (left N price days) 16 o, charges_bound N price days o q))

    -- what is returned, whichever way the test goes
    pub settled_is : {l : Cents} {cs ls hs ds : List Cents} {t u : Bool} → Received l cs ls → hs ≡ money (charge N price days)
        → ds ≡ list_below 16 (λ p. cents (sub_ℕ (above (cents_of cs p) + above (cents_of ls p)) (above (cents_of hs p))))
        → t ≡ (ltb 0 (above l.0) && eqb (sum_below 16 o) 0) → t ≡ u → cond u (Err (record { dues = ds })) (Ok ds) ≡ settled N price days o
    unfolding above is_undistributed due settled
    settled_is {ds = ds} {u = u} r hs made test taken =
        let undistributed : is_undistributed N price days o ≡ u = rw r.left_is at (sym test ∙ taken) in
        let dues : ds ≡ each_due N price days o =
        made ∙ list_same 16 _ _ (λ p h. rw (amount_at _ r.credits_are p h, amount_at _ r.load_shares_are p h, amount_at _ hs p h)) in
        simp (undistributed, dues)
