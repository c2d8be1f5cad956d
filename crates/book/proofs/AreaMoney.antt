-- An area's money in a sound book: it is in the ranges of `capacity` and `money`, so that each answer is what 01 defines.
use Rattle.std.proofs.Common.{◌≡◌, refl, ap, ◌∙◌, true, List, [], Result, Ok, Err, ℕ, ◌≤◌, ◌<◌, le_refl, ℤ, pos, Bool, false, cond}
use Rattle.std.proofs.Common.{nat_abs, get_or, set, le-leb}
use Rattle.std.proofs.lemmas.List.{get_or_default}
use Rattle.numbers.specs.Lists.{list_below, element}
use Rattle.numbers.proofs.Tests.{within_to}
use Rattle.numbers.proofs.Sums.{sum_bounded}
use Rattle.numbers.proofs.Lists.{list_same}
use Rattle.calendar.specs.DeliveryYear.{delivery_days}
use Rattle.capacity.specs.declared.UnforcedWatts.{UnforcedWatts}
use Rattle.capacity.specs.Quantities.{unforced_watts, watts_of}
use Rattle.money.specs.declared.Cents.{Cents}
use Rattle.money.specs.declared.area.Undistributed.{Undistributed}
use Rattle.money.specs.Quantities.{cents, cents_of}
use Rattle.money.specs.AreaMoney.{due_most, watts_in_range, area_in_range, settled, money_answer}
use Rattle.money.specs.Lines.{line, line_answer, lines_answer}
use Rattle.money.proofs.Bounds.{due_bound}
use Rattle.money.proofs.Lowered.{lowered_in_range}
use Rattle.money.proofs.Sixteen.{range_same, settled_same}
use Rattle.records.specs.Format.{area_count, party_count}
use Rattle.rules.specs.Facts.{Facts}
use Rattle.rules.specs.Dues.{days, net_in, ready_excesses, net_after, due_in, undistributed_in, dues_in, settled_in}
use Rattle.book.specs.Books.{Book, no_obligations, no_sums, posted_in, facts_of_book, Sound}
use Rattle.book.specs.Entered.{post_lines, posted_after}
use Rattle.book.proofs.AreaNets.{element_of, watts_at, days_in_range, nets_in_range}

cents_at : (f : ℕ → ℤ) {l : List Cents} → l ≡ list_below party_count (λ p. cents (f p)) → (p : ℕ) → p < party_count → cents_of l p ≡ f p
cents_at f e p h = ap (λ (c : Cents). c.0) (element_of (λ q. cents (f q)) e p (cents (pos 0)) h)

-- whether money is left over, and the dues, by what an area comes to
module _ (F : Facts) (a : ℕ) where
  abbrev come_to : Bool → Result (List Cents) Undistributed
  come_to t = cond t (Err (record { dues = dues_in F a })) (Ok (dues_in F a))

  pub distributed : {given : List Cents} → Ok given ≡ settled_in F a → (undistributed_in F a ≡ false) × (given ≡ dues_in F a)
  distributed {given} = go (undistributed_in F a)
    where
      go : (t : Bool) → Ok given ≡ come_to t → (t ≡ false) × (given ≡ dues_in F a)
      go true e = cc
      go false e = (refl, cc)

  pub left_over : {given : Undistributed} → Err given ≡ settled_in F a → undistributed_in F a ≡ true
  left_over {given} = go (undistributed_in F a)
    where
      go : (t : Bool) → Err given ≡ come_to t → t ≡ true
      go true e = refl
      go false e = cc

-- what a settled area holds
settled_is : (F : Facts) (a : ℕ) → settled (net_after F a) (F.area a).price (days F) (F.obligation a) ≡ settled_in F a
unfolding settled due_in undistributed_in
settled_is F a = refl

module _ (b : Book) where
  abbrev F : Facts
  F = facts_of_book b

  -- the nets after the ready excesses are in range, as those before are
  nets_after_in_range : Sound b → (a : ℕ) → watts_in_range (net_after F a) ≡ true
  unfolding net_after
  nets_after_in_range s a = lowered_in_range (ready_excesses F a) (net_in F a) (nets_in_range b s a)

  pub area_range : Sound b → (a : ℕ) → area_in_range (net_after F a) (F.area a).price (delivery_days b.year) (F.obligation a) ≡ true
  unfolding area_in_range
  area_range s a =
      simp (
        le-leb _ _ (s.areas.each a),
        le-leb _ _ (within_to 365 366 (delivery_days b.year) (days_in_range b.year)),
        le-leb _ _ (sum_bounded party_count party_count 100000000 (F.obligation a) (le_refl party_count) (s.obligations.each a).each),
        nets_after_in_range s a,
      )

  pub due_most_lem : Sound b → (a p : ℕ) → p < party_count → nat_abs (due_in F a p) ≤ due_most
  unfolding due_in
  due_most_lem s a p h = due_bound (net_after F a) (F.area a).price (delivery_days b.year) (F.obligation a) p h (area_range s a)

  pub money_settled : Sound b → (a : ℕ) → a < area_count → {nets : List UnforcedWatts} {os : List ℕ} {n : ℕ} {m : Result (List Cents) Undistributed}
      → nets ≡ list_below party_count (λ p. unforced_watts (net_after F a p)) → os ≡ list_below party_count (element (get_or b.obligations a [])) → n ≡ days F
      → m ≡ money_answer nets (F.area a).price n os → m ≡ settled_in F a
  unfolding money_answer
  money_settled s a inside {nets} {os} e eo en given =
      given ∙ ap (λ (n : ℕ). money_answer nets price n os) en
      ∙ simp (range_same (watts_of nets) (net_after F a) price (days F) (element os) (F.obligation a) nets_are loads_are, area_range s a)
      (settled_same (watts_of nets) (net_after F a) price (days F) (element os) (F.obligation a) nets_are loads_are)
      ∙ settled_is F a
    where
      price : ℕ
      price = (F.area a).price

      nets_are : (p : ℕ) → p < party_count → watts_of nets p ≡ net_after F a p
      nets_are = watts_at (net_after F a) e

      loads_are : (p : ℕ) → p < party_count → element os p ≡ F.obligation a p
      loads_are p h =
          element_of (element (get_or b.obligations a [])) eo p 0 h
          ∙ ap (λ (l : List ℕ). element l p) (get_or_default b.obligations a [] no_obligations (rw s.obligations.long inside))

  -- no line meets the guard of `money`
  line_posted : Sound b → (a p : ℕ) → p < party_count → line_answer (due_in F a p) (posted_in b.posted a p) ≡ line (due_in F a p) (posted_in b.posted a p)
  unfolding line_answer
  line_posted s a p h = simp (le-leb _ _ (due_most_lem s a p h), le-leb _ _ ((s.posted.each a).each p))

  pub lines_posted : Sound b → (a : ℕ) → a < area_count → {dues earlier : List Cents} → dues ≡ list_below party_count (λ p. cents (due_in F a p))
      → earlier ≡ get_or b.posted a [] → lines_answer dues earlier ≡ post_lines b a
  unfolding lines_answer post_lines
  lines_posted s a inside e ee =
      list_same party_count _ _
      (λ p h. ap cents (rw (cents_at (due_in F a) e p h, ee, get_or_default b.posted a [] no_sums (rw s.posted.long inside)) (line_posted s a p h)))

  -- the posted sums after a post, by its dues
  pub posted_after_lem : (a : ℕ) {dues : List Cents} → dues ≡ list_below party_count (λ p. cents (due_in F a p)) → set b.posted a dues ≡ posted_after b a
  unfolding posted_after
  posted_after_lem a e = rw e
