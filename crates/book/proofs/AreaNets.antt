-- An area's nets unit by unit: each unit's share is one split, and in a sound book no guard of `capacity` is met.
use Rattle.std.proofs.Common.{◌≡◌, refl, sym, ap, ◌∙◌, Bool, true, false, cond, List, ◌⊎◌, inl, inr, ℕ, ◌+◌, ◌-◌, ◌*◌, ◌^◌, ◌≤◌, ◌<◌, ◌&&◌, zero-le, le_refl}
use Rattle.std.proofs.Common.{le_trans, add-one, arith, ℤ, pos, nat_abs, ◌+ℤ◌, eqb, length, get_or, set, length-set, ext_get_or, eq-eqb, ne_eqb, le-leb, ltb-true}
use lib.IntN.{sub_ℕ, +ℤ_idr}
use Rattle.numbers.specs.Sum.{sum_below, capped}
use Rattle.numbers.specs.Range.{within}
use Rattle.numbers.specs.Lists.{list_below, element}
use Rattle.numbers.specs.Signed.{above, below, sum_below_ℤ}
use Rattle.numbers.specs.Split.{with_sign, split_signed}
use Rattle.numbers.proofs.Sums.{sum_one_more, sum_same, sum_bounded}
use Rattle.numbers.proofs.Tests.{within_holds, both_true}
use Rattle.numbers.proofs.Lists.{length_below, element_below, list_same}
use Rattle.numbers.proofs.SignedSums.{sum_same_ℤ}
use Rattle.numbers.proofs.Sizes.{below_size}
use Rattle.numbers.proofs.CappedSums.{capped_below}
use Rattle.numbers.proofs.Splits.{no_amount}
use Rattle.calendar.specs.Gregorian.{leap_year}
use Rattle.calendar.specs.DeliveryYear.{delivery_days}
use Rattle.capacity.specs.declared.UnforcedWatts.{UnforcedWatts}
use Rattle.capacity.specs.Quantities.{unforced_watts, watts_of}
use Rattle.capacity.specs.Shortfall.{installed_most, hours_most, watt_days_most, watt_days, unit_watt_days, part_of, watt_days_of, is_ready, rates_in_range, hours_in_range}
use Rattle.capacity.specs.Shortfall.{rating_in_range, unit_in_range, year_in_range, watt_days_answer, committed_answer, shortfall_answer}
use Rattle.capacity.specs.Shares.{unit_share, net, shares_in_range, shares_answer, net_with, nets_answer, excess_watts, excess_answer, lowered_answer}
use Rattle.capacity.proofs.Capacities.{limited_shortfall_size, unit_committed_at_most}
use Rattle.capacity.proofs.Bounds.{shortfalls_bound, excesses_bound, ready_excesses_bound, net_steps, excess_steps}
use Rattle.capacity.proofs.Nets.{watt_days_same, shares_same, excess_below}
use Rattle.money.specs.AreaMoney.{watts_in_range}
use Rattle.records.specs.declared.format.CommitmentRecord.{CommitmentRecord}
use Rattle.records.specs.Format.{unit_count, commitment_count, party_count}
use Rattle.rules.specs.Facts.{Facts, is_entered}
use Rattle.rules.specs.Rules.{party_index}
use Rattle.rules.specs.Dues.{days, watt_days_for, watt_days_in, part_for, is_ready_in, committed_in, shortfall_in, share_in, net_in, ready_excess}
use Rattle.rules.specs.Dues.{ready_excesses, net_after}
use Rattle.rules.proofs.Owners.{not_ready, own_area}
use Rattle.rules.proofs.WattDays.{parts_add_up}
use Rattle.rules.proofs.Named.{named_by}
use Rattle.book.specs.declared.UnitEntry.{UnitEntry}
use Rattle.book.specs.Books.{Book, no_entry, commitment_in, facts_of_book, SoundUnit, SoundCommitments, Sound}
use Rattle.book.specs.Steps.{part_most, commitment_part, unit_answer}
use Rattle.book.proofs.Ranges.{watt_days_most_lem, part_most_lem, other_unit, own_part}

-- an element of an array that was filled
pub element_of : {A : Type 0} (f : ℕ → A) {l : List A} → l ≡ list_below party_count f → (k : ℕ) (d : A) → k < party_count → get_or l k d ≡ f k
element_of f e k d h = rw e (element_below party_count f k d h)

pub watts_at : (f : ℕ → ℤ) {l : List UnforcedWatts} → l ≡ list_below party_count (λ p. unforced_watts (f p)) → (p : ℕ) → p < party_count → watts_of l p ≡ f p
watts_at f e p h = ap (λ (w : UnforcedWatts). w.0) (element_of (λ q. unforced_watts (f q)) e p (unforced_watts (pos 0)) h)

-- a unit of an area is in the ranges of `capacity`
unit_in_range_lem : (u : UnitEntry) (a : ℕ) → SoundUnit u → u.entry.area ≡ a + 1 → unit_in_range u.entry.rating u.hours ≡ true
unfolding unit_in_range rating_in_range rates_in_range hours_in_range
unit_in_range_lem u a s e =
    simp (
      within_holds 1 installed_most _ least s.rating.installed_bound,
      le-leb _ _ s.rating.eford_most,
      le-leb _ _ s.rating.eford5_most,
      le-leb _ _ s.rating.efordyear_most,
      le-leb _ _ s.rating.class_most,
      le-leb u.hours.service hours_most (omega (arith, s.hours_counted, s.last_most)),
      le-leb u.hours.outage hours_most (omega (arith, s.hours_counted, s.last_most)),
      le-leb _ _ s.derated_most,
    )
  where
    go : (u.entry.area ≡ 0) ⊎ (1 ≤ u.entry.rating.installed.0) → 1 ≤ u.entry.rating.installed.0
    go (inl none) = absurd (omega arith)
    go (inr h) = h

    least : 1 ≤ u.entry.rating.installed.0
    least = go s.installed_least

pub days_in_range : (y : ℕ) → within 365 366 (delivery_days y) ≡ true
unfolding delivery_days within
days_in_range y = go (leap_year (y + 1))
  where
    go : (t : Bool) → within 365 366 (cond t 366 365) ≡ true
    go true = refl
    go false = refl

-- a unit's limited S where it is in the area, which is what is split
abbrev amount_in : Facts → ℕ → ℕ → ℤ
amount_in F a u = cond (eqb (F.unit u).area (a + 1)) (shortfall_in F u) (pos 0)

share_is_split : (F : Facts) (a u p : ℕ) → share_in F a u p ≡ split_signed (amount_in F a u) party_count (part_for F.commitment u) p
unfolding share_in unit_share split_signed with_sign
share_is_split F a u p = go (eqb (F.unit u).area (a + 1))
  where
    go : (t : Bool)
        → cond t (unit_share (shortfall_in F u) (part_for F.commitment u) p) (pos 0) ≡ split_signed (cond t (shortfall_in F u) (pos 0)) party_count (part_for F.commitment u) p
    go true = refl
    go false = ap pos (sym (no_amount party_count (part_for F.commitment u) p))

nets_are_splits : (F : Facts) (a n p : ℕ) → net n (share_in F a) p ≡ net n (λ u. split_signed (amount_in F a u) party_count (part_for F.commitment u)) p
unfolding net
nets_are_splits F a n p = sum_same_ℤ n _ _ (λ u h. share_is_split F a u p)

one_unit_more : (share : ℕ → ℕ → ℤ) (k p : ℕ) → net (k + 1) share p ≡ net k share p +ℤ share k p
unfolding net sum_below_ℤ
one_unit_more share k p = rw add-one

-- a unit of another area changes no net
net_unchanged : (F : Facts) (a k p : ℕ) → eqb (F.unit k).area (a + 1) ≡ false → net (k + 1) (share_in F a) p ≡ net k (share_in F a) p
unfolding share_in
net_unchanged F a k p e = one_unit_more (share_in F a) k p ∙ simp (e, +ℤ_idr)

module _ (b : Book) where
  abbrev F : Facts
  F = facts_of_book b

  abbrev part : ℕ → ℕ → ℕ
  part = part_for F.commitment

  -- T is at most I, and S at most T
  committed_small : (u : ℕ) → committed_in F u ≤ (F.unit u).rating.installed.0
  unfolding committed_in
  committed_small u = unit_committed_at_most (F.unit u).rating (is_entered (F.owner u)) (watt_days_in F.commitment u) (days F)

  shortfall_small : Sound b → (u : ℕ) → nat_abs (shortfall_in F u) ≤ installed_most
  unfolding shortfall_in
  shortfall_small sound u =
      le_trans (limited_shortfall_size (F.unit u).rating (F.hours u) (committed_in F u)) (le_trans (committed_small u) (sound.units.each u).rating.installed_bound)

  amounts_small : Sound b → (a u : ℕ) → nat_abs (amount_in F a u) ≤ installed_most
  amounts_small sound a u = go (eqb (F.unit u).area (a + 1))
    where
      go : (t : Bool) → nat_abs (cond t (shortfall_in F u) (pos 0)) ≤ installed_most
      go true = shortfall_small sound u
      go false = zero-le

  -- a unit's watt-days are those of 64 commitments at most
  watt_days_small : Sound b → (u : ℕ) → watt_days_in F.commitment u ≤ watt_days_most
  unfolding watt_days_in unit_watt_days watt_days_for
  watt_days_small sound u = sum_bounded commitment_count commitment_count part_most _ (le_refl commitment_count) (λ k. go k (eqb (F.commitment k).unit (u + 1)))
    where
      go : (k : ℕ) (t : Bool) → cond t (watt_days (F.commitment k).watts (F.commitment k).first (F.commitment k).last) 0 ≤ part_most
      go k true = watt_days_most_lem (sound.commitments.each k)
      go k false = zero-le

  -- V by its parts
  capped_is : Sound b → (u : ℕ) {parts : List ℕ} → parts ≡ list_below party_count (part u) → capped parts ≡ watt_days_in F.commitment u
  unfolding watt_days_of
  capped_is sound u {parts} e =
      omega (arith, capped_below (part u) (2 ^ 64 - 1) {v = capped parts} e refl, parts_add_up F.commitment (λ k. (sound.commitments.each k).party) u, watt_days_small sound u)

  -- the S that the code works out of a unit of the area, and its shares
  answer_is : Sound b → (a u : ℕ) → (F.unit u).area ≡ a + 1 → unit_answer (get_or b.units u no_entry) (watt_days_in F.commitment u) (days F) ≡ shortfall_in F u
  unfolding shortfall_in committed_in committed_answer shortfall_answer year_in_range unit_in_range
  answer_is sound a u e =
      let inside = unit_in_range_lem (get_or b.units u no_entry) a (sound.units.each u) e in
      let rating = both_true {a = rating_in_range (F.unit u).rating} inside in
      simp (rating.0, rating.1, le-leb _ _ (watt_days_small sound u), days_in_range b.year, le-leb _ _ (committed_small u))

  shares_of_unit : Sound b → (a u p : ℕ) → p < party_count → (F.unit u).area ≡ a + 1
      → watts_of (shares_answer (shortfall_in F u) (list_below party_count (part u))) p ≡ share_in F a u p
  unfolding share_in shares_answer shares_in_range
  shares_of_unit sound a u p h e =
      simp (
        eq-eqb _ _ e,
        le-leb _ _ (shortfall_small sound u),
        watt_days_same (element (list_below party_count (part u))) (part u) given,
        parts_add_up F.commitment (λ k. (sound.commitments.each k).party) u,
        le-leb _ _ (watt_days_small sound u),
      )
      (watts_at (unit_share (shortfall_in F u) (element (list_below party_count (part u)))) refl p h ∙ shares_same (shortfall_in F u) _ (part u) given p h)
    where
      given : (k : ℕ) → k < party_count → element (list_below party_count (part u)) k ≡ part u k
      given k below = element_below party_count (part u) k 0 below

  -- the excesses of the first k units, party by party
  abbrev pub excesses_of : ℕ → ℕ → List UnforcedWatts
  excesses_of a k = list_below party_count (λ p. excess_watts (sum_below k (ready_excess F a p)))

  excess_small : Sound b → (a p u : ℕ) → ready_excess F a p u ≤ installed_most
  unfolding ready_excess
  excess_small sound a p u = go (eqb (F.unit u).area (a + 1) && (is_ready_in F u && eqb (F.owner u) (p + 1)))
    where
      go : (t : Bool) → cond t (below (shortfall_in F u)) 0 ≤ installed_most
      go true = le_trans (below_size (shortfall_in F u)) (shortfall_small sound u)
      go false = zero-le

  -- one unit more
  excess_one_more : Sound b → (a p k : ℕ) → k < unit_count
      → net_with (sub_ℕ 0 (sum_below k (ready_excess F a p))) (sub_ℕ 0 (ready_excess F a p k)) ≡ sub_ℕ 0 (sum_below (k + 1) (ready_excess F a p))
  excess_one_more sound a p k few =
      rw (sum_one_more k (ready_excess F a p))
      (excess_steps _ _ (ready_excesses_bound k (ready_excess F a p) (omega arith) (excess_small sound a p)) (omega (arith, excess_small sound a p k)))

  -- the nets of all units
  pub nets_in_range : Sound b → (a : ℕ) → watts_in_range (net_in F a) ≡ true
  unfolding watts_in_range net_in
  nets_in_range sound a =
      simp (
        sum_same party_count (λ p. above (net unit_count (share_in F a) p)) _ (λ p h. ap above (nets_are_splits F a unit_count p)),
        sum_same party_count (λ p. below (net unit_count (share_in F a) p)) _ (λ p h. ap below (nets_are_splits F a unit_count p)),
        le-leb _ _ (shortfalls_bound unit_count (amount_in F a) part (le_refl unit_count) (amounts_small sound a)),
        le-leb _ _ (excesses_bound unit_count (amount_in F a) part (le_refl unit_count) (amounts_small sound a)),
      )

  -- one unit more
  net_one_more : Sound b → (a k p : ℕ) → k < unit_count → p < party_count → net_with (net k (share_in F a) p) (share_in F a k p) ≡ net (k + 1) (share_in F a) p
  net_one_more sound a k p few h =
      rw (nets_are_splits F a k p, nets_are_splits F a (k + 1) p, share_is_split F a k p)
      (net_steps k (amount_in F a) part p few h (amounts_small sound a))

  -- the nets of the first k units
  abbrev pub nets_of : ℕ → ℕ → List UnforcedWatts
  nets_of a k = list_below party_count (λ p. unforced_watts (net k (share_in F a) p))

  -- an area's nets and excesses with one unit more: of another area, and of this
  module _ (sound : Sound b) (a k : ℕ) (few : k < unit_count) {nets excesses : List UnforcedWatts} (e : nets ≡ nets_of a k) (x : excesses ≡ excesses_of a k) where
    pub nets_same : ((F.unit k).area ≡ a + 1 → ⊥) → nets ≡ nets_of a (k + 1)
    nets_same ne = e ∙ list_same party_count _ _ (λ p h. ap unforced_watts (sym (net_unchanged F a k p (ne_eqb _ _ ne))))

    none_more : ((p : ℕ) → ready_excess F a p k ≡ 0) → excesses ≡ excesses_of a (k + 1)
    none_more none = x ∙ list_same party_count _ _ (λ p h. ap excess_watts (rw (sum_one_more k (ready_excess F a p)) (omega (arith, none p))))

    pub excesses_same : ((F.unit k).area ≡ a + 1 → ⊥) → excesses ≡ excesses_of a (k + 1)
    excesses_same ne = none_more (own_area F k a (ne_eqb _ _ ne))

    module _ (own : (F.unit k).area ≡ a + 1) {parts : List ℕ} {n : ℕ} (parts_are : parts ≡ list_below party_count (part k)) (days_are : n ≡ delivery_days b.year) where
      -- the S that the code has
      abbrev answered : ℤ
      answered = unit_answer (get_or b.units k no_entry) (capped parts) n

      answered_is : answered ≡ shortfall_in F k
      answered_is = rw (capped_is sound k parts_are, days_are) (answer_is sound a k own)

      pub nets_more : {more : List UnforcedWatts} → more ≡ nets_answer nets (shares_answer answered parts) → more ≡ nets_of a (k + 1)
      unfolding nets_answer
      nets_more given =
          given
          ∙ list_same party_count _ _ (λ p h. ap unforced_watts (
          rw (watts_at (net k (share_in F a)) e p h, answered_is, parts_are, shares_of_unit sound a k p h own) (net_one_more sound a k p few h)))

      -- a ready unit has a party for its owner, at whose place its excess stands
      owner_known : is_ready_in F k ≡ true → within 1 party_count (F.owner k) ≡ true
      unfolding is_ready
      owner_known q = go (sound.units.each k).owner
        where
          go : (F.owner k ≡ 0) ⊎ (within 1 party_count (F.owner k) ≡ true) → within 1 party_count (F.owner k) ≡ true
          go (inl none) = absurd (omega (arith, ltb-true 0 (F.owner k) (both_true {a = is_entered (F.owner k)} q).0, none))
          go (inr ok) = ok

      owners_excess : is_ready_in F k ≡ true → (p : ℕ) → cond (eqb p (party_index (F.owner k))) (below (shortfall_in F k)) 0 ≡ ready_excess F a p k
      unfolding ready_excess
      owners_excess q p = simp (named_by party_count (F.owner k) p (owner_known q), eq-eqb _ _ own, q)

      -- of a ready unit, and of any other
      pub excesses_more : {more : List UnforcedWatts}
          → more ≡ cond (is_ready (is_entered (F.owner k)) (capped parts)) (nets_answer excesses (excess_answer answered (party_index (F.owner k)))) excesses
          → more ≡ excesses_of a (k + 1)
      unfolding nets_answer excess_answer
      excesses_more given = given ∙ rw (answered_is, capped_is sound k parts_are) (go (is_ready_in F k) refl)
        where
          go : (t : Bool) → is_ready_in F k ≡ t
              → cond t (nets_answer excesses (excess_answer (shortfall_in F k) (party_index (F.owner k)))) excesses ≡ excesses_of a (k + 1)
          go true q =
              list_same party_count _ _ (λ p h. ap unforced_watts (
              rw (
                watts_at (λ r. sub_ℕ 0 (sum_below k (ready_excess F a r))) x p h,
                watts_at (λ r. sub_ℕ 0 (cond (eqb r (party_index (F.owner k))) (below (shortfall_in F k)) 0)) refl p h,
                owners_excess q p,
              )
              (excess_one_more sound a p k few)))
          go false q = none_more (not_ready F k q a)

  -- no unit's nets and excesses, and all units'
  pub nets_none : (a : ℕ) → list_below party_count (λ p. unforced_watts (pos 0)) ≡ nets_of a 0
  unfolding net sum_below_ℤ
  nets_none a = refl

  pub excesses_none : (a : ℕ) → list_below party_count (λ p. unforced_watts (pos 0)) ≡ excesses_of a 0
  unfolding sum_below
  excesses_none a = refl

  pub nets_done : (a : ℕ) {k : ℕ} {nets excesses after : List UnforcedWatts} → k ≤ unit_count → unit_count ≤ k → nets ≡ nets_of a k → excesses ≡ excesses_of a k
      → after ≡ lowered_answer nets excesses → after ≡ list_below party_count (λ p. unforced_watts (net_after F a p))
  unfolding net_in net_after ready_excesses lowered_answer
  nets_done a {k} p q e x given =
      let same : k ≡ unit_count = omega arith in
      given
      ∙ list_same party_count _ _ (λ r h. ap unforced_watts (
      rw (watts_at (net k (share_in F a)) e r h, watts_at (λ j. sub_ℕ 0 (sum_below k (ready_excess F a j))) x r h, excess_below (sum_below k (ready_excess F a r)), same) refl))

-- the parties' parts of a unit's V, by what each of the first k commitments adds
pub record PartsOf (cs : List CommitmentRecord) (u : ℕ) (parts : List ℕ) (k : ℕ) : Type 0 where
  pub inside : k ≤ commitment_count
  pub long : length parts ≡ party_count
  pub each : (p : ℕ) → p < party_count → element parts p ≡ sum_below k (λ j. commitment_part (commitment_in cs j) u p)

module _ {cs : List CommitmentRecord} {u : ℕ} where
  pub parts_none : PartsOf cs u (list_below party_count (λ p. 0)) 0
  unfolding sum_below
  parts_none = record { inside = omega arith; long = length_below party_count (λ p. 0); each = λ p h. element_below party_count (λ q. 0) p 0 h }

  module _ {parts : List ℕ} {k : ℕ} (known : PartsOf cs u parts k) where
    -- a sum with one commitment more fits
    pub parts_small : SoundCommitments cs → k < commitment_count → (p : ℕ) → p < party_count → element parts p ≤ 63 * part_most
    parts_small sound few p h = rw (known.each p h) (sum_bounded k 63 part_most _ (omega arith) (λ j. part_most_lem (commitment_in cs j) u p (sound j)))

    parts_more : {more : List ℕ} → k < commitment_count → length more ≡ party_count
        → ((p : ℕ) → p < party_count → element more p ≡ element parts p + commitment_part (commitment_in cs k) u p) → PartsOf cs u more (k + 1)
    parts_more few long step =
        record { inside = omega arith; long = long; each = λ p h. step p h ∙ rw (known.each p h) (sym (sum_one_more k _)) }

    -- another unit's commitment adds nothing, one of its own to its party's part
    pub parts_same : k < commitment_count → ((commitment_in cs k).unit ≡ u + 1 → ⊥) → PartsOf cs u parts (k + 1)
    parts_same few ne = parts_more few known.long (λ p h. omega (arith, other_unit (commitment_in cs k) u p ne))

    pub parts_stored : SoundCommitments cs → k < commitment_count → (commitment_in cs k).unit ≡ u + 1 → {q days : ℕ} → q ≡ party_index (commitment_in cs k).party
        → q < party_count → days ≡ watt_days_answer (commitment_in cs k).watts (commitment_in cs k).first (commitment_in cs k).last
        → PartsOf cs u (set parts q (element parts q + days)) (k + 1)
    parts_stored sound few own {q} {days} named inside known_days =
        parts_more few (length-set parts q (element parts q + days) ∙ known.long)
        (λ p h. own_part (commitment_in cs k) u p (sound k) own parts named (omega (arith, known.long)) known_days)

    pub parts_all : commitment_count ≤ k → parts ≡ list_below party_count (part_for (commitment_in cs) u)
    unfolding part_for part_of watt_days_for commitment_part
    parts_all all =
        let same : k ≡ commitment_count = omega (arith, known.inside) in
        ext_get_or 0 parts _ (known.long ∙ sym (length_below party_count _))
        (λ p h.
        let below : p < party_count = omega (arith, known.long) in
        rw same at (known.each p below) ∙ sym (element_below party_count (part_for (commitment_in cs) u) p 0 below))
