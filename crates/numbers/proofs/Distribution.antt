-- One turn of a split's loop, and what its tests say.
use Rattle.std.proofs.Common.{◌≡◌, refl, sym, ap, ◌∙◌, Bool, true, false, cond, ◌&&◌, List, ℕ, zero, suc, ◌+◌, ◌-◌, ◌*◌, ◌/◌, ◌^◌, ◌≤◌, ◌<◌, min}
use Rattle.std.proofs.Common.{mul_comm, mul-le-mul_left, le-mul_of_pos_right, arith, ltb, length, ltb-true}
use Rattle.std.proofs.Common.{ltb-false, lt-ltb}
use lib.ListN.{get_or-eq_default}
use Rattle.std.specs.Array.{IsMapOf}
use Rattle.std.specs.Fn.{Mut, Called}
use Rattle.numbers.specs.Sum.{sum_below}
use Rattle.numbers.specs.Lists.{list_below, element}
use Rattle.numbers.specs.Split.{first_shares, split, split_answer}
use Rattle.numbers.proofs.Sums.{sum_one_more, sum_grows}
use Rattle.numbers.proofs.Tests.{both_true}
use Rattle.numbers.proofs.Lists.{element_below, list_same}
use Rattle.numbers.proofs.Arrays.{map-is}
use Rattle.numbers.proofs.CappedSums.{total}
use Rattle.numbers.proofs.Splits.{floor_grows, share_at_most, no_amount, no_weights}

-- past a list's end its sum does not grow
pub sum_past : (ws : List ℕ) (k : ℕ) → sum_below k (element ws) ≤ total ws
unfolding sum_below
sum_past ws zero = omega arith
sum_past ws (suc k) = go (ltb k (length ws)) refl (sum_past ws k)
  where
    go : (t : Bool) → ltb k (length ws) ≡ t → sum_below k (element ws) ≤ total ws → sum_below k (element ws) + element ws k ≤ total ws
    go true q earlier = sum_grows (suc k) (length ws) (element ws) (ltb-true k (length ws) q)
    go false q earlier = omega (arith, get_or-eq_default ws 0 {n = k} (ltb-false k (length ws) q))

-- what a turn at place k finds: weight w, with the sum of the weights before it and what they were given
pub record Turn (a : ℕ) (ws : List ℕ) (z sum given k w : ℕ) : Type 0 where
  pub sum_within : sum + w ≤ z
  pub product_within : a * (sum + w) ≤ a * z
  pub grows : given ≤ a * (sum + w) / z
  pub sum_next : sum + w ≡ sum_below (k + 1) (element ws)
  pub given_next : a * (sum + w) / z ≡ first_shares a (length ws) (element ws) (k + 1)
  pub share : a * (sum + w) / z - given ≡ split a (length ws) (element ws) k

pub turn : (a : ℕ) (ws : List ℕ) {z sum given k w : ℕ} → z ≡ total ws → sum ≡ sum_below k (element ws)
    → given ≡ first_shares a (length ws) (element ws) k → w ≡ element ws k → Turn a ws z sum given k w
unfolding first_shares split
turn a ws {z} {sum} {given} {k} {w} isz issum isgiven isw =
    let next : sum + w ≡ sum_below (k + 1) (element ws) = rw (issum, isw) (sym (sum_one_more k (element ws))) in
    let inside : sum + w ≤ z = omega (arith, next, sum_past ws (k + 1)) in
    let first : a * (sum + w) / z ≡ a * sum_below (k + 1) (element ws) / total ws = rw (next, isz) in
    record {
      sum_within = inside;
      product_within = mul-le-mul_left a inside;
      grows = rw (isgiven, ← isz, ← issum) (floor_grows (a * sum) (a * (sum + w)) z (mul-le-mul_left a (omega arith)));
      sum_next = next;
      given_next = first;
      share = rw (first, isgiven);
    }

-- there is something to split, somebody to get it, and their product is below 2^63
abbrev Found : ℕ → ℕ → Bool
Found a z = ltb 0 a && (ltb 0 z && ltb (a * z) (2 ^ 63))

found_parts : (a z : ℕ) → Found a z ≡ true → (0 < a) × (0 < z) × (a * z < 2 ^ 63)
found_parts a z e =
    let (some, rest) = both_true e in
    let (somebody, within) = both_true rest in
    (ltb-true 0 a some, ltb-true 0 z somebody, ltb-true (a * z) (2 ^ 63) within)

-- where there are shares, the capped sum is the sum
pub shares_found : (a t : ℕ) {z : ℕ} → z ≡ min t (2 ^ 64 - 1) → Found a z ≡ true → (z ≡ t) × (0 < z) × (a * z < 2 ^ 63) × (a * t < 2 ^ 63)
shares_found a t {z} isz e =
    let parts = found_parts a z e in
    let small : z ≤ a * z = rw mul_comm (le-mul_of_pos_right z parts.0) in
    let whole : z ≡ t = omega arith in
    (whole, parts.1, parts.2, rw (← whole) parts.2)

pub answer_shares : (a : ℕ) (ws : List ℕ) (n : ℕ) → a * total ws < 2 ^ 63 → split_answer a ws n ≡ list_below n (split a (length ws) (element ws))
unfolding split_answer
answer_shares a ws n h = simp (lt-ltb (a * total ws) (2 ^ 63) h)

pub answer_none : (a : ℕ) (ws : List ℕ) (n : ℕ) {z : ℕ} → z ≡ min (total ws) (2 ^ 64 - 1) → Found a z ≡ false → list_below n (λ k. 0) ≡ split_answer a ws n
unfolding split_answer
answer_none a ws n {z} isz e = go (ltb (a * total ws) (2 ^ 63)) refl
  where
    shares : ℕ → ℕ
    shares = split a (length ws) (element ws)

    nothing : (t u : Bool) → ltb 0 a ≡ t → ltb 0 z ≡ u → a * total ws < 2 ^ 63 → (k : ℕ) → 0 ≡ shares k
    nothing false u p q h k = let none : a ≡ 0 = omega (arith, ltb-false 0 a p) in rw none (sym (no_amount (length ws) (element ws) k))
    nothing true false p q h k = sym (no_weights a (length ws) (element ws) k (omega (arith, ltb-false 0 z q)))
    nothing true true p q h k =
        let within : a * z ≤ a * total ws = mul-le-mul_left a (omega (arith, isz)) in
        let found : Found a z ≡ true = simp (p, q, lt-ltb (a * z) (2 ^ 63) (omega arith)) in
        let never : true ≡ false = sym found ∙ e in
        let clash : ◌≡◌ {A = ℕ} 0 1 = cc in
        absurd (omega arith)

    go : (t : Bool) → ltb (a * total ws) (2 ^ 63) ≡ t → list_below n (λ k. 0) ≡ cond t (list_below n shares) (list_below n (λ k. 0))
    go false q = refl
    go true q = list_same n (λ k. 0) shares (λ k b. nothing (ltb 0 a) (ltb 0 z) refl refl (ltb-true (a * total ws) (2 ^ 63) q) k)

-- What `split_array` answers for sixteen parties, where the product fits, and what an array's `map` makes of it: `put` of each share.
module _ {a n : ℕ} (ws : List ℕ) {r : List ℕ} (amount : n ≡ a) (sixteen : length ws ≡ 16) (fits : a * sum_below 16 (element ws) < 2 ^ 63)
    (e : r ≡ split_answer n ws 16) where
  party_share : (k : ℕ) → k < 16 → element r k ≡ split a 16 (element ws) k
  party_share k h =
      let shares : r ≡ list_below 16 (split a 16 (element ws)) =
      e ∙ rw amount (answer_shares a ws 16 (rw sixteen fits)) ∙ ap (λ (m : ℕ). list_below 16 (split a m (element ws))) sixteen in
      ap (λ (l : List ℕ). element l k) shares ∙ element_below 16 (split a 16 (element ws)) k 0 h

  share_fits : (k : ℕ) → k < 16 → split a 16 (element ws) k < 2 ^ 63
  share_fits k h = go (ltb 0 (sum_below 16 (element ws))) refl
    where
      go : (t : Bool) → ltb 0 (sum_below 16 (element ws)) ≡ t → split a 16 (element ws) k < 2 ^ 63
      go true q =
          let some : a ≤ a * sum_below 16 (element ws) = le-mul_of_pos_right a (ltb-true 0 (sum_below 16 (element ws)) q) in
          omega (arith, share_at_most a 16 (element ws) k h)
      go false q =
          let none : sum_below 16 (element ws) ≡ 0 = omega (arith, ltb-false 0 (sum_below 16 (element ws)) q) in
          omega (arith, no_weights a 16 (element ws) k none)

  pub shares_mapped : {F B : Type 0} {g : Mut F (ℕ × Unit {0}) B} (P : F → Type 0) (put : ℕ → B)
      → ((f : F) (share : ℕ) (y : B) (q : F) → share < 2 ^ 63 → P f → Called g f (share, tt) y q → (y ≡ put share) × P q)
      → {f : F} {ys : List B} → P f → IsMapOf g f r ys 16 → ys ≡ list_below 16 (λ p. put (split a 16 (element ws) p))
  shares_mapped P put call =
      map-is P r 0 _
      (λ f k y q b held called.
      let is = party_share k b in
      let made = call f (element r k) y q (rw is (share_fits k b)) held called in (made.0 ∙ ap put is, made.1))
