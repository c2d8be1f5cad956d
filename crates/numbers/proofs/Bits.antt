-- Bits of a number that is given by its bits.
use Rattle.std.proofs.Common.{◌≡◌, refl, sym, ap, ◌∙◌, Bool, true, false, cond, ℕ, zero, suc, add-zero, ◌+◌, ◌-◌, ◌*◌, ◌/◌, ◌%◌, ◌^◌, ◌<◌, arith, ltb, ltb-true, ltb-false}
use Rattle.std.specs.Int.{bit_at}
use Rattle.std.proofs.Math.Nat.{pow-suc, mul_assoc, add-mul-div_right, div-eq_of_lt}
use Rattle.std.proofs.lemmas.Nat.{pow_pos, pow-add, shr_high, shr-shr}
use Rattle.numbers.specs.Sum.{sum_below}
use Rattle.numbers.specs.Bits.{bits_below}

-- digits that are put in front from place n on move no bit below it,
pub low_bit : (n k a x : ℕ) → k < n → bit_at (a + x * 2 ^ n) k ≡ bit_at a k
low_bit n k a x h =
    let place : n ≡ n - k - 1 + 1 + k = omega arith in
    let power : 2 ^ n ≡ 2 ^ (n - k - 1) * 2 ^ 1 * 2 ^ k
    = ap (λ j. 2 ^ j) place ∙ pow-add 2 (n - k - 1 + 1) k ∙ ap (λ y. y * 2 ^ k) (pow-add 2 (n - k - 1) 1) in
    let digits : x * 2 ^ n ≡ x * (2 ^ (n - k - 1) * 2 ^ 1) * 2 ^ k = ap (λ y. x * y) power ∙ sym (mul_assoc x (2 ^ (n - k - 1) * 2 ^ 1) (2 ^ k)) in
    let even : x * (2 ^ (n - k - 1) * 2 ^ 1) ≡ x * 2 ^ (n - k - 1) * 2 = sym (mul_assoc x (2 ^ (n - k - 1)) (2 ^ 1)) in
    let shifted : (a + x * 2 ^ n) / 2 ^ k ≡ a / 2 ^ k + x * (2 ^ (n - k - 1) * 2 ^ 1)
    = ap (λ y. (a + y) / 2 ^ k) digits ∙ add-mul-div_right a (x * (2 ^ (n - k - 1) * 2 ^ 1)) (pow_pos k) in
    omega (arith, shifted, even)

-- and have their own bits there
pub high_bit : (n k a x : ℕ) → a < 2 ^ n → bit_at (x * 2 ^ n + a) (n + k) ≡ bit_at x k
high_bit n k a x small = ap (λ y. y % 2) (sym (shr-shr (x * 2 ^ n + a) n k) ∙ ap (λ y. y / 2 ^ k) (shr_high x n a small))

module _ (f : ℕ → Bool) where
  pub bits_small : (n : ℕ) → bits_below n f < 2 ^ n
  unfolding bits_below sum_below
  bits_small zero = omega arith
  bits_small (suc n) = go (f n) (bits_small n)
    where
      go : (t : Bool) → bits_below n f < 2 ^ n → bits_below n f + cond t (2 ^ n) 0 < 2 ^ suc n
      go true small = omega (arith, pow-suc 2 n)
      go false small = omega (arith, pow-suc 2 n)

  pub bit_below : (n k : ℕ) → k < n → bit_at (bits_below n f) k ≡ cond (f k) 1 0
  unfolding bits_below sum_below
  bit_below zero k h = absurd (omega arith)
  bit_below (suc n) k h = go (ltb k n) refl (bit_below n k)
    where
      below : (t : Bool) → k < n → bit_at (bits_below n f + cond t (2 ^ n) 0) k ≡ bit_at (bits_below n f) k
      below true less = let one : 2 ^ n ≡ 1 * 2 ^ n = omega arith in rw one (low_bit n k (bits_below n f) 1 less)
      below false less = ap (λ x. bit_at x k) (add-zero (bits_below n f))

      at_last : (t : Bool) → bit_at (bits_below n f + cond t (2 ^ n) 0) n ≡ cond t 1 0
      at_last true =
          let front : bits_below n f + 2 ^ n ≡ 1 * 2 ^ n + bits_below n f = omega arith in
          rw front (omega (arith, shr_high 1 n (bits_below n f) (bits_small n)))
      at_last false =
          ap (λ x. bit_at x n) (add-zero (bits_below n f)) ∙ omega (arith, div-eq_of_lt (bits_small n))

      go : (t : Bool) → ltb k n ≡ t → (k < n → bit_at (bits_below n f) k ≡ cond (f k) 1 0) → bit_at (bits_below n f + cond (f n) (2 ^ n) 0) k ≡ cond (f k) 1 0
      go true q earlier = below (f n) (ltb-true k n q) ∙ earlier (ltb-true k n q)
      go false q earlier = let last : k ≡ n = omega (arith, ltb-false k n q) in rw last (at_last (f n))
