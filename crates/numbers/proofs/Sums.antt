-- Laws of finite sums.
use Rattle.std.proofs.Common.{◌≡◌, refl, sym, ◌∙◌, Bool, true, false, cond, ℕ, zero, suc, ◌+◌, ◌≤◌, ◌<◌, ◌*◌, le_refl, not-suc-le-zero, suc-mul}
use Rattle.std.proofs.Common.{zero-mul, mul-le-mul_right, add-one, arith, leb, eqb, leb-true, leb-false, eqb-true, ne_eqb}
use borrow.Author.Tests.{eqb-false}
use Rattle.numbers.specs.Sum.{sum_below}

pub sum_one_more : (n : ℕ) (f : ℕ → ℕ) → sum_below (n + 1) f ≡ sum_below n f + f n
unfolding sum_below
sum_one_more n f = rw add-one

pub sum_grows : (a b : ℕ) (f : ℕ → ℕ) → a ≤ b → sum_below a f ≤ sum_below b f
unfolding sum_below
sum_grows a zero f h = let z : a ≡ 0 = omega arith in rw z (le_refl 0)
sum_grows a (suc b) f h = go (leb a b) refl (sum_grows a b f)
  where
    go : (t : Bool) → leb a b ≡ t → (a ≤ b → sum_below a f ≤ sum_below b f) → sum_below a f ≤ sum_below (suc b) f
    go true q below = omega (arith, below (leb-true a b q))
    go false q below = let e : a ≡ suc b = omega (arith, leb-false a b q) in rw e (le_refl (sum_below (suc b) f))

-- the sum up to and with the term n is within any longer sum
pub sum_term : (n m : ℕ) (f : ℕ → ℕ) → n < m → sum_below n f + f n ≤ sum_below m f
unfolding sum_below
sum_term n m f h = sum_grows (suc n) m f h

-- terms that are the same have the same sum
pub sum_same : (n : ℕ) (f g : ℕ → ℕ) → ((k : ℕ) → k < n → f k ≡ g k) → sum_below n f ≡ sum_below n g
unfolding sum_below
sum_same zero f g h = refl
sum_same (suc n) f g h = omega (arith, sum_same n f g (λ k b. h k (omega arith)), h n (omega arith))

pub sum_at_most : (n : ℕ) (f g : ℕ → ℕ) → ((k : ℕ) → k < n → f k ≤ g k) → sum_below n f ≤ sum_below n g
unfolding sum_below
sum_at_most zero f g h = le_refl 0
sum_at_most (suc n) f g h = omega (arith, sum_at_most n f g (λ k b. h k (omega arith)), h n (omega arith))

pub sum_add : (n : ℕ) (f g : ℕ → ℕ) → sum_below n (λ k. f k + g k) ≡ sum_below n f + sum_below n g
unfolding sum_below
sum_add zero f g = refl
sum_add (suc n) f g = omega (arith, sum_add n f g)

-- n times b
pub sum_fixed : (n b : ℕ) → sum_below n (λ k. b) ≡ n * b
unfolding sum_below
sum_fixed zero b = sym (zero-mul b)
sum_fixed (suc n) b = rw (suc-mul, sum_fixed n b)

pub sum_none : (n : ℕ) → sum_below n (λ k. 0) ≡ 0
sum_none n = omega (arith, sum_fixed n 0)

-- rows first or columns first
pub sum_exchange : (n m : ℕ) (f : ℕ → ℕ → ℕ) → sum_below n (λ i. sum_below m (f i)) ≡ sum_below m (λ j. sum_below n (λ i. f i j))
unfolding sum_below
sum_exchange zero m f = sym (sum_none m)
sum_exchange (suc n) m f = rw (sum_exchange n m f) (sym (sum_add m (λ j. sum_below n (λ i. f i j)) (f n)))

-- at most m terms of at most b each
pub sum_bounded : (n m b : ℕ) (f : ℕ → ℕ) → n ≤ m → ((k : ℕ) → f k ≤ b) → sum_below n f ≤ m * b
sum_bounded n m b f few each = omega (arith, sum_at_most n f (λ k. b) (λ k h. each k), sum_fixed n b, mul-le-mul_right b few)

-- of terms that are x at one number and 0 elsewhere, the sum is x
pub sum_picked : (m i x : ℕ) → i < m → sum_below m (λ j. cond (eqb i j) x 0) ≡ x
unfolding sum_below
sum_picked zero i x h = absurd (not-suc-le-zero h)
sum_picked (suc m) i x h = go (eqb i m) refl (sum_picked m i x)
  where
    before : (j : ℕ) → i ≡ m → j < m → cond (eqb i j) x 0 ≡ 0
    before j e b = let other : (i ≡ j → ⊥) = λ p. omega arith in rw (ne_eqb i j other)

    go : (t : Bool) → eqb i m ≡ t → (i < m → sum_below m (λ j. cond (eqb i j) x 0) ≡ x) → sum_below m (λ j. cond (eqb i j) x 0) + cond (eqb i m) x 0 ≡ x
    go true q earlier =
        let e : i ≡ m = eqb-true i m q in
        let none : sum_below m (λ j. cond (eqb i j) x 0) ≡ 0 = sum_same m _ (λ j. 0) (λ j b. before j e b) ∙ sum_none m in
        rw q (omega arith)
    go false q earlier = let ne : (i ≡ m → ⊥) = eqb-false i m q in rw q (omega (arith, earlier (omega arith)))
