-- Laws of signed amounts, each by how far it lies above and below zero, and of their sums.
use Rattle.std.proofs.Common.{◌≡◌, refl, sym, ap, ◌∙◌, Bool, true, false, ℕ, zero, suc, ◌+◌, ◌-◌, ◌≤◌, ◌<◌, min, le_refl, arith, ℤ, pos, negsuc}
use Rattle.std.proofs.Common.{neg_ℤ, ◌+ℤ◌, ◌-ℤ◌, ◌≤ℤ◌, ltb, leb→le, le→leb, ltb-true, ltb-false, le-ltb, lt-ltb}
use lib.IntN.{sub_ℕ, +ℤ_assoc, +ℤ_comm}
use Rattle.numbers.specs.Sum.{sum_below}
use Rattle.numbers.specs.Signed.{above, below, sum_below_ℤ}

pub above_difference : (a b : ℕ) → above (sub_ℕ a b) ≡ a - b
unfolding above
above_difference a b = go (ltb a b) refl
  where
    go : (t : Bool) → ltb a b ≡ t → above (sub_ℕ a b) ≡ a - b
    go true q = rw q (omega (arith, ltb-true))
    go false q = rw q

pub below_difference : (a b : ℕ) → below (sub_ℕ a b) ≡ b - a
unfolding below
below_difference a b = go (ltb a b) refl
  where
    go : (t : Bool) → ltb a b ≡ t → below (sub_ℕ a b) ≡ b - a
    go true q = rw q (omega (arith, ltb-true))
    go false q = rw q (omega (arith, ltb-false))

pub above_sum : (x y : ℤ) → above (x +ℤ y) ≡ above x + above y - (below x + below y)
unfolding above below
above_sum (pos a) (pos b) = omega arith
above_sum (pos a) (negsuc b) = omega (arith, above_difference a (suc b))
above_sum (negsuc a) (pos b) = omega (arith, above_difference b (suc a))
above_sum (negsuc a) (negsuc b) = omega arith

pub below_sum : (x y : ℤ) → below (x +ℤ y) ≡ below x + below y - (above x + above y)
unfolding above below
below_sum (pos a) (pos b) = omega arith
below_sum (pos a) (negsuc b) = omega (arith, below_difference a (suc b))
below_sum (negsuc a) (pos b) = omega (arith, below_difference b (suc a))
below_sum (negsuc a) (negsuc b) = omega arith

pub above_negated : (z : ℤ) → above (neg_ℤ z) ≡ below z
unfolding above below
above_negated (pos zero) = refl
above_negated (pos (suc a)) = refl
above_negated (negsuc a) = refl

pub below_negated : (z : ℤ) → below (neg_ℤ z) ≡ above z
unfolding above below
below_negated (pos zero) = refl
below_negated (pos (suc a)) = refl
below_negated (negsuc a) = refl

pub one_side : (z : ℤ) → min (above z) (below z) ≡ 0
unfolding above below
one_side (pos a) = omega arith
one_side (negsuc a) = omega arith

pub signed_parts : (z : ℤ) → z ≡ sub_ℕ (above z) (below z)
unfolding above below
signed_parts (pos a) = rw (le-ltb a 0 (omega arith)) (ap pos (omega arith))
signed_parts (negsuc a) = rw (lt-ltb 0 (suc a) (omega arith)) (ap negsuc (omega arith))

pub signed_same : (x y : ℤ) → above x ≡ above y → below x ≡ below y → x ≡ y
signed_same x y a b = signed_parts x ∙ rw (a, b) (sym (signed_parts y))

pub signed_le : (x y : ℤ) → above x + below y ≤ above y + below x → x ≤ℤ y
unfolding above below
signed_le (pos a) (pos b) h = record { le = le→leb a b (omega arith) }
signed_le (pos a) (negsuc b) h = absurd (omega arith)
signed_le (negsuc a) (pos b) h = record { le = tt }
signed_le (negsuc a) (negsuc b) h = record { le = le→leb b a (omega arith) }

pub le_signed : (x y : ℤ) → x ≤ℤ y → above x + below y ≤ above y + below x
unfolding above below
le_signed (pos a) (pos b) h = omega (arith, leb→le a b h.le)
le_signed (pos a) (negsuc b) h = absurd h.le
le_signed (negsuc a) (pos b) h = omega arith
le_signed (negsuc a) (negsuc b) h = omega (arith, leb→le b a h.le)

pub add_differences : (a b c d : ℕ) → sub_ℕ a b +ℤ sub_ℕ c d ≡ sub_ℕ (a + c) (b + d)
add_differences a b c d =
    signed_same (sub_ℕ a b +ℤ sub_ℕ c d) (sub_ℕ (a + c) (b + d))
    (omega (arith, above_sum (sub_ℕ a b) (sub_ℕ c d), parts, above_difference (a + c) (b + d)))
    (omega (arith, below_sum (sub_ℕ a b) (sub_ℕ c d), parts, below_difference (a + c) (b + d)))
  where
    parts : (above (sub_ℕ a b) ≡ a - b) × (above (sub_ℕ c d) ≡ c - d) × (below (sub_ℕ a b) ≡ b - a) × (below (sub_ℕ c d) ≡ d - c)
    parts = (above_difference a b, above_difference c d, below_difference a b, below_difference c d)

-- a sum and a difference by the parts of their terms
pub sum_parts : (x y : ℤ) → sub_ℕ (above x + above y) (below x + below y) ≡ x +ℤ y
sum_parts x y = sym (add_differences (above x) (below x) (above y) (below y)) ∙ rw (← signed_parts x, ← signed_parts y)

pub difference_parts : (x y : ℤ) → sub_ℕ (above x + below y) (below x + above y) ≡ x -ℤ y
difference_parts x y = rw (← above_negated y, ← below_negated y) (sum_parts x (neg_ℤ y))

pub equal_difference : (a : ℕ) → sub_ℕ a a ≡ pos 0
equal_difference a = rw (le-ltb a a (le_refl a)) (ap pos (omega arith))

pub sum_same_ℤ : (n : ℕ) (f g : ℕ → ℤ) → ((k : ℕ) → k < n → f k ≡ g k) → sum_below_ℤ n f ≡ sum_below_ℤ n g
unfolding sum_below_ℤ
sum_same_ℤ zero f g h = refl
sum_same_ℤ (suc n) f g h = rw (sum_same_ℤ n f g (λ k b. h k (omega arith)), h n (le_refl (suc n)))

pub sum_differences : (n : ℕ) (f g : ℕ → ℕ) → sum_below_ℤ n (λ k. sub_ℕ (f k) (g k)) ≡ sub_ℕ (sum_below n f) (sum_below n g)
unfolding sum_below_ℤ sum_below
sum_differences zero f g = refl
sum_differences (suc n) f g = rw (sum_differences n f g) (add_differences (sum_below n f) (sum_below n g) (f n) (g n))

-- a sum of sums
pub sum_add_ℤ : (n : ℕ) (f g : ℕ → ℤ) → sum_below_ℤ n (λ k. f k +ℤ g k) ≡ sum_below_ℤ n f +ℤ sum_below_ℤ n g
unfolding sum_below_ℤ
sum_add_ℤ zero f g = refl
sum_add_ℤ (suc n) f g = rw (sum_add_ℤ n f g) (crossed (sum_below_ℤ n f) (sum_below_ℤ n g) (f n) (g n))
  where
    crossed : (w x y z : ℤ) → (w +ℤ x) +ℤ (y +ℤ z) ≡ (w +ℤ y) +ℤ (x +ℤ z)
    crossed w x y z =
        +ℤ_assoc w x (y +ℤ z) ∙ ap (λ (v : ℤ). w +ℤ v) (sym (+ℤ_assoc x y z) ∙ ap (λ (v : ℤ). v +ℤ z) (+ℤ_comm x y) ∙ +ℤ_assoc y x z)
        ∙ sym (+ℤ_assoc w y (x +ℤ z))
