-- Numbers by their bits, of which the lowest is bit 0.
use Rattle.std.specs.Prelude.{Bool, cond, ℕ, ◌^◌}
use Rattle.numbers.specs.Sum.{sum_below}

-- the number whose bits below n are set where f holds, and that has no others
unfoldable pub bits_below : ℕ → (ℕ → Bool) → ℕ
bits_below n f = sum_below n (λ k. cond (f k) (2 ^ k) 0)
