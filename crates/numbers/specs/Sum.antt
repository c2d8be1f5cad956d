-- Finite sums, the form in which every sum of the book is defined.
use Rattle.std.specs.Prelude.{List, ℕ, zero, suc, ◌+◌, ◌-◌, ◌^◌, min, length}
use Rattle.numbers.specs.Lists.{element}

-- f 0 + f 1 + .. + f (n - 1)
unfoldable pub sum_below : ℕ → (ℕ → ℕ) → ℕ
sum_below zero f = 0
sum_below (suc n) f = sum_below n f + f n

-- the sum of a list's elements, or the greatest number of 64 bits where that does not fit
abbrev pub capped : List ℕ → ℕ
capped l = min (sum_below (length l) (element l)) (2 ^ 64 - 1)
