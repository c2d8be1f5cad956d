-- Laws of sums that stop at the greatest number.
use Rattle.std.proofs.Common.{◌≡◌, refl, ap, ◌∙◌, Bool, true, false, List, ℕ, ◌-◌, ◌^◌, ◌<◌, min, arith, leb, length, le-leb, leb-true}
use Rattle.std.proofs.Common.{leb-false}
use borrow.Author.Tests.{lt-leb}
use Rattle.numbers.specs.Sum.{sum_below}
use Rattle.numbers.specs.Lists.{list_below, element}
use Rattle.numbers.proofs.Lists.{length_below, sum_filled}

-- the sum of a list's elements
abbrev pub total : List ℕ → ℕ
total ws = sum_below (length ws) (element ws)

pub capped_sixteen : (ws : List ℕ) (m : ℕ) {v : ℕ} → length ws ≡ 16 → v ≡ min (total ws) m → v ≡ min (sum_below 16 (element ws)) m
capped_sixteen ws m sixteen e = e ∙ rw sixteen

-- a list that was filled, by what filled it
pub capped_below : (f : ℕ → ℕ) (m : ℕ) {l : List ℕ} {v : ℕ} → l ≡ list_below 16 f → v ≡ min (total l) m → v ≡ min (sum_below 16 f) m
capped_below f m {l} filled e =
    capped_sixteen l m (ap length filled ∙ length_below 16 f) e
    ∙ ap (λ (n : ℕ). min n m) (sum_filled f filled)

pub capped_test : (t limit : ℕ) {v : ℕ} → limit < 2 ^ 64 - 1 → v ≡ min t (2 ^ 64 - 1) → leb t limit ≡ leb v limit
capped_test t limit {v} h e = go (leb v limit) refl
  where
    go : (b : Bool) → leb v limit ≡ b → leb t limit ≡ b
    go true q = le-leb t limit (omega (arith, leb-true v limit q))
    go false q = lt-leb t limit (omega (arith, leb-false v limit q))
