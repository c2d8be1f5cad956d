-- The values of the type Cents.
use Rattle.std.specs.Prelude.{List, ℕ, ℤ, pos, get_or}
use Rattle.numbers.specs.Lists.{list_below}
use Rattle.money.specs.declared.Cents.{Cents}

abbrev pub cents : ℤ → Cents
cents c = record { 0 = c }

-- party p's cents of an array
abbrev pub cents_of : List Cents → ℕ → ℤ
cents_of l p = (get_or l p (cents (pos 0))).0

-- sixteen amounts of money, none below zero
abbrev pub money : (ℕ → ℕ) → List Cents
money f = list_below 16 (λ p. cents (pos (f p)))
