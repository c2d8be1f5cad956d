-- Figure h of document 01 ("Figures to be proved in a table").
use Rattle.std.specs.Prelude.{◌≡◌, List, [], ◌∷◌, ℕ, ℤ, pos, neg_ℤ, length}
use Rattle.numbers.specs.Lists.{list_below, element}
use Rattle.numbers.specs.Split.{split_signed}

-- an amount over weights, and the shares
pub record SplitRow : Type 0 where
  pub amount : ℤ
  pub weights : List ℕ
  pub shares : List ℤ

abbrev pub split_row : ℤ → List ℕ → List ℤ → SplitRow
split_row amount weights shares = record { amount = amount; weights = weights; shares = shares }

-- the definitions give the row
abbrev pub SplitGiven : SplitRow → Type 0
SplitGiven r = list_below (length r.weights) (split_signed r.amount (length r.weights) (element r.weights)) ≡ r.shares

abbrev pub split_rows : List SplitRow
split_rows =
    -- h. 10 over 1, 1, 1: 3, 3, 4; −10: −3, −3, −4.
    split_row (pos 10) (1 ∷ 1 ∷ 1 ∷ []) (pos 3 ∷ pos 3 ∷ pos 4 ∷ [])
    ∷ split_row (neg_ℤ (pos 10)) (1 ∷ 1 ∷ 1 ∷ []) (neg_ℤ (pos 3) ∷ neg_ℤ (pos 3) ∷ neg_ℤ (pos 4) ∷ [])
    ∷ []
