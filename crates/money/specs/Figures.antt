-- Figure i of document 01 ("Figures to be proved in a table").
use Rattle.std.specs.Prelude.{◌≡◌, List, [], ◌∷◌, ℕ, ℤ, pos, neg_ℤ, length, get_or}
use Rattle.numbers.specs.Lists.{list_below}
use Rattle.money.specs.AreaMoney.{ceiling, charges, credit}

-- Nets at a price and a number of days: R, the first ceilings and the first credits. The paper states cents; those of the row come
-- from watts at 1 cent per MW-day and 365 days.
pub record CreditRow : Type 0 where
  pub nets : List ℤ
  pub price : ℕ
  pub days : ℕ
  pub charged : ℕ
  pub ceilings : List ℕ
  pub credits : List ℕ

-- party p's net of a list; past its end 0
abbrev pub net_of : List ℤ → ℕ → ℤ
net_of nets p = get_or nets p (pos 0)

-- the definitions give the row
abbrev pub CreditGiven : CreditRow → Type 0
CreditGiven r =
    (charges (net_of r.nets) r.price r.days ≡ r.charged)
    × (list_below (length r.ceilings) (ceiling (net_of r.nets) r.price r.days) ≡ r.ceilings)
    × (list_below (length r.credits) (credit (net_of r.nets) r.price r.days) ≡ r.credits)

abbrev pub credit_rows : List CreditRow
credit_rows =
    -- i. R 100 over M 90 and 60: 60 and 40.
    record {
      nets = pos 273973 ∷ neg_ℤ (pos 246576) ∷ neg_ℤ (pos 164384) ∷ [];
      price = 1;
      days = 365;
      charged = 100;
      ceilings = 0 ∷ 90 ∷ 60 ∷ [];
      credits = 0 ∷ 60 ∷ 40 ∷ [];
    }
    ∷ []
