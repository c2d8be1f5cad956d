-- Figures e to g of document 01 ("Figures to be proved in a table").
use Rattle.std.specs.Prelude.{◌≡◌, List, [], ◌∷◌, ℕ, ℤ, pos}
use Rattle.capacity.specs.declared.rating.Rating.{Rating}
use Rattle.capacity.specs.declared.rating.HourCounts.{HourCounts}
use Rattle.capacity.specs.Quantities.{installed_watts}
use Rattle.capacity.specs.Shortfall.{unit_available, unit_shortfall, limited_shortfall}

-- a unit: I; e, f, g; class
abbrev pub rated : ℕ → ℕ → ℕ → ℕ → ℕ → Rating
rated i e f g class = record { installed = installed_watts i; eford = e; eford5 = f; efordyear = g; class = class }

-- and its hours: SH, FOH, D
abbrev pub counted : ℕ → ℕ → ℕ → HourCounts
counted sh foh d = record { service = sh; outage = foh; derated = d }

-- P, S or the limited S of a unit at T
pub data CapacityRow : Type 0 where
  available_is : Rating → HourCounts → ℕ → ℕ → CapacityRow
  shortfall_is : Rating → HourCounts → ℕ → ℤ → CapacityRow
  limited_is : Rating → HourCounts → ℕ → ℤ → CapacityRow

-- the definitions give the row
abbrev pub CapacityGiven : CapacityRow → Type 0
CapacityGiven (available_is r h t p) = unit_available r h t ≡ p
CapacityGiven (shortfall_is r h t s) = unit_shortfall r h t ≡ s
CapacityGiven (limited_is r h t s) = limited_shortfall r h t ≡ s

abbrev pub capacity_rows : List CapacityRow
capacity_rows =
    -- e. Example 1 of 001 at a tenth: T = I = 4,500,000, e 30,000, f 5,000, SH 85, FOH 15, D 0: P 3,825,000, S 450,000.
    available_is (rated 4500000 30000 5000 0 0) (counted 85 15 0) 4500000 3825000
    ∷ shortfall_is (rated 4500000 30000 5000 0 0) (counted 85 15 0) 4500000 (pos 450000)
    -- f. T = I = 1,000,000, e 10,000, f 0, g 10,000, FOH 50, D 0: SH 49 gives S 100,000; SH 50 gives 500,000, limited to
    -- 450,000 in class 0, unlimited in effect in class 1.
    ∷ shortfall_is (rated 1000000 10000 0 10000 0) (counted 49 50 0) 1000000 (pos 100000)
    ∷ shortfall_is (rated 1000000 10000 0 10000 0) (counted 50 50 0) 1000000 (pos 500000)
    ∷ limited_is (rated 1000000 10000 0 10000 0) (counted 50 50 0) 1000000 (pos 450000)
    ∷ limited_is (rated 1000000 10000 0 10000 1) (counted 50 50 0) 1000000 (pos 500000)
    -- g. T = I = 1,000,000, SH 100, FOH 0, D 400,001: P 995,999.
    ∷ available_is (rated 1000000 0 0 0 0) (counted 100 0 400001) 1000000 995999
    ∷ []
