-- Tables of figures.
use Rattle.std.specs.Prelude.{List, [], ◌∷◌}

-- what `given` says holds of every row of a list
abbrev pub EachGiven : {Row : Type 0} → (Row → Type 0) → List Row → Type 0
EachGiven given [] = Unit {0}
EachGiven given (r ∷ rs) = given r × EachGiven given rs
