-- An example besides the paper's, with an Hour: records that leave the same standing facts, sent in two ways. In the second way
-- some are replaced, one comes twice, and the area is posted early. So what `order` of the promise speaks of occurs, an Hour is
-- accepted and counts, and is refused when it comes again.
use Rattle.std.specs.Prelude.{◌≡◌, List, [], ◌∷◌, ◌++◌, ℕ, ℤ, pos, neg_ℤ}
use Rattle.promise.specs.Reckoning.{answers_of, accepted_of}
use Rattle.promise.specs.Standing.{SameStanding}
use Rattle.promise.specs.Figures.{hour, year, area, unit, commitment, load, post, answer, no_lines, of_three, before_loads, before_loads_answers}

-- Tuesday 6 July 2010, hour ending 15: unit 1 in service, with a forced derating of 450,000 W
abbrev pub derated : List ℕ
derated = hour 1 7 6 15 1 450000

-- the worked example with that hour
abbrev pub one_way : List (List ℕ)
one_way = before_loads ++ (load 1 5 500000 ∷ load 1 7 600000 ∷ derated ∷ post 1 ∷ [])

abbrev pub another_way : List (List ℕ)
another_way =
    year 2010
    ∷ area 1 100
    ∷ unit 2 1 1000000 0 10000 0 0
    ∷ unit 1 1 4500000 30000 5000 15000 0
    ∷ commitment 1 1 5 0 364 1
    ∷ load 1 7 600000
    ∷ derated
    ∷ commitment 2 2 6 0 364 1000000
    ∷ derated
    ∷ load 1 5 500000
    ∷ commitment 1 1 5 0 364 4000000
    ∷ post 1
    ∷ area 1 9000
    ∷ post 1
    ∷ []

-- With SH 1 and D 450,000, P is 4,050,000 and S 225,000. One post at 9,000 cents per MW-day, or one at 100 and then one at 9,000.
abbrev pub one_way_lines : List ℤ
one_way_lines = of_three (neg_ℤ (pos 552478)) (pos 328500) (pos 223978)

abbrev pub early_lines : List ℤ
early_lines = of_three (neg_ℤ (pos 6139)) (pos 3650) (pos 2489)

abbrev pub later_lines : List ℤ
later_lines = of_three (neg_ℤ (pos 546339)) (pos 324850) (pos 221489)

pub record TwoWays : Type 0 where
  pub one : answers_of [] one_way ≡ before_loads_answers ++ (answer 0 no_lines ∷ answer 0 no_lines ∷ answer 0 no_lines ∷ answer 0 one_way_lines ∷ [])
  pub another : answers_of [] another_way
      ≡ before_loads_answers ++ (answer 0 no_lines ∷ answer 0 no_lines ∷ answer 10 no_lines ∷ answer 0 no_lines ∷ answer 0 no_lines ∷ answer 0 early_lines
      ∷ answer 0 no_lines ∷ answer 0 later_lines ∷ [])
  pub same_standing : SameStanding (accepted_of [] one_way) (accepted_of [] another_way)
