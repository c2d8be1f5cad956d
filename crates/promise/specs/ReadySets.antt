-- An example besides the papers', of 02, Item 2: an owner whose committed unit is in shortfall, and whose sets that are kept ready
-- lower its charge. By hand, from the papers:
-- - Unit 1 is committed by party 5 and has no hours: T 3,000,000 × 365 × 100,000 / (70,000 × 365) = 4,285,714, below I;
--   X 4,285,714 × 95,000 / 100,000 = 4,071,428, P = G = 4,285,714 × 85,000 / 100,000 = 3,642,856, S 428,572, below
--   L = 3,150,000 × 2 / 4. All of it is party 5's: N 428,572 in area 1. That its owner is party 7 plays no part, since V is above
--   0; with T = I, S would be 450,000.
-- - Units 2, 3 and 4 have no commitment, so V = 0, and party 5 owns them; of unit 2 a later Owner says so. T = I.
--   Unit 2, in area 1: X 1,000,000 × 90,000 / 100,000 = 900,000, P = G = 1,000,000, S -100,000: an excess of 100,000.
--   Unit 3, in area 1: X 500,000 × 90,000 / 100,000 = 450,000, P = G = 500,000 × 96,000 / 100,000 = 480,000, S -30,000.
--   Unit 4, in area 2, is as unit 2; its excess does not count in area 1.
-- - Unit 5, in area 1, is ready too: X = I = 800,000, P = G = 800,000 × 50,000 / 100,000 = 400,000, S 400,000, limited to
--   800,000 × 2 / 4 = 400,000. It is charged to nobody, and takes nothing from the excesses of its owner, party 5.
-- - The excesses of party 5 in area 1 are 130,000, so its net there is 298,572 after them. C = 298,572 × 9,000 × 365 / 1,000,000
--   = 980,809 cents. There is no M, so all of it is left: party 5 gets 980,809 × 500,000 / 1,100,000 = 445,822 and party 7 the
--   rest, 534,987. Party 5's line is 445,822 - 980,809 = -534,987.
use Rattle.std.specs.Prelude.{◌≡◌, List, [], ◌∷◌, ℕ, ℤ, pos, neg_ℤ}
use Rattle.promise.specs.Reckoning.{Answered, answers_of}
use Rattle.promise.specs.Figures.{year, area, unit, commitment, load, post, owner, answer, no_lines, of_three}

abbrev pub ready_sets : List (List ℕ)
ready_sets =
    year 2010
    ∷ area 1 9000
    ∷ area 2 9000
    ∷ unit 1 1 4500000 30000 5000 15000 0
    ∷ unit 2 1 1000000 0 10000 0 0
    ∷ unit 3 1 500000 0 10000 4000 0
    ∷ unit 4 2 1000000 0 10000 0 0
    ∷ unit 5 1 800000 0 0 50000 0
    ∷ commitment 1 1 5 0 364 3000000
    ∷ owner 1 7
    ∷ owner 2 6
    ∷ owner 2 5
    ∷ owner 3 5
    ∷ owner 4 5
    ∷ owner 5 5
    ∷ load 1 5 500000
    ∷ load 1 7 600000
    ∷ post 1
    ∷ []

-- P 1 5 -534987; P 1 7 534987
abbrev pub ready_lines : List ℤ
ready_lines = of_three (neg_ℤ (pos 534987)) (pos 0) (pos 534987)

abbrev pub accepted : Answered
accepted = answer 0 no_lines

pub record ReadySets : Type 0 where
  pub answered : answers_of [] ready_sets
      ≡ accepted ∷ accepted ∷ accepted ∷ accepted ∷ accepted ∷ accepted ∷ accepted ∷ accepted ∷ accepted ∷ accepted ∷ accepted ∷ accepted ∷ accepted
      ∷ accepted ∷ accepted ∷ accepted ∷ accepted ∷ answer 0 ready_lines ∷ []
