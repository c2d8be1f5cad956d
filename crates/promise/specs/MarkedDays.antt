-- An example besides the papers', of 02, Item 3: Days among the records of the worked example of 01. By hand, from the papers:
-- - 4 July 2010 is a Sunday and is kept on Monday 5 July, which has no peak hour: of its 24 marks none counts.
-- - Tuesday 6 July has the peak hours 15 to 19. The marks of the hours ending 14 and 20, right before and after them, count nothing,
--   nor do the peak hours, which are clear: kind 5, reserve shutdown. SH and FOH are 0, so that P = G, and the lines of Post 1 are
--   those of the worked example.
-- - The same Day again is refused with 10: its first hour is not later than its last, which is the unit's last hour.
-- - Of Wednesday 7 July the hour ending 19 alone, the last peak hour, is marked: SH 1, and the four clear peak hours count nothing. Of
--   unit 1 T = I, as 4,000,000 × 365 × 100,000 / (70,000 × 365) is above it, and P = 4,500,000 × (1 × 4,500,000) / (4,500,000 × 1)
--   = 4,500,000, which is higher than G = 4,500,000 × 85,000 / 100,000. X 4,500,000 × 95,000 / 100,000 = 4,275,000, S -225,000: an
--   excess. Unit 2 has no hours: X 900,000, P = G = 1,000,000, S -100,000, as before.
-- - The hour ending 24 of that Day, although it is clear, is the unit's last: an Hour for it is refused with 10.
-- - No net is above 0: R 0, M 225,000 × 9,000 × 365 / 1,000,000 = 739,125 of party 5 and 328,500 of party 6. R is below their sum and
--   is split by M: each gets 0. Nothing is left, every due is 0, and the lines of the last Post 1 undo the first ones.
use Rattle.std.specs.Prelude.{◌≡◌, List, [], ◌∷◌, ◌++◌, ℕ, ℤ, pos, neg_ℤ}
use Rattle.promise.specs.Reckoning.{answers_of}
use Rattle.promise.specs.Figures.{hour, load, post, day, answer, no_lines, of_three, first_lines, before_loads, before_loads_answers}

-- Monday 5 July 2010: all marks
abbrev pub kept_day : List ℕ
kept_day = day 1 7 5 255 255 255

-- Tuesday 6 July: the hour ending 20 is bit 3 of the first byte (17 to 24), the hour ending 14 bit 5 of the second (9 to 16)
abbrev pub beside_peak : List ℕ
beside_peak = day 1 7 6 8 32 0

-- Wednesday 7 July: the hour ending 19 is bit 2 of the first byte
abbrev pub one_marked : List ℕ
one_marked = day 1 7 7 4 0 0

abbrev pub marked_days : List (List ℕ)
marked_days =
    before_loads
    ++ (load 1 5 500000 ∷ load 1 7 600000 ∷ kept_day ∷ beside_peak ∷ post 1 ∷ beside_peak ∷ one_marked ∷ hour 1 7 7 24 0 0 ∷ post 1 ∷ [])

-- P 1 5 955637; P 1 6 -328500; P 1 7 -627137
abbrev pub undone_lines : List ℤ
undone_lines = of_three (pos 955637) (neg_ℤ (pos 328500)) (neg_ℤ (pos 627137))

pub record MarkedDays : Type 0 where
  pub answered : answers_of [] marked_days
      ≡ before_loads_answers
      ++ (answer 0 no_lines ∷ answer 0 no_lines ∷ answer 0 no_lines ∷ answer 0 no_lines ∷ answer 0 first_lines ∷ answer 10 no_lines
      ∷ answer 0 no_lines ∷ answer 10 no_lines ∷ answer 0 undone_lines ∷ [])
