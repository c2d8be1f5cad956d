-- The table of figures, a to j of document 01 ("Figures to be proved in a table") and those of 02, Item 1: the rows of the
-- crates below, and those of j.
use Rattle.std.specs.Prelude.{◌≡◌, List, [], ◌∷◌, ◌++◌, map, ℕ, ℤ, pos, neg_ℤ}
use Rattle.numbers.specs.Figures.{SplitRow, SplitGiven, split_rows}
use Rattle.calendar.specs.Figures.{CalendarRow, CalendarGiven, calendar_rows}
use Rattle.capacity.specs.Figures.{CapacityRow, CapacityGiven, capacity_rows}
use Rattle.money.specs.Figures.{CreditRow, CreditGiven, credit_rows}
use Rattle.records.specs.Written.{bytes, tagged, written_hour}
use Rattle.promise.specs.Reckoning.{Answered, answers_of}

-- the strings of the figures
abbrev pub year : ℕ → List ℕ
year y = tagged 1 (bytes 2 y)

-- area; price
abbrev pub area : ℕ → ℕ → List ℕ
area a price = tagged 2 (a ∷ bytes 4 price)

-- unit; area; I; e, f, g; class
abbrev pub unit : ℕ → ℕ → ℕ → ℕ → ℕ → ℕ → ℕ → List ℕ
unit u a i e f g class = tagged 3 (u ∷ a ∷ bytes 4 i ++ bytes 4 e ++ bytes 4 f ++ bytes 4 g ++ (class ∷ []))

-- number; unit; party; first day, last day; watts
abbrev pub commitment : ℕ → ℕ → ℕ → ℕ → ℕ → ℕ → List ℕ
commitment n u p first last watts = tagged 4 (n ∷ u ∷ p ∷ bytes 2 first ++ bytes 2 last ++ bytes 4 watts)

-- unit; month, day, hour ending; kind; derating
abbrev pub hour : ℕ → ℕ → ℕ → ℕ → ℕ → ℕ → List ℕ
hour u month d ending kind derating = written_hour (record { unit = u; month = month; day = d; hour = ending; kind = kind; derating = derating })

-- area; party; obligation
abbrev pub load : ℕ → ℕ → ℕ → List ℕ
load a p obligation = tagged 6 (a ∷ p ∷ bytes 4 obligation)

abbrev pub post : ℕ → List ℕ
post a = tagged 7 (a ∷ [])

-- unit; party
abbrev pub owner : ℕ → ℕ → List ℕ
owner u p = tagged 8 (u ∷ p ∷ [])

-- unit; month, day; three bytes of marks: the hours ending 17 to 24, 9 to 16 and 1 to 8
abbrev pub day : ℕ → ℕ → ℕ → ℕ → ℕ → ℕ → List ℕ
day u month d a b c = tagged 9 (u ∷ month ∷ d ∷ a ∷ b ∷ c ∷ [])

-- one figure as the paper states it
pub data Figure : Type 0 where
  -- a to d, and 02, Item 1: a weekday or an answer to the peak question
  calendar : CalendarRow → Figure
  -- e to g, from a set to its shortfall
  capacity : CapacityRow → Figure
  -- h, a split
  split : SplitRow → Figure
  -- i, the credits of an area
  credit : CreditRow → Figure
  -- j, strings, fed to the fresh reckoning from its start, and the number and lines for each
  reckoned : List (List ℕ) → List Answered → Figure

-- the definitions give the figure
abbrev pub FigureGiven : Figure → Type 0
FigureGiven (calendar r) = CalendarGiven r
FigureGiven (capacity r) = CapacityGiven r
FigureGiven (split r) = SplitGiven r
FigureGiven (credit r) = CreditGiven r
FigureGiven (reckoned strings answers) = answers_of [] strings ≡ answers

abbrev pub answer : ℕ → List ℤ → Answered
answer number lines = record { number = number; lines = lines }

abbrev pub no_lines : List ℤ
no_lines =
    pos 0 ∷ pos 0 ∷ pos 0 ∷ pos 0 ∷ pos 0 ∷ pos 0 ∷ pos 0 ∷ pos 0
    ∷ pos 0 ∷ pos 0 ∷ pos 0 ∷ pos 0 ∷ pos 0 ∷ pos 0 ∷ pos 0 ∷ pos 0 ∷ []

-- amounts of parties 5, 6 and 7, the others having none
abbrev pub of_three : ℤ → ℤ → ℤ → List ℤ
of_three x y z =
    pos 0 ∷ pos 0 ∷ pos 0 ∷ pos 0 ∷ x ∷ y ∷ z ∷ pos 0
    ∷ pos 0 ∷ pos 0 ∷ pos 0 ∷ pos 0 ∷ pos 0 ∷ pos 0 ∷ pos 0 ∷ pos 0 ∷ []

-- P 1 5 -955637; P 1 6 328500; P 1 7 627137
abbrev pub first_lines : List ℤ
first_lines = of_three (neg_ℤ (pos 955637)) (pos 328500) (pos 627137)

-- 01, The ledger program: the example's input up to its Loads
abbrev pub before_loads : List (List ℕ)
before_loads =
    year 2010
    ∷ area 1 9000
    ∷ unit 1 1 4500000 30000 5000 15000 0
    ∷ unit 2 1 1000000 0 10000 0 0
    ∷ commitment 1 1 5 0 364 4000000
    ∷ commitment 2 2 6 0 364 1000000
    ∷ []

-- the answers to these: all accepted
abbrev pub before_loads_answers : List Answered
before_loads_answers = answer 0 no_lines ∷ answer 0 no_lines ∷ answer 0 no_lines ∷ answer 0 no_lines ∷ answer 0 no_lines ∷ answer 0 no_lines ∷ []

abbrev pub reckoned_rows : List Figure
reckoned_rows =
    -- j. The lines above; the same without Loads: post refused with 11.
    reckoned
    (before_loads ++ (load 1 5 500000 ∷ load 1 7 600000 ∷ post 1 ∷ post 1 ∷ post 2 ∷ []))
    (before_loads_answers ++ (answer 0 no_lines ∷ answer 0 no_lines ∷ answer 0 first_lines ∷ answer 0 no_lines ∷ answer 7 no_lines ∷ []))
    ∷ reckoned (before_loads ++ (post 1 ∷ post 1 ∷ post 2 ∷ [])) (before_loads_answers ++ (answer 11 no_lines ∷ answer 11 no_lines ∷ answer 7 no_lines ∷ []))
    ∷ []

abbrev pub figures : List Figure
figures = map calendar calendar_rows ++ map capacity capacity_rows ++ map split split_rows ++ map credit credit_rows ++ reckoned_rows
