-- The definitions give every row of the table of figures.
use Rattle.std.proofs.Common.{Ok, map, List, [], ◌∷◌, ◌++◌, refl, ℕ}
use Rattle.numbers.specs.Range.{within}
use Rattle.numbers.specs.Rows.{EachGiven}
use Rattle.numbers.specs.Lists.{list_below}
use Rattle.numbers.specs.Figures.{split_rows}
use Rattle.numbers.proofs.Rows.{each_renamed}
use Rattle.numbers.proofs.AllFigures.{split_figures}
use Rattle.calendar.specs.Gregorian.{leap_year}
use Rattle.calendar.specs.DeliveryYear.{delivery_days}
use Rattle.calendar.specs.Figures.{calendar_rows}
use Rattle.calendar.proofs.Figures.{calendar_figures}
use Rattle.capacity.specs.Figures.{capacity_rows}
use Rattle.capacity.proofs.AllFigures.{capacity_figures}
use Rattle.money.specs.Figures.{credit_rows}
use Rattle.money.proofs.AllFigures.{credit_figures}
use Rattle.records.specs.Format.{number_at}
use Rattle.records.specs.declared.format.Record.TheVariants as records
use Rattle.records.specs.declared.format.Record.TheVariants.{Year, Area, Commitment, Load, Post}
use Rattle.records.specs.Decoded.{is_broken, of_length, framed, decoded}
use Rattle.records.specs.Kinds.{Decoded}
use Rattle.rules.specs.Refusal.{days_fit, numbers_fit, in_range, refusal_of}
use Rattle.rules.specs.Rules.{index}
use Rattle.promise.specs.Reckoning.{year_of, latest_area, unit_of, latest_commitment, latest_load, accepted_hours, sum_over, last_index, facts_of_list}
use Rattle.promise.specs.Reckoning.{Answered}
use Rattle.promise.specs.Figures.{Figure, year, area, unit, commitment, load, post, calendar, capacity, split, credit, FigureGiven, answer, no_lines, before_loads}
use Rattle.promise.specs.Figures.{before_loads_answers, reckoned_rows, figures}
use Rattle.promise.proofs.Runs.{Fed, none_next, accepted_next, refused_next}
use Rattle.promise.proofs.Example.{area₁, unit₁, unit₂, commitment₁, commitment₂, load₅, load₇, unloaded, loaded, first_number, second_number}
use Rattle.promise.proofs.Example.{unloaded_number, first_lines_lem, second_lines}

-- the lists as the strings are accepted
abbrev after₂ : List Decoded
after₂ = Ok (Area (area₁ 9000)) ∷ Ok (Year 2010) ∷ []

abbrev after₄ : List Decoded
after₄ = Ok (records.Unit unit₂) ∷ Ok (records.Unit unit₁) ∷ after₂

pub before_loads_run : (ss : List (List ℕ)) {rest : List Answered} {after : List Decoded} → Fed unloaded ss rest after
    → Fed [] (before_loads ++ ss) (before_loads_answers ++ rest) after
unfolding number_at is_broken of_length framed decoded within index leap_year delivery_days days_fit numbers_fit in_range refusal_of list_below
    year_of latest_area unit_of latest_commitment latest_load accepted_hours sum_over last_index facts_of_list
before_loads_run ss more =
    accepted_next (year 2010) (Ok (Year 2010)) [] _ refl refl refl
    (accepted_next (area 1 9000) (Ok (Area (area₁ 9000))) (Ok (Year 2010) ∷ []) _ refl refl refl
    (accepted_next (unit 1 1 4500000 30000 5000 15000 0) (Ok (records.Unit unit₁)) after₂ _ refl refl refl
    (accepted_next (unit 2 1 1000000 0 10000 0 0) (Ok (records.Unit unit₂)) (Ok (records.Unit unit₁) ∷ after₂) _ refl refl refl
    (accepted_next (commitment 1 1 5 0 364 4000000) (Ok (Commitment commitment₁)) after₄ _ refl refl refl
    (accepted_next (commitment 2 2 6 0 364 1000000) (Ok (Commitment commitment₂)) (Ok (Commitment commitment₁) ∷ after₄) ss refl refl refl more)))))

pub loads_run : (ss : List (List ℕ)) {rest : List Answered} {after : List Decoded} → Fed loaded ss rest after
    → Fed [] (before_loads ++ (load 1 5 500000 ∷ load 1 7 600000 ∷ ss)) (before_loads_answers ++ (answer 0 no_lines ∷ answer 0 no_lines ∷ rest)) after
unfolding number_at is_broken of_length framed decoded within index numbers_fit in_range refusal_of list_below year_of latest_area facts_of_list
loads_run ss more =
    before_loads_run _
    (accepted_next (load 1 5 500000) (Ok (Load load₅)) unloaded _ refl refl refl
    (accepted_next (load 1 7 600000) (Ok (Load load₇)) (Ok (Load load₅) ∷ unloaded) ss refl refl refl more))

reckoned_figures : EachGiven FigureGiven reckoned_rows
unfolding number_at is_broken of_length framed decoded within index numbers_fit in_range refusal_of list_below year_of latest_area facts_of_list
reckoned_figures = (
  (loads_run _
      (accepted_next (post 1) (Ok (Post 1)) loaded _ refl first_number first_lines_lem
      (accepted_next (post 1) (Ok (Post 1)) (Ok (Post 1) ∷ loaded) _ refl second_number second_lines
      (refused_next (post 2) (Ok (Post 2)) (Ok (Post 1) ∷ Ok (Post 1) ∷ loaded) [] 7 refl refl refl (none_next (Ok (Post 1) ∷ Ok (Post 1) ∷ loaded)))))
      ).answers_are,
  (
    (before_loads_run _
        (refused_next (post 1) (Ok (Post 1)) unloaded _ 11 refl refl unloaded_number
        (refused_next (post 1) (Ok (Post 1)) unloaded _ 11 refl refl unloaded_number
        (refused_next (post 2) (Ok (Post 2)) unloaded [] 7 refl refl refl (none_next unloaded))))
        ).answers_are,
    tt,
  ),
)

-- the rows after those of each crate
abbrev after_split : List Figure
after_split = map credit credit_rows ++ reckoned_rows

abbrev after_capacity : List Figure
after_capacity = map split split_rows ++ after_split

abbrev after_calendar : List Figure
after_calendar = map capacity capacity_rows ++ after_capacity

pub figures_given : EachGiven FigureGiven figures
figures_given =
    each_renamed FigureGiven calendar calendar_rows after_calendar calendar_figures
    (each_renamed FigureGiven capacity capacity_rows after_capacity capacity_figures
    (each_renamed FigureGiven split split_rows after_split split_figures
    (each_renamed FigureGiven credit credit_rows reckoned_rows credit_figures reckoned_figures)))
