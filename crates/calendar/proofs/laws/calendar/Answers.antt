use Rattle.calendar.proofs.Years.{year_step}
use Rattle.calendar.proofs.Dates.{next_is_date, day_number_steps, day_number_orders}
use Rattle.calendar.proofs.DeliveryYears.{first_day, last_day, day_below}
use Rattle.calendar.proofs.Weeks.{known_weekday, third_monday_from, third_monday_to, third_monday_is, third_monday_only}
use Rattle.calendar.proofs.laws.calendar.Goals as goal

pub returns : goal.returns
returns c =
    record {
      year_step = year_step;
      next_is_date = next_is_date;
      day_number_steps = day_number_steps;
      day_number_orders = day_number_orders;
      known_weekday = known_weekday;
      third_monday_from = third_monday_from;
      third_monday_to = third_monday_to;
      third_monday_is = third_monday_is;
      third_monday_only = third_monday_only;
      first_day = first_day;
      last_day = last_day;
      day_below = day_below;
    }
