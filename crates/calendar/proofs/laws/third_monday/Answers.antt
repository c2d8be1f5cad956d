use Rattle.calendar.proofs.Weeks.{from_15, to_21, is_monday, only_monday, as_before, in_calendar}
use Rattle.calendar.proofs.laws.third_monday.Goals as goal

pub returns : goal.returns
returns c =
    record {
      from_15 = from_15;
      to_21 = to_21;
      is_monday = is_monday;
      only_monday = only_monday;
      as_before = as_before;
      in_calendar = in_calendar;
    }
