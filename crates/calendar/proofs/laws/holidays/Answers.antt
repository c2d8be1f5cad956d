use Rattle.calendar.proofs.Kept.{friday_before, monday_after, other_days, kept_once}
use Rattle.calendar.proofs.laws.holidays.Goals as goal

pub returns : goal.returns
returns c =
    record {
      friday_before = friday_before;
      monday_after = monday_after;
      other_days = other_days;
      kept_once = kept_once;
    }
