use Rattle.book.proofs.DayHours.{day_added}
use Rattle.book.proofs.UnitEntry.with_day.Goals as goal

pub returns : goal.returns
returns c = day_added c.args.year c.args.self c.args.d c.day_service.ensures.value (rw c.day_hour.ensures at c.hour_index.ensures)
