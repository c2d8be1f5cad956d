use Rattle.rules.proofs.HourOrder.{hours_ordered}
use Rattle.rules.proofs.laws.hours.Goals as goal

pub returns : goal.returns
returns c = record { hours_ordered = hours_ordered }
