use Rattle.promise.proofs.WattDays.{parts_add_up}
use Rattle.promise.proofs.laws.parts.Goals as goal

pub returns : goal.returns
returns c = parts_add_up
