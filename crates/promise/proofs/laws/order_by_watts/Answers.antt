use Rattle.promise.proofs.Promised.{same_totals}
use Rattle.promise.proofs.laws.order_by_watts.Goals as goal

pub returns : goal.returns
returns c = same_totals
