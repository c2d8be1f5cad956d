use Rattle.promise.proofs.Promised.{promise_kept}
use Rattle.promise.proofs.laws.promised.Goals as goal

pub returns : goal.returns
returns c = promise_kept
