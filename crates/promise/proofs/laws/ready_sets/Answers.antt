use Rattle.promise.proofs.Ready.{ready_given}
use Rattle.promise.proofs.laws.ready_sets.Goals as goal

pub returns : goal.returns
returns c = ready_given
