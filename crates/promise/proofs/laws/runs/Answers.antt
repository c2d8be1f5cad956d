use Rattle.promise.proofs.Promised.{run_laws}
use Rattle.promise.proofs.laws.runs.Goals as goal

pub returns : goal.returns
returns c = run_laws
