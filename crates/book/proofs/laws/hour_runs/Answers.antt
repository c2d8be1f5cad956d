use Rattle.book.proofs.HoursEntered.{run_laws}
use Rattle.book.proofs.laws.hour_runs.Goals as goal

pub returns : goal.returns
returns c = run_laws
