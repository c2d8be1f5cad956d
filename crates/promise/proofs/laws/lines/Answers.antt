use Rattle.promise.proofs.LineSums.{lines_add_up}
use Rattle.promise.proofs.laws.lines.Goals as goal

pub returns : goal.returns
returns c = lines_add_up
