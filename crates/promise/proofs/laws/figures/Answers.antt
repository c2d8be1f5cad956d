use Rattle.promise.proofs.AllFigures.{figures_given}
use Rattle.promise.proofs.laws.figures.Goals as goal

pub returns : goal.returns
returns c = figures_given
