use Rattle.capacity.proofs.AllFigures.{capacity_figures}
use Rattle.capacity.proofs.laws.capacity_figures.Goals as goal

pub returns : goal.returns
returns c = capacity_figures
