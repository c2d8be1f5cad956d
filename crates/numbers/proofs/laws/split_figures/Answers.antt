use Rattle.numbers.proofs.AllFigures.{split_figures}
use Rattle.numbers.proofs.laws.split_figures.Goals as goal

pub returns : goal.returns
returns c = split_figures
