use Rattle.money.proofs.AllFigures.{credit_figures}
use Rattle.money.proofs.laws.credit_figures.Goals as goal

pub returns : goal.returns
returns c = credit_figures
