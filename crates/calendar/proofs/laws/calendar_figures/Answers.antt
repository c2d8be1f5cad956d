use Rattle.calendar.proofs.Figures.{calendar_figures}
use Rattle.calendar.proofs.laws.calendar_figures.Goals as goal

pub returns : goal.returns
returns c = calendar_figures
