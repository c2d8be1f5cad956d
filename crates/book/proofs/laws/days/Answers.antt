use Rattle.book.proofs.Days.{day_laws}
use Rattle.book.proofs.laws.days.Goals as goal

pub returns : goal.returns
returns c = day_laws
