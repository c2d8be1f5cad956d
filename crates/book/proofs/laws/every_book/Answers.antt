use Rattle.book.proofs.AreaMoney.{due_most_lem}
use Rattle.book.proofs.Soundness.{run_sound}
use Rattle.book.proofs.laws.every_book.Goals as goal

pub returns : goal.returns
returns c = run_sound due_most_lem
