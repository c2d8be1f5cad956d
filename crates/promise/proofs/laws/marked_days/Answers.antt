use Rattle.promise.proofs.Marked.{marked_given}
use Rattle.promise.proofs.laws.marked_days.Goals as goal

pub returns : goal.returns
returns c = marked_given
