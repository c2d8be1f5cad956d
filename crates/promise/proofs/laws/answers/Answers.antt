use Rattle.promise.proofs.Promised.{same_answers}
use Rattle.promise.proofs.laws.answers.Goals as goal

pub returns : goal.returns
returns c = same_answers
