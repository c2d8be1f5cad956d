use Rattle.promise.proofs.Meeting.{same_facts}
use Rattle.promise.proofs.laws.facts.Goals as goal

pub returns : goal.returns
returns c = same_facts
