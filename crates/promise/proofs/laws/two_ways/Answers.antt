use Rattle.promise.proofs.Ways.{two_ways}
use Rattle.promise.proofs.laws.two_ways.Goals as goal

pub returns : goal.returns
returns c = two_ways
