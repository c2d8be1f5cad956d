use Rattle.promise.proofs.EitherWays.{either_way}
use Rattle.promise.proofs.laws.either_way.Goals as goal

pub returns : goal.returns
returns c = either_way
