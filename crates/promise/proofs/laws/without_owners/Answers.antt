use Rattle.promise.proofs.Unowned.{without_owners}
use Rattle.promise.proofs.laws.without_owners.Goals as goal

pub returns : goal.returns
returns c = without_owners
