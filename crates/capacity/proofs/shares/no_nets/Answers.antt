use Rattle.std.proofs.Common.{refl}
use Rattle.numbers.specs.Lists.{list_below}
use Rattle.capacity.proofs.shares.no_nets.Goals as goal

pub returns : goal.returns
unfolding list_below
returns c = refl
