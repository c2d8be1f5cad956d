use Rattle.std.proofs.Common.{arith, rules}
use Rattle.capacity.proofs.Capacities.{unit_range}
use Rattle.capacity.proofs.shortfall.CommittedUnit.available.Goals as goal

pub unforced-year_rated-requires : goal.unforced-year_rated-requires
unforced-year_rated-requires c = let range = unit_range c.args.self.in_range in search rules

pub overflow_add-self : goal.overflow_add-self
overflow_add-self c = omega (arith, unit_range c.args.self.in_range)
