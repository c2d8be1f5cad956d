use Rattle.std.proofs.Common.{◌+◌, ◌<◌, arith}
use Rattle.capacity.specs.declared.shortfall.CommittedUnit.{CommittedUnit}
use Rattle.capacity.proofs.Capacities.{unit_range}
use Rattle.capacity.proofs.Formulas.{RatedFits, rated_fits}
use Rattle.capacity.proofs.shortfall.CommittedUnit.peak_rated.Goals as goal

fits : (u : CommittedUnit) → 0 < u.hours.service + u.hours.outage → RatedFits u.commitment.0 u.rating u.hours
fits u some = rated_fits u.at_most (unit_range u.in_range) some

pub overflow_mul-service : goal.overflow_mul-service
overflow_mul-service c = omega (arith, fits c.args.self c.requires)

pub overflow_sub-service : goal.overflow_sub-service
overflow_sub-service c = (fits c.args.self c.requires).derated

pub overflow_mul-t : goal.overflow_mul-t
overflow_mul-t c = omega (arith, fits c.args.self c.requires)

pub overflow_add-service : goal.overflow_add-service
overflow_add-service c = omega (arith, fits c.args.self c.requires)

pub overflow_mul-i : goal.overflow_mul-i
overflow_mul-i c = omega (arith, fits c.args.self c.requires)

pub nonzero_div-t : goal.nonzero_div-t
nonzero_div-t c = (fits c.args.self c.requires).some

pub new-requires : goal.new-requires
new-requires c = omega (arith, (fits c.args.self c.requires).floor)
