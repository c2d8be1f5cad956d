use Rattle.std.proofs.Common.{arith}
use Rattle.numbers.proofs.Tests.{flag}
use Rattle.capacity.proofs.Capacities.{ranges}
use Rattle.capacity.proofs.Formulas.{CommittedFits, committed_fits}
use Rattle.capacity.proofs.shortfall.committed.Goals as goal

pub overflow_mul-average : goal.overflow_mul-average
overflow_mul-average c = omega (arith, (ranges (flag c.in_range.ensures c.if-not-in_range.false)).1)

pub overflow_sub-average : goal.overflow_sub-average
overflow_sub-average c = omega (arith, (ranges (flag c.in_range.ensures c.if-not-in_range.false)).0)

divisor : (c : goal.After-from) → CommittedFits c.from.result c.args.days
divisor c =
    let (rating, year) = ranges (flag c.in_range.ensures c.if-not-in_range.false) in
    rw c.from.ensures (committed_fits rating.eford_to year.days_from year.days_to)

pub overflow_mul-average-2 : goal.overflow_mul-average-2
overflow_mul-average-2 c = omega (arith, divisor c)

pub nonzero_div-average : goal.nonzero_div-average
nonzero_div-average c = (divisor c).some
