use Rattle.std.proofs.Common.{◌∙◌, le_trans, leb-true}
use Rattle.numbers.proofs.Tests.{flag, both_true}
use Rattle.numbers.specs.Signed.{above}
use Rattle.capacity.specs.Shortfall.{shortfall_answer, limited_shortfall}
use Rattle.capacity.proofs.Capacities.{unit_range}
use Rattle.capacity.proofs.shortfall.limited_shortfall.Goals as goal

pub invariant_of-unit : goal.invariant_of-unit
invariant_of-unit c =
    let held = both_true (flag c.in_range_at.ensures c.if-in_range_at.true) in
    record { in_range = held.0; at_most = le_trans (leb-true _ _ held.1) (unit_range held.0).rating.installed_to }

pub returns-then-in_range_at : goal.returns-then-in_range_at
unfolding shortfall_answer limited_shortfall above
returns-then-in_range_at c =
    simp (flag c.in_range_at.ensures c.if-in_range_at.true)
    (c.limited.ensures ∙ simp (c.shortfall.ensures, c.limit.ensures))
