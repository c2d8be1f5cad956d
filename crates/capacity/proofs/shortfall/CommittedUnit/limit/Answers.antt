use Rattle.std.proofs.Common.{◌∙◌, ◌≤◌, le_trans, arith, rules}
use Rattle.numbers.specs.Signed.{above}
use Rattle.capacity.specs.Shortfall.{unit_limit, limit, installed_most}
use Rattle.capacity.proofs.Capacities.{unit_range, unforced_at_most}
use Rattle.capacity.proofs.Formulas.{limit_fits}
use Rattle.capacity.proofs.shortfall.CommittedUnit.limit.Goals as goal

pub unforced-unforced-requires : goal.unforced-unforced-requires
unforced-unforced-requires c = let range = unit_range c.args.self.in_range in search rules

pub overflow_mul-above : goal.overflow_mul-above
unfolding above
overflow_mul-above c =
    let unit = c.args.self in
    let few : above c.unforced-unforced.result.0 ≤ installed_most =
    rw c.unforced-unforced.ensures (le_trans (unforced_at_most _ _) (omega (arith, unit.at_most, unit_range unit.in_range))) in
    omega (arith, limit_fits {u = c.above.result} {q = c.quarters.result} (omega arith) c.quarters.ensures.1)

pub returns : goal.returns
unfolding above unit_limit limit
returns c = c.new.ensures ∙ simp (c.above.ensures.0, c.unforced-unforced.ensures, c.quarters.ensures.0)
