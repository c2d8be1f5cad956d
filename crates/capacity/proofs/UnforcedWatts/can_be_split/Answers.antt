use Rattle.std.proofs.Common.{◌∙◌, sym, arith, nat_abs, le-leb, rules}
use borrow.Author.Tests.{lt-leb}
use Rattle.numbers.proofs.CappedSums.{capped_sixteen, capped_test}
use Rattle.numbers.proofs.Tests.{passed, failed}
use Rattle.capacity.specs.Shortfall.{watt_days_of, installed_most, watt_days_most}
use Rattle.capacity.specs.Shares.{shares_in_range}
use Rattle.capacity.proofs.UnforcedWatts.can_be_split.Goals as goal

-- the capped sum of the parts is tested as V itself
pub returns-then-size-le-INSTALLED_MOST : goal.returns-then-size-le-INSTALLED_MOST
unfolding shares_in_range watt_days_of
returns-then-size-le-INSTALLED_MOST c =
    sym (capped_test _ watt_days_most (omega arith) (capped_sixteen c.args.parts _ (search rules) c.capped_sum.ensures))
    ∙ passed (le-leb _ _ (omega (arith, c.size.ensures.0, c.if-size-le-INSTALLED_MOST.true)))

pub returns-else-size-le-INSTALLED_MOST : goal.returns-else-size-le-INSTALLED_MOST
unfolding shares_in_range
returns-else-size-le-INSTALLED_MOST c =
    lt-leb _ _ c.if-size-le-INSTALLED_MOST.false ∙ failed _ (lt-leb (nat_abs c.args.self.0) installed_most (omega (arith, c.size.ensures.0, c.if-size-le-INSTALLED_MOST.false)))
