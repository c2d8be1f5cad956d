use Rattle.std.proofs.Common.{arith, nat_abs, leb, leb-true}
use Rattle.numbers.proofs.Tests.{flag, both_true}
use Rattle.capacity.specs.Shortfall.{watt_days_of, installed_most}
use Rattle.capacity.specs.Shares.{shares_answer, shares_in_range, unit_share}
use Rattle.capacity.proofs.Bounds.{split_bound}
use Rattle.capacity.proofs.shares.unit_shares.Goals as goal

pub split-requires : goal.split-requires
unfolding shares_in_range watt_days_of
split-requires c =
    let both = both_true {a = leb (nat_abs c.args.shortfall.0) installed_most} (flag c.can_be_split.ensures c.if-can_be_split.true) in
    omega (arith, split_bound c.args.shortfall.0 _ (leb-true _ _ both.0) (leb-true _ _ both.1))

pub returns-then-can_be_split : goal.returns-then-can_be_split
unfolding shares_answer unit_share
returns-then-can_be_split c = simp (flag c.can_be_split.ensures c.if-can_be_split.true) c.split.ensures
