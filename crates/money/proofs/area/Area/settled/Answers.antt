use Rattle.numbers.specs.Lists.{element}
use Rattle.numbers.specs.Signed.{above}
use Rattle.capacity.specs.Quantities.{watts_of}
use Rattle.money.specs.AreaMoney.{charges, ceilings}
use Rattle.money.proofs.Bounds.{charges_bound, credits_fit, load_shares_fit}
use Rattle.money.proofs.Dues.{Reckoned, Received, amounts_sum, total_filled, credits_filled, reckoned, loads_filled, paid_fits, settled_is}
use Rattle.money.proofs.area.Area.settled.Goals as goal
use Rattle.money.proofs.area.Area.settled.Goals.{After-left_over-left, After-split-load_shares}

pub credits-credits-requires : goal.credits-credits-requires
unfolding above charges ceilings
credits-credits-requires c =
    let in_range = c.args.self.in_range in
    rw (
      total_filled _ (charges_bound _ _ _ _ in_range) c.charges-charges.ensures c.total-charged.ensures,
      amounts_sum _ c.ceilings-ceilings.ensures,
    ) (credits_fit _ _ _ _ in_range)

steps : (c : After-left_over-left)
    → Reckoned (watts_of c.args.self.nets) c.args.self.price c.args.self.days c.total-charged.result c.total-ceiling.result c.left_over-left.result
steps c =
    reckoned _ _ _ _ c.args.self.in_range c.charges-charges.ensures c.ceilings-ceilings.ensures c.total-charged.ensures c.total-ceiling.ensures
    c.left_over-left.ensures

pub split-load_shares-requires : goal.split-load_shares-requires
unfolding above
split-load_shares-requires c = rw (steps (goal.at.split-load_shares-requires c).After-left_over-left).left_is (load_shares_fit _ _ _ _ c.args.self.in_range)

abbrev Here : After-split-load_shares → Type 0
Here c =
    let area = c.args.self in
    Received (watts_of area.nets) area.price area.days (element area.obligations) c.left_over-left.result c.credits-credits.result c.split-load_shares.result

here : (c : After-split-load_shares) → Here c
here c =
    let s = steps (goal.at.dues-dues-requires c).After-left_over-left in
    record {
      left_is = s.left_is;
      credits_are = credits_filled _ _ _ s.charged_is s.ceiling_is c.ceilings-ceilings.ensures c.credits-credits.ensures;
      load_shares_are = loads_filled _ _ _ _ s.left_is c.split-load_shares.ensures;
    }

pub dues-dues-requires : goal.dues-dues-requires
dues-dues-requires c = paid_fits _ _ _ _ c.args.self.in_range (here c)

pub returns-then-is_undistributed : goal.returns-then-is_undistributed
returns-then-is_undistributed c =
    settled_is _ _ _ _ (here (goal.at.returns-then-is_undistributed c).After-split-load_shares)
    c.charges-charges.ensures c.dues-dues.ensures c.is_undistributed.ensures c.if-is_undistributed.true

pub returns-else-is_undistributed : goal.returns-else-is_undistributed
returns-else-is_undistributed c =
    settled_is _ _ _ _ (here (goal.at.returns-else-is_undistributed c).After-split-load_shares)
    c.charges-charges.ensures c.dues-dues.ensures c.is_undistributed.ensures c.if-is_undistributed.false
