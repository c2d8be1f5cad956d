use Rattle.std.proofs.Common.{ap, ◌∙◌, arith}
use Rattle.numbers.proofs.Signs.{difference_answered}
use Rattle.numbers.proofs.SignedSums.{sum_parts}
use Rattle.numbers.proofs.Sizes.{size_parts, both_within}
use Rattle.capacity.specs.Quantities.{unforced_watts}
use Rattle.capacity.specs.Shares.{net_most, net_with}
use Rattle.capacity.proofs.UnforcedWatts.with_share.Goals as goal

pub overflow_add-below : goal.overflow_add-below
overflow_add-below c = omega (arith, size_parts c.args.self.0, size_parts c.args.share.0)

pub returns-then-size-le-NET_MOST-2 : goal.returns-then-size-le-NET_MOST-2
unfolding net_with
returns-then-size-le-NET_MOST-2 c =
    let net = c.args.self.0 in
    let share = c.args.share.0 in
    c.difference.ensures
    ∙ ap unforced_watts
    (difference_answered (omega (arith, size_parts net, size_parts share)) (omega (arith, size_parts net, size_parts share))
    ∙ rw (c.above.ensures.0, c.above-then-size-le-NET_MOST-2.ensures.0)
    (rw (c.below.ensures.0, c.below-then-size-le-NET_MOST-2.ensures.0)
    (sum_parts net share ∙ both_within net_most net share _ (omega arith) (omega arith))))
