use Rattle.std.proofs.Common.{ap, ◌∙◌, arith}
use Rattle.numbers.proofs.Signs.{difference_answered}
use Rattle.numbers.proofs.SignedSums.{difference_parts}
use Rattle.numbers.proofs.Sizes.{size_parts, both_within}
use Rattle.money.specs.Quantities.{cents}
use Rattle.money.specs.Lines.{line, line_answer}
use Rattle.money.specs.AreaMoney.{due_most}
use Rattle.money.proofs.Cents.line_after.Goals as goal

pub returns-then-cents_size-le-DUE_MOST-2 : goal.returns-then-cents_size-le-DUE_MOST-2
unfolding line line_answer
returns-then-cents_size-le-DUE_MOST-2 c =
    let due = c.args.self.0 in
    let earlier = c.args.earlier.0 in
    c.difference.ensures
    ∙ ap cents
    (difference_answered (omega (arith, size_parts due, size_parts earlier)) (omega (arith, size_parts due, size_parts earlier))
    ∙ rw (c.cents_above.ensures.0, c.cents_below.ensures.0)
    (rw (c.cents_below-then-cents_size-le-DUE_MOST-2.ensures.0, c.cents_above-then-cents_size-le-DUE_MOST-2.ensures.0)
    (difference_parts due earlier ∙ both_within due_most due earlier _ (omega arith) (omega arith))))
