use Rattle.std.proofs.Common.{sym, ap, ◌∙◌, arith}
use Rattle.numbers.proofs.Signs.{difference_answered}
use Rattle.numbers.proofs.Splits.{sign_above, sign_below}
use Rattle.capacity.specs.Quantities.{unforced_watts}
use Rattle.capacity.proofs.UnforcedWatts.with_size.Goals as goal

pub returns-then-below-eq0 : goal.returns-then-below-eq0
returns-then-below-eq0 c small =
    c.difference.ensures
    ∙ ap unforced_watts (difference_answered small (omega arith) ∙ sign_above _ _ (sym c.below.ensures.0 ∙ c.if-below-eq0.true))

pub returns-else-below-eq0 : goal.returns-else-below-eq0
returns-else-below-eq0 c small =
    c.difference-else-below-eq0.ensures
    ∙ ap unforced_watts (difference_answered (omega arith) small ∙ sign_below _ _ (λ e. c.if-below-eq0.false (c.below.ensures.0 ∙ e)))
