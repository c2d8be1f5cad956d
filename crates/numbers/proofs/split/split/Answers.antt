use Rattle.std.proofs.Common.{sym, ◌∙◌}
use Rattle.numbers.proofs.Lists.{list_below-replicate}
use Rattle.numbers.proofs.Distribution.{shares_found, answer_shares, answer_none}
use Rattle.numbers.proofs.split.split.Goals as goal

pub returns-then-has_shares : goal.returns-then-has_shares
returns-then-has_shares c = c.distribute.ensures ∙ sym (answer_shares _ _ _ (shares_found _ _ c.capped_sum-z.ensures (sym c.has_shares.ensures ∙ c.if-has_shares.true)).3)

pub returns-else-has_shares : goal.returns-else-has_shares
returns-else-has_shares c =
    c.fill.ensures.after (λ y e. e) ∙ list_below-replicate _ 0
    ∙ answer_none _ c.args.weights.now _
    c.capped_sum-z.ensures
    (sym c.has_shares.ensures ∙ c.if-has_shares.false)
