use Rattle.std.proofs.Common.{◌∙◌, ap, pos, ℕ}
use Rattle.numbers.specs.Lists.{element}
use Rattle.numbers.proofs.Tests.{below_of, chosen}
use Rattle.numbers.proofs.Lists.{sum_filled, list_same, element_below}
use Rattle.numbers.proofs.Splits.{split_same}
use Rattle.money.specs.Quantities.{cents}
use Rattle.money.proofs.area.credits.Goals as goal

pub split-requires : goal.split-requires
split-requires c = rw (sum_filled _ c.amounts.ensures) c.requires

pub returns-then-cents_above : goal.returns-then-cents_above
returns-then-cents_above c =
    c.split.ensures
    ∙ list_same 16 _ _
    (λ p h. ap (λ (n : ℕ). cents (pos n)) (split_same _ 16 (element c.amounts.result) _ (λ k b. rw c.amounts.ensures (element_below 16 _ k 0 b)) p h))
    ∙ chosen _ (below_of c.cents_above.ensures.0 c.cents_above-2.ensures.0 c.if-cents_above.true)
