use Rattle.std.proofs.Common.{ap, ◌∙◌, ℕ, arith, pos}
use Rattle.numbers.proofs.CappedSums.{capped_below}
use Rattle.money.specs.Quantities.{cents}
use Rattle.money.proofs.area.total.Goals as goal

pub returns : goal.returns
returns c =
    c.new.ensures
    ∙ ap (λ (n : ℕ). cents (pos n)) (omega (arith, capped_below _ _ c.amounts.ensures c.capped_sum.ensures))
