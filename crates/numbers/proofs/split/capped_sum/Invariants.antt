use Rattle.std.proofs.Common.{◌≡◌, ◌-◌, ◌^◌, min}
use Rattle.numbers.specs.Sum.{sum_below}
use Rattle.numbers.specs.Lists.{element}
use Rattle.numbers.proofs.split.capped_sum.Given as goal

abbrev pub invariant-loop-weight : goal.invariant-loop-weight
invariant-loop-weight l = l.sum ≡ min (sum_below l.weight-index (element l.weights)) (2 ^ 64 - 1)
