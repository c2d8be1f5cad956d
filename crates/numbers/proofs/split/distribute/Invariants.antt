use Rattle.std.proofs.Common.{◌≡◌, length}
use Rattle.numbers.specs.Sum.{sum_below}
use Rattle.numbers.specs.Lists.{element}
use Rattle.numbers.specs.Split.{first_shares, split}
use Rattle.numbers.proofs.Lists.{Filled}
use Rattle.numbers.proofs.split.distribute.Given as goal

abbrev pub invariant-loop-k : goal.invariant-loop-k
invariant-loop-k l =
    Filled (length l.initial.shares) (split l.amount (length l.weights) (element l.weights)) l.shares l.k
    × (l.sum ≡ sum_below l.k (element l.weights))
    × (l.given ≡ first_shares l.amount (length l.weights) (element l.weights) l.k)
