use Rattle.std.proofs.Common.{◌≡◌, ◌+◌, ◌≤◌, cond}
use Rattle.numbers.specs.Sum.{sum_below}
use Rattle.calendar.specs.Peak.{has_hour}
use Rattle.calendar.proofs.hours.hour_count.Given as goal

abbrev pub invariant-loop-k : goal.invariant-loop-k
invariant-loop-k l = (l.count ≡ sum_below l.k (λ k. cond (has_hour l.hours (k + 1)) 1 0)) × (l.count ≤ l.k)
