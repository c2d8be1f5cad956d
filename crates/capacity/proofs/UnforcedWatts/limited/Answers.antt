use Rattle.std.proofs.Common.{sym, ap, ◌∙◌, arith}
use Rattle.capacity.specs.Quantities.{unforced_watts}
use Rattle.capacity.proofs.Capacities.{under_limit}
use Rattle.capacity.proofs.Formulas.{over_limit}
use Rattle.capacity.proofs.UnforcedWatts.limited.Goals as goal

pub returns-then-most-above : goal.returns-then-most-above
returns-then-most-above c = c.new.ensures ∙ ap unforced_watts (rw c.above-most.ensures.0 (sym (over_limit _ _ (omega arith))))

pub returns-else-most-above : goal.returns-else-most-above
returns-else-most-above c = ap unforced_watts (sym (under_limit _ _ (omega arith)))
