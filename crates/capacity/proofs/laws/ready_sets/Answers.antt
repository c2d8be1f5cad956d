use Rattle.capacity.proofs.Capacities.{unowned_committed, owner_no_part, ready_committed, unit_committed_at_most}
use Rattle.capacity.proofs.Nets.{lowered_above, lowered_below, lowered_least, lowered_untouched, nothing_lowered}
use Rattle.capacity.proofs.laws.ready_sets.Goals as goal

pub returns : goal.returns
returns c =
    record {
      unowned_committed = unowned_committed;
      owner_no_part = owner_no_part;
      ready_committed = ready_committed;
      unit_committed_at_most = unit_committed_at_most;
      lowered_above = lowered_above;
      lowered_below = lowered_below;
      lowered_least = lowered_least;
      lowered_untouched = lowered_untouched;
      nothing_lowered = nothing_lowered;
    }
