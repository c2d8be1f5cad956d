use Rattle.capacity.proofs.Bounds as bounds
use Rattle.capacity.proofs.laws.bounds.Goals as goal

pub returns : goal.returns
returns c =
    record {
      watt_days_bound = bounds.watt_days_bound;
      committed_bound = bounds.committed_bound;
      rated_bound = bounds.rated_bound;
      shortfall_bound = bounds.shortfall_bound;
      split_bound = bounds.split_bound;
      shortfalls_bound = bounds.shortfalls_bound;
      excesses_bound = bounds.excesses_bound;
      net_steps = bounds.net_steps;
      ready_excesses_bound = bounds.ready_excesses_bound;
      excess_steps = bounds.excess_steps;
    }
