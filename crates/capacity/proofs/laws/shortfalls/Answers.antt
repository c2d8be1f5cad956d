use Rattle.capacity.proofs.Capacities.{parts_add_up, limited_at_most, not_above_untouched, excess_untouched, available_at_most}
use Rattle.capacity.proofs.laws.shortfalls.Goals as goal

pub returns : goal.returns
returns c =
    record {
      parts_add_up = parts_add_up;
      limited_at_most = limited_at_most;
      not_above_untouched = not_above_untouched;
      excess_untouched = excess_untouched;
      available_at_most = available_at_most;
    }
