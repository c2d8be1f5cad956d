use Rattle.money.specs.Laws.{lowered_by}
use Rattle.money.proofs.Balance.{dues_balance}
use Rattle.money.proofs.Lowered.{charge_not_raised, ceiling_kept, lowered_in_range}
use Rattle.money.proofs.laws.lowered.Goals as goal

pub returns : goal.returns
returns c =
    record {
      charge_not_raised = charge_not_raised;
      ceiling_kept = ceiling_kept;
      lowered_dues_balance = λ excess N price days o. dues_balance (lowered_by excess N) price days o;
      lowered_in_range = lowered_in_range;
    }
