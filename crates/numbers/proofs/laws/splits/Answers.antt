use Rattle.numbers.proofs.Splits.{shares_add_up, share_at_most, no_weights, signed_shares_add_up, shortfall_shares, excess_shares}
use Rattle.numbers.proofs.laws.splits.Goals as goal

pub returns : goal.returns
returns c =
    record {
      shares_add_up = shares_add_up;
      share_at_most = share_at_most;
      no_weights = no_weights;
      signed_shares_add_up = signed_shares_add_up;
      shortfall_shares = shortfall_shares;
      excess_shares = excess_shares;
    }
