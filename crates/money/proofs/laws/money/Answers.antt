use Rattle.money.proofs.Balance.{credit_at_most, credits_add_up, load_shares_add_up, paid_out, dues_balance}
use Rattle.money.proofs.laws.money.Goals as goal

pub returns : goal.returns
returns c =
    record {
      credit_at_most = credit_at_most;
      credits_add_up = credits_add_up;
      load_shares_add_up = load_shares_add_up;
      paid_out = paid_out;
      dues_balance = dues_balance;
    }
