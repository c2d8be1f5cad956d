use Rattle.money.proofs.Bounds as bounds
use Rattle.money.proofs.laws.bounds.Goals as goal

pub returns : goal.returns
returns c =
    record {
      priced_bound = bounds.priced_bound;
      charges_bound = bounds.charges_bound;
      ceilings_bound = bounds.ceilings_bound;
      credits_fit = bounds.credits_fit;
      load_shares_fit = bounds.load_shares_fit;
      due_bound = bounds.due_bound;
      line_bound = bounds.line_bound;
    }
