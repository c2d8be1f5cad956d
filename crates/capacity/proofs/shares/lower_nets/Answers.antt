use Rattle.std.proofs.Common.{◌≡◌, rules}
use Rattle.numbers.proofs.Arrays.{from_fn-is}
use Rattle.capacity.specs.Shares.{lowered_answer}
use Rattle.capacity.proofs.shares.lower_nets.Goals as goal

pub returns : goal.returns
unfolding lowered_answer
returns c =
    from_fn-is (λ f. (f.0.now ≡ c.args.nets) × (f.1.now ≡ c.args.excesses)) _
    (λ f p y q b captured called. search rules) (search rules) c.from_fn.ensures.items
