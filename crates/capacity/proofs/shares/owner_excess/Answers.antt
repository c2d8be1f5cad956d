use Rattle.std.proofs.Common.{◌≡◌, rules}
use Rattle.numbers.proofs.Arrays.{from_fn-is}
use Rattle.capacity.specs.Shares.{excess_answer}
use Rattle.capacity.proofs.shares.owner_excess.Goals as goal

pub returns : goal.returns
unfolding excess_answer
returns c =
    from_fn-is (λ f. (f.0.now ≡ c.args.shortfall) × (f.1.now ≡ c.args.owner)) _
    (λ f p y q b captured called. search rules) (search rules) c.from_fn.ensures.items
