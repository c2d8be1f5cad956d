use Rattle.std.proofs.Common.{◌≡◌, rules}
use Rattle.numbers.proofs.Arrays.{from_fn-is}
use Rattle.capacity.specs.Shares.{nets_answer}
use Rattle.capacity.proofs.shares.add_shares.Goals as goal

pub returns : goal.returns
unfolding nets_answer
returns c =
    from_fn-is (λ f. (f.0.now ≡ c.args.nets) × (f.1.now ≡ c.args.shares)) _
    (λ f p y q b captured called. search rules) (search rules) c.from_fn.ensures.items
