use Rattle.std.proofs.Common.{◌≡◌, rules}
use Rattle.numbers.proofs.Arrays.{from_fn-is}
use Rattle.money.specs.Lines.{lines_answer}
use Rattle.money.proofs.lines.lines.Goals as goal

pub returns : goal.returns
unfolding lines_answer
returns c =
    from_fn-is (λ f. (f.0.now ≡ c.args.dues) × (f.1.now ≡ c.args.earlier)) _
    (λ f p y q b captured called. search rules) (search rules) c.from_fn.ensures.items
