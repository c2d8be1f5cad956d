use Rattle.std.proofs.Common.{◌≡◌, rules}
use Rattle.numbers.proofs.Arrays.{from_fn-is}
use Rattle.money.proofs.area.Area.ceilings.Goals as goal

pub returns : goal.returns
returns c =
    from_fn-is (λ f. f.0.now ≡ c.args.self) _ (λ f p y q b captured called. search rules) (search rules) c.from_fn.ensures.items
