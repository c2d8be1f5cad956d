use Rattle.std.proofs.Common.{rules, pos}
use Rattle.numbers.proofs.Arrays.{map-is}
use Rattle.money.specs.Quantities.{cents}
use Rattle.money.proofs.area.amounts.Goals as goal

pub returns : goal.returns
returns c = map-is (λ f. Unit {0}) c.args.money (cents (pos 0)) _ (λ f p y q b captured called. search rules) tt c.map.ensures.items
