use Rattle.std.proofs.Common.{◌≡◌, ◌∙◌, ◌-◌, ◌^◌, ap, min, ℕ, pos, rules, arith}
use Rattle.numbers.proofs.Distribution.{shares_mapped}
use Rattle.money.specs.Quantities.{cents}
use Rattle.money.proofs.Cents.split.Goals as goal

pub returns : goal.returns
returns c =
    shares_mapped c.args.weights c.cents_above.ensures.0 (search rules) c.requires c.split_array.ensures
    (λ f. Unit {0}) (λ (n : ℕ). cents (pos n))
    (λ f share y q small captured called.
    let made : y ≡ cents (pos (min share (2 ^ 63 - 1))) = search rules in
    (made ∙ ap (λ (n : ℕ). cents (pos n)) (omega arith), tt))
    tt c.map.ensures.items
