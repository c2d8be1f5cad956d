use Rattle.std.proofs.Common.{◌≡◌, rules, ℕ}
use Rattle.numbers.specs.Split.{with_sign, split_signed}
use Rattle.numbers.proofs.Distribution.{shares_mapped}
use Rattle.capacity.specs.Quantities.{unforced_watts}
use Rattle.capacity.proofs.UnforcedWatts.split.Goals as goal

pub returns : goal.returns
unfolding split_signed
returns c =
    shares_mapped c.args.weights c.size.ensures.0 (search rules) c.requires c.split_array.ensures
    (λ f. f.0.now ≡ c.args.self) (λ (n : ℕ). unforced_watts (with_sign c.args.self.0 n))
    (λ f share y q small captured called. search rules) (search rules) c.map.ensures.items
