use Rattle.std.proofs.Common.{◌∙◌, ap, rules}
use Rattle.numbers.specs.Signed.{above}
use Rattle.numbers.proofs.Signs.{difference_answered}
use Rattle.capacity.specs.Quantities.{unforced_watts}
use Rattle.capacity.specs.Shortfall.{unit_shortfall}
use Rattle.capacity.proofs.Capacities.{unit_range}
use Rattle.capacity.proofs.shortfall.CommittedUnit.shortfall.Goals as goal

pub unforced-expected-requires : goal.unforced-expected-requires
unforced-expected-requires c = let range = unit_range c.args.self.in_range in search rules

pub returns : goal.returns
unfolding unit_shortfall above
returns c =
    c.difference.ensures
    ∙ ap unforced_watts (difference_answered c.above.ensures.1 c.above-2.ensures.1
    ∙ simp (c.above.ensures.0, c.above-2.ensures.0, c.unforced-expected.ensures, c.available.ensures))
