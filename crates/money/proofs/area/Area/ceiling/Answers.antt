use Rattle.std.proofs.Common.{◌∙◌, ap, ℕ, pos, arith}
use Rattle.money.specs.Quantities.{cents}
use Rattle.money.proofs.Bounds.{ceiling_priced}
use Rattle.money.proofs.area.Area.ceiling.Goals as goal

pub overflow_mul-below : goal.overflow_mul-below
overflow_mul-below c = omega (arith, ceiling_priced c.args.self c.requires c.below.ensures.0)

pub overflow_mul-below-2 : goal.overflow_mul-below-2
overflow_mul-below-2 c = omega (arith, ceiling_priced c.args.self c.requires c.below.ensures.0)

pub returns : goal.returns
returns c = c.new.ensures ∙ ap (λ (n : ℕ). cents (pos n)) (ceiling_priced c.args.self c.requires c.below.ensures.0).kept
