use Rattle.std.proofs.Common.{◌∙◌, ap, ℕ, pos, arith}
use Rattle.money.specs.Quantities.{cents}
use Rattle.money.proofs.Bounds.{charge_priced}
use Rattle.money.proofs.area.Area.charge.Goals as goal

pub overflow_mul-above : goal.overflow_mul-above
overflow_mul-above c = omega (arith, charge_priced c.args.self c.requires c.above.ensures.0)

pub overflow_mul-above-2 : goal.overflow_mul-above-2
overflow_mul-above-2 c = omega (arith, charge_priced c.args.self c.requires c.above.ensures.0)

pub returns : goal.returns
returns c = c.new.ensures ∙ ap (λ (n : ℕ). cents (pos n)) (charge_priced c.args.self c.requires c.above.ensures.0).kept
