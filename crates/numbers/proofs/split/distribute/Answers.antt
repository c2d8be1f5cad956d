use Rattle.std.proofs.Common.{◌≡◌, refl, sym, arith, rules}
use Rattle.numbers.specs.Sum.{sum_below}
use Rattle.numbers.specs.Lists.{element}
use Rattle.numbers.proofs.Lists.{filled_none, filled_more}
use Rattle.numbers.proofs.Splits.{first_shares_none}
use Rattle.numbers.proofs.Distribution.{Turn, turn}
use Rattle.numbers.proofs.split.distribute.Goals as goal

abbrev Here : goal.After-unwrap_or-sum → Type 0
Here c =
    let at = c.loop-k in
    Turn c.args.amount c.args.weights.now c.args.z at.sum at.given at.k c.unwrap_or-sum.result

this_turn : (c : goal.After-unwrap_or-sum) → Here c
this_turn c =
    let inv = c.loop-k.invariant in
    let weight : c.unwrap_or-sum.result ≡ element c.args.weights.now c.loop-k.k = search rules in
    turn c.args.amount c.args.weights.now c.requires.0 inv.1 inv.2 weight

pub loop-k-init : goal.loop-k-init
unfolding sum_below
loop-k-init c = (filled_none refl, refl, sym (first_shares_none _ _ _))

pub overflow_add-sum : goal.overflow_add-sum
overflow_add-sum c = omega (arith, this_turn c)

pub overflow_mul-next : goal.overflow_mul-next
overflow_mul-next c = omega (arith, this_turn c)

pub overflow_sub-share : goal.overflow_sub-share
overflow_sub-share c = (this_turn c).grows

pub loop-k-preserved : goal.loop-k-preserved
loop-k-preserved c = (filled_more c.loop-k.invariant.0 (omega arith) (this_turn c).share, (this_turn c).sum_next, (this_turn c).given_next)
