use Rattle.std.proofs.Common.{arith}
use Rattle.numbers.specs.Lists.{list_below}
use Rattle.book.proofs.Ranges.{answer_most}
use Rattle.book.proofs.AreaNets.{parts_none, parts_small, parts_same, parts_stored, parts_all}
use Rattle.book.proofs.post.parts.Goals as goal
use Rattle.book.proofs.post.parts.Goals.{then-c-u, else-c-u}

pub loop-c-init : goal.loop-c-init
unfolding list_below
loop-c-init c = parts_none

pub overflow_add-parts : goal.overflow_add-parts
overflow_add-parts c =
    omega (arith, parts_small c.loop-c.invariant c.requires.0 (omega arith) _ (c.index-p.ensures.below (omega arith)), rw (c.from.ensures, c.from-then-c-u.ensures, c.from-then-c-u-2.ensures) at c.watt_days.ensures, answer_most (c.requires.0 c.loop-c.c-index))

pub loop-c-preserved : goal.loop-c-preserved
loop-c-preserved c =
    elim c.if-c-u.branch [
      | then-c-u w ↦ rw w.parts-is (parts_stored c.loop-c.invariant c.requires.0 (omega arith) w.if-c-u.true w.index-p.ensures.value (w.index-p.ensures.below (omega arith)) (rw (w.from.ensures, w.from-then-c-u.ensures, w.from-then-c-u-2.ensures) at w.watt_days.ensures))
      | else-c-u w ↦ rw w.parts-is (parts_same c.loop-c.invariant (omega arith) w.if-c-u.false)
    ]

pub returns : goal.returns
returns c = parts_all c.loop-c.invariant (omega arith)
