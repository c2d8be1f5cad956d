use Rattle.std.proofs.Common.{◌∙◌, ap, arith}
use Rattle.book.specs.Seen.{seen}
use Rattle.book.specs.declared.post.AreaNets.{AreaNets}
use Rattle.book.proofs.AreaNets.{nets_none, excesses_none, nets_same, excesses_same, nets_more, excesses_more, nets_done}
use Rattle.book.proofs.Book.area_nets.Goals as goal
use Rattle.book.proofs.Book.area_nets.Goals.{then-u-area, else-u-area}

pub loop-k-init : goal.loop-k-init
loop-k-init c = (c.no_nets.ensures ∙ nets_none c.args.self.now c.args.area, c.no_nets-2.ensures ∙ excesses_none c.args.self.now c.args.area)

pub loop-k-preserved : goal.loop-k-preserved
loop-k-preserved c =
    let known = rw (← c.self.view_is) at c.loop-k.invariant in
    let b = seen c.self.inside in
    rw (← c.self.view_is)
    (elim c.if-u-area.branch [
      | then-u-area w ↦
          let days = c.from-days.ensures ∙ c.delivery_days.ensures in (
            ap (λ (n : AreaNets). n.nets) w.so_far-is
                ∙ nets_more b c.self.invariant _ _ (omega arith) known.0 known.1 w.if-u-area.true w.parts.ensures days w.with_unit-so_far.ensures.nets,
            ap (λ (n : AreaNets). n.excesses) w.so_far-is
                ∙ excesses_more b c.self.invariant _ _ (omega arith) known.0 known.1 w.if-u-area.true w.parts.ensures days w.with_unit-so_far.ensures.excesses,
          )
      | else-u-area w ↦ (
        ap (λ (n : AreaNets). n.nets) w.so_far-is ∙ nets_same b c.self.invariant _ _ (omega arith) known.0 known.1 w.if-u-area.false,
        ap (λ (n : AreaNets). n.excesses) w.so_far-is ∙ excesses_same b c.self.invariant _ _ (omega arith) known.0 known.1 w.if-u-area.false,
      )
    ])

pub returns : goal.returns
returns c = nets_done c.args.self.now _ (omega arith) (omega arith) c.loop-k.invariant.0 c.loop-k.invariant.1 c.lower_nets.ensures
