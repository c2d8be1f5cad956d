use Rattle.report.specs.Passes.{state_of}
use Rattle.ledger.specs.Unread.{unread}
use Rattle.ledger.specs.Input.{outlook, held}
use Rattle.ledger.proofs.Outcomes.{keeps_on, turn_keeps, no_break}
use Rattle.ledger.proofs.standing.Ledger.run.Goals as goal

pub loop-preserved : goal.loop-preserved
loop-preserved g c =
    λ room.
    keeps_on
    (outlook (g.W.Write.contents c.args.output.now) c.args.self.now (g.R.Read.remaining c.args.input.now))
    (outlook (g.W.Write.contents c.loop.output) c.loop.self (g.R.Read.remaining c.loop.input))
    (outlook (g.W.Write.contents c.take_turn.new.output) c.take_turn.new.self (g.R.Read.remaining c.take_turn.new.input))
    (c.loop.invariant room)
    (turn_keeps g.row.OUT (state_of c.loop.self.report c.loop.self.text.items) (unread c.loop.self.input) (held c.take_turn.new.self)
    (g.W.Write.contents c.loop.output) (g.W.Write.contents c.take_turn.new.output)
    (g.R.Read.remaining c.loop.input) (g.R.Read.remaining c.take_turn.new.input)
    (no_break _ _ c.in_ok-take_turn.field-0 c.if-is_break.ensures (c.in_ok-take_turn.ensures room)))
