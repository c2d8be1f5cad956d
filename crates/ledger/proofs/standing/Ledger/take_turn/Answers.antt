use Rattle.std.proofs.Common.{arith, ◌∙◌}
use Rattle.std.proofs.lemmas.Option.{same_Some}
use Rattle.report.specs.Passes.{state_of}
use Rattle.report.proofs.Passing.{passed_all, close_room}
use Rattle.ledger.specs.Unread.{unread}
use Rattle.ledger.specs.Input.{held}
use Rattle.ledger.proofs.Outcomes.{full_turn, broken_turn, partial_turn, partial_cut, read_turn, all_follow}
use Rattle.ledger.proofs.standing.Ledger.take_turn.Goals as goal

pub returns-in_ok-print-in-Full : goal.returns-in_ok-print-in-Full
returns-in_ok-print-in-Full g c =
    λ room.
    let passed = c.take-pass.ensures.value ∙ passed_all g.row.OUT (state_of c.args.self.now.report c.args.self.now.text.items) (unread c.args.self.now.input) c.unread.ensures.value (omega arith) in
    full_turn g.row.OUT (state_of c.args.self.now.report c.args.self.now.text.items) (state_of c.take-pass.new.self c.take-pass.new.out.items) (unread c.args.self.now.input) (unread c.print.new.self.input)
    c.take-pass.result.next c.take-pass.result.stop passed (c.in_ok-print-in-Full.ensures.input ∙ c.consume.ensures.value)
    (g.W.Write.contents c.args.output.now) (g.W.Write.contents c.print.new.output) (g.R.Read.remaining c.args.input.now)
    c.in-Full.is c.in_ok-print-in-Full.ensures.report c.in_ok-print-in-Full.ensures.printed

pub returns-in_ok-print-in-Broken : goal.returns-in_ok-print-in-Broken
returns-in_ok-print-in-Broken g c =
    λ room.
    let passed = c.take-pass.ensures.value ∙ passed_all g.row.OUT (state_of c.args.self.now.report c.args.self.now.text.items) (unread c.args.self.now.input) c.unread.ensures.value (omega arith) in
    broken_turn g.row.OUT (state_of c.args.self.now.report c.args.self.now.text.items) (state_of c.take-pass.new.self c.take-pass.new.out.items) (unread c.args.self.now.input) (unread c.consume.new.self)
    c.take-pass.result.next c.take-pass.result.stop passed c.consume.ensures.value
    (g.W.Write.contents c.args.output.now) (g.W.Write.contents c.print-in-Broken.new.output) (g.R.Read.remaining c.args.input.now)
    c.close.new.out.items c.in-Broken.is
    (same_Some _ _ (c.in-Ok.ensures.value ∙ close_room g.row.OUT (state_of c.take-pass.new.self c.take-pass.new.out.items) (rw c.in-Broken.is at c.take-pass.ensures.has_room)))
    c.in_ok-print-in-Broken.ensures.printed

pub returns-in-Partial : goal.returns-in-Partial
returns-in-Partial g c =
    λ room.
    let r = state_of c.args.self.now.report c.args.self.now.text.items in
    let r' = state_of c.take-pass.new.self c.take-pass.new.out.items in
    let s = unread c.args.self.now.input in
    let s' = unread c.consume.new.self in
    let passed = c.take-pass.ensures.value ∙ passed_all g.row.OUT r s c.unread.ensures.value (omega arith) in
    all_follow c.read_more.result _ _ _
    (partial_turn g.row.OUT r r' s s' c.take-pass.result.next c.take-pass.result.stop passed c.consume.ensures.value
    (g.W.Write.contents c.args.output.now) (g.R.Read.remaining c.args.input.now) c.in-Partial.is)
    (read_turn g.row.OUT r r' s s' c.take-pass.result.next c.take-pass.result.stop passed c.consume.ensures.value
    (g.W.Write.contents c.args.output.now) (g.W.Write.contents c.read_more.new.output)
    (g.R.Read.remaining c.args.input.now) (g.R.Read.remaining c.read_more.new.input) (held c.read_more.new.self) c.in-Partial.is)
    (c.read_more.ensures room
    (partial_cut g.row.OUT r r' s s' c.take-pass.result.next c.take-pass.result.stop passed c.consume.ensures.value c.in-Partial.is))
