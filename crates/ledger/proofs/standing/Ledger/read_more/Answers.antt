use Rattle.std.proofs.Common.{List, ℕ, arith, ◌∙◌, ◌≡◌, [], subst}
use Rattle.std.specs.Io.KnownBytes.{Appends}
use Rattle.std.proofs.lemmas.List.{nil_from_length}
use Rattle.records.proofs.FormatLaws.{partial_most}
use Rattle.report.specs.Passes.{state_of}
use Rattle.ledger.specs.Unread.{unread}
use Rattle.ledger.proofs.Outcomes.{outcome_at_end, last_lines, reads_on}
use Rattle.ledger.proofs.standing.Ledger.read_more.Goals as goal

pub returns : goal.returns
returns g c =
    λ room cut.
    let (bs, whole, size, read, end) = c.in-Ok.ensures in
    let none : bs ≡ [] = nil_from_length bs (size ∙ c.if-count-ne0.false) in
    let short = partial_most (unread c.args.self.now.input) cut in
    let last = last_lines g.row.OUT (state_of c.args.self.now.report c.args.self.now.text.items) (unread c.args.self.now.input) bs c.unread.result.now c.finish.new.out.items
    c.requires (omega arith) c.in-Ok-finish.ensures.value (c.unread.ensures.value ∙ whole) none in
    outcome_at_end (g.W.Write.contents c.args.output.now) (g.W.Write.contents c.print.new.output)
    (state_of c.args.self.now.report c.args.self.now.text.items) (unread c.args.self.now.input) bs
    (g.R.Read.remaining c.args.input.now) (g.R.Read.remaining c.read_from.new.reader)
    cut none read (end c.if-count-ne0.false (omega arith))
    (subst (λ (x : List ℕ). Appends (g.W.Write.contents c.args.output.now) (g.W.Write.contents c.print.new.output) x) last c.in_ok-print.ensures.printed)

pub returns-in-Err : goal.returns-in-Err
returns-in-Err g c =
    λ room cut.
    reads_on g.row.IN (state_of c.args.self.now.report c.args.self.now.text.items) (unread c.args.self.now.input) (unread c.read_from.new.self)
    (g.W.Write.contents c.args.output.now) (g.R.Read.remaining c.args.input.now) (g.R.Read.remaining c.read_from.new.reader)
    c.read_from.result c.read_from.ensures
