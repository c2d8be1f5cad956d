use Rattle.std.proofs.Common.{◌≤◌}
use Rattle.std.specs.Io.KnownBytes.{Keeps}
use Rattle.ledger.specs.Input.{record_most, outlook}
use Rattle.ledger.proofs.standing.Ledger.run.Given as goal

abbrev pub invariant-loop : goal.invariant-loop
invariant-loop g l =
    record_most ≤ g.row.IN
    → Keeps (outlook (g.W.Write.contents l.fn.output) l.fn.self (g.R.Read.remaining l.fn.input))
    (outlook (g.W.Write.contents l.output) l.self (g.R.Read.remaining l.input))
