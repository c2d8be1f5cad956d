use Rattle.std.proofs.Common.{◌-◌, length}
use Rattle.report.specs.Buffers.{Stays}
use Rattle.report.specs.Passes.{state_of}
use Rattle.report.proofs.Passing.{Going}
use Rattle.report.proofs.standing.Report.pass_over.Given as goal

abbrev pub invariant-loop-at : goal.invariant-loop-at
invariant-loop-at g l =
    Going (g.B.Buffer.size l.initial.out) l.s (state_of l.initial.self (g.B.Buffer.text l.initial.out)) (state_of l.self (g.B.Buffer.text l.out)) l.at
    × Stays g.B.Buffer.size g.B.Buffer.place l.initial.out l.out

abbrev pub decreases-loop-at : goal.decreases-loop-at
decreases-loop-at g l = length l.s - l.at
