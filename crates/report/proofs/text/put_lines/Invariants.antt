use Rattle.std.proofs.Common.{◌+◌, ◌*◌, ◌≤◌, length}
use Rattle.report.specs.Buffers.{Puts}
use Rattle.report.specs.Printed.{party_lines, line_most}
use Rattle.report.proofs.text.put_lines.Given as goal

abbrev pub invariant-loop-p : goal.invariant-loop-p
invariant-loop-p g l =
    Puts g.B.Buffer.text g.B.Buffer.size g.B.Buffer.place l.initial.out l.out (party_lines l.area l.fn.lines l.p)
    × (length (g.B.Buffer.text l.out) ≤ length (g.B.Buffer.text l.initial.out) + l.p * line_most)
