use Rattle.promise.proofs.Storing.{Going}
use Rattle.promise.proofs.log.run.Given as goal

abbrev pub invariant-loop-i : goal.invariant-loop-i
invariant-loop-i l = Going l.bytes l.ends l.initial.numbers l.initial.lines l.numbers l.lines l.book l.from l.next l.i
