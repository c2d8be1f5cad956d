use Rattle.book.proofs.AreaNets.{PartsOf}
use Rattle.book.proofs.post.parts.Given as goal

abbrev pub invariant-loop-c : goal.invariant-loop-c
invariant-loop-c l = PartsOf l.commitments l.u l.parts l.c-index
