use Rattle.std.proofs.Common.{◌≡◌}
use Rattle.book.proofs.AreaNets.{nets_of, excesses_of}
use Rattle.book.proofs.Book.area_nets.Given as goal

abbrev pub invariant-loop-k : goal.invariant-loop-k
invariant-loop-k l = (l.so_far.nets ≡ nets_of l.self l.area l.k) × (l.so_far.excesses ≡ excesses_of l.self l.area l.k)
