use Rattle.std.proofs.Common.{◌-◌, length}
use Rattle.book.proofs.HourRuns.{HoursLeft}
use Rattle.book.proofs.Book.hours.Given as goal

abbrev pub invariant-loop-date : goal.invariant-loop-date
invariant-loop-date l = HoursLeft l.initial.self l.s l.self l.taken.bytes l.taken.records

abbrev pub decreases-loop-date : goal.decreases-loop-date
decreases-loop-date l = length l.s - l.taken.bytes
