use Rattle.std.proofs.Common.{arith, []}
use Rattle.report.specs.Passes.{state_of}
use Rattle.book.proofs.HourRuns.{hours_ended}
use Rattle.report.proofs.Passing.{hours_counted}
use Rattle.report.proofs.standing.Report.take_hours.Goals as goal

pub overflow_add-self : goal.overflow_add-self
overflow_add-self c = omega (arith, hours_ended _ _ c.hours-taken.ensures, c.requires)

pub overflow_add-self-2 : goal.overflow_add-self-2
overflow_add-self-2 c = omega (arith, hours_ended _ _ c.hours-taken.ensures, c.requires)

pub returns : goal.returns
returns c = hours_counted (state_of c.args.self.now []) _ c.hours-taken.ensures
