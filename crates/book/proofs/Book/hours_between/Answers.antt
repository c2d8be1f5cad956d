use Rattle.std.proofs.Common.{arith, sym, ◌∙◌, ap, ◌+◌}
use Rattle.book.specs.Runs.{Run, run}
use Rattle.book.proofs.HourRuns.{some_between, none_between, hours_ended}
use Rattle.book.proofs.Book.hours_between.Goals as goal

pub returns-then-end-from-clause-value : goal.returns-then-end-from-clause-value
returns-then-end-from-clause-value c = sym (none_between c.args.self.now c.args.s.now c.args.from c.args.to (omega (arith, c.if-end-from.true, c.min-end.ensures)))

pub returns-clause-value : goal.returns-clause-value
returns-clause-value c =
    ap (λ (r : Run). run (c.args.from + r.next) r.count r.book) c.hours.ensures
    ∙ sym (some_between c.args.self.now c.args.s.now c.args.from c.args.to (omega (arith, c.if-end-from.false, c.min-end.ensures)) (omega (arith, c.min-end.ensures)))

pub returns-clause-inside : goal.returns-clause-inside
returns-clause-inside c = omega (arith, hours_ended _ _ c.hours.ensures, c.if-end-from.false, c.min-end.ensures)
