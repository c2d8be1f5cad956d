use Rattle.book.proofs.HourRuns.{of_hour, or_day}
use Rattle.book.proofs.Book.enter_next.Goals as goal

pub returns-then-bytes-ne0-clause-value : goal.returns-then-bytes-ne0-clause-value
returns-then-bytes-ne0-clause-value c = of_hour _ _ c.enter_hour-bytes.ensures.value c.if-bytes-ne0.true

pub returns-clause-value : goal.returns-clause-value
returns-clause-value c =
    let none = c.if-bytes-ne0.false in
    let same = rw none at c.enter_hour-bytes.ensures.book in
    or_day c.args.self.now c.args.s.now c.enter_hour-bytes.ensures.value none (rw same at c.enter_day.ensures.value)
