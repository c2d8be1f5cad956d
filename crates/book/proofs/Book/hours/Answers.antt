use Rattle.std.proofs.Common.{arith}
use Rattle.book.proofs.HourRuns.{rest_is, begins, lies_inside, goes_on, stops}
use Rattle.book.proofs.Book.hours.Goals as goal

pub loop-date-init : goal.loop-date-init
loop-date-init c = begins c.args.self.now c.args.s.now

pub returns-then-bytes-eq0 : goal.returns-then-bytes-eq0
returns-then-bytes-eq0 c =
    let none = c.if-bytes-eq0.true in
    let is = rw (rest_is c.args.s.now c.loop-date.taken.bytes) at c.enter_next-bytes.ensures.value in
    rw (rw none at c.enter_next-bytes.ensures.book) (stops c.loop-date.invariant is none)

pub overflow_add-taken : goal.overflow_add-taken
overflow_add-taken c =
    let is = rw (rest_is c.args.s.now c.loop-date.taken.bytes) at c.enter_next-bytes.ensures.value in
    omega (arith, lies_inside c.loop-date.invariant is c.if-bytes-eq0.false)

pub loop-date-smaller : goal.loop-date-smaller
loop-date-smaller c =
    let is = rw (rest_is c.args.s.now c.loop-date.taken.bytes) at c.enter_next-bytes.ensures.value in
    omega (arith, lies_inside c.loop-date.invariant is c.if-bytes-eq0.false, c.if-bytes-eq0.false)

pub loop-date-preserved : goal.loop-date-preserved
loop-date-preserved c =
    let some = c.if-bytes-eq0.false in
    let is = rw (rest_is c.args.s.now c.loop-date.taken.bytes) at c.enter_next-bytes.ensures.value in
    goes_on c.loop-date.invariant is some (rw (rest_is c.args.s.now c.loop-date.taken.bytes) at c.enter_next-bytes.ensures.book)
