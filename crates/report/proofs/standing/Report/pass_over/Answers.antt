use Rattle.std.proofs.Common.{◌+◌, arith, length-take-le, ◌∙◌, sym, refl}
use Rattle.report.specs.Passes.{state_of}
use Rattle.report.proofs.Passing.{Counted, any_text, begins, full, counted_hours, not_whole, broken_rest, is_broken_lem, whole_rest, is_whole}
use Rattle.report.proofs.standing.Report.pass_over.Given.{Over}
use Rattle.report.proofs.standing.Report.pass_over.Goals as goal
use Rattle.report.proofs.standing.Report.pass_over.Goals.{After-take_hours-at}

pub loop-at-init : goal.loop-at-init
loop-at-init g c = (begins (g.B.Buffer.size c.args.out.now) c.args.s.now (state_of c.args.self.now (g.B.Buffer.text c.args.out.now)), (refl, refl))

pub returns-then-room-lt-ROOM-clause-value : goal.returns-then-room-lt-ROOM-clause-value
returns-then-room-lt-ROOM-clause-value g c = full _ _ _ _ _ c.loop-at.invariant.0 (omega (arith, c.loop-at.invariant.1))

-- after the hours at a place, with room for an answer
here : (g : Over) (c : After-take_hours-at g)
    → Counted (g.B.Buffer.size c.args.out.now) c.args.s.now (state_of c.args.self.now (g.B.Buffer.text c.args.out.now))
    (state_of c.take_hours-at.new.self (g.B.Buffer.text c.loop-at.out)) (c.loop-at.at + c.take_hours-at.result)
here g c = counted_hours _ _ _ _ _ c.loop-at.invariant.0 (omega (arith, c.loop-at.invariant.1)) (any_text _ _ _ _ c.take_hours-at.ensures)

pub returns-in-Partial-clause-value : goal.returns-in-Partial-clause-value
returns-in-Partial-clause-value g c =
    not_whole _ _ _ _ _ (here g (goal.at.returns-in-Partial-clause-value g c).After-take_hours-at) (sym c.next_record.ensures ∙ c.in-Partial.is)

pub returns-in-Partial-clause-left : goal.returns-in-Partial-clause-left
returns-in-Partial-clause-left g c =
    let counted = here g (goal.at.returns-in-Partial-clause-left g c).After-take_hours-at in (counted.there, omega (arith, counted.counts))

pub try_record-requires : goal.try_record-requires
try_record-requires g c =
    let counted = here g (goal.at.try_record-requires g c).After-take_hours-at in
    let few = broken_rest _ _ _ _ _ counted (sym c.next_record.ensures ∙ c.in-Broken.is) in
    record { fits = omega (arith, few); has_room = omega (arith, counted.has_room) }

pub returns-in-Broken-clause-value : goal.returns-in-Broken-clause-value
returns-in-Broken-clause-value g c =
    (is_broken_lem _ _ _ _ _ (here g (goal.at.returns-in-Broken-clause-value g c).After-take_hours-at) (sym c.next_record.ensures ∙ c.in-Broken.is)
    c.try_record.ensures.value).0

pub returns-in-Broken-clause-left : goal.returns-in-Broken-clause-left
returns-in-Broken-clause-left g c =
    (is_broken_lem _ _ _ _ _ (here g (goal.at.returns-in-Broken-clause-left g c).After-take_hours-at) (sym c.next_record.ensures ∙ c.in-Broken.is)
    c.try_record.ensures.value).1

pub slice_bounds-try_record-end : goal.slice_bounds-try_record-end
slice_bounds-try_record-end g c =
    let (least, inside, most, few) = whole_rest _ _ _ _ _ (here g (goal.at.slice_bounds-try_record-end g c).After-take_hours-at) _ (sym c.next_record.ensures ∙ c.in-Whole.is) in
    sym (length-take-le _ _ most)

pub try_record-requires-in-Whole : goal.try_record-requires-in-Whole
try_record-requires-in-Whole g c =
    let counted = here g (goal.at.try_record-requires-in-Whole g c).After-take_hours-at in
    let (least, inside, most, few) = whole_rest _ _ _ _ _ counted _ (sym c.next_record.ensures ∙ c.in-Whole.is) in
    record { fits = omega (arith, few, least); has_room = omega (arith, counted.has_room) }

pub overflow_add-at-in-Whole : goal.overflow_add-at-in-Whole
overflow_add-at-in-Whole g c =
    let counted = here g (goal.at.overflow_add-at-in-Whole g c).After-take_hours-at in
    omega (arith, whole_rest _ _ _ _ _ counted _ (sym c.next_record.ensures ∙ c.in-Whole.is))

pub loop-at-smaller : goal.loop-at-smaller
loop-at-smaller g c =
    let counted = here g (goal.at.loop-at-smaller g c).After-take_hours-at in
    omega (arith, whole_rest _ _ _ _ _ counted _ (sym c.next_record.ensures ∙ c.in-Whole.is))

pub loop-at-preserved : goal.loop-at-preserved
loop-at-preserved g c =
    let counted = here g (goal.at.loop-at-preserved g c).After-take_hours-at in
    let (size, place) = c.loop-at.invariant.1 in
    let tried = c.try_record-in-Whole.ensures in
    (is_whole _ _ _ _ _ counted _ (sym c.next_record.ensures ∙ c.in-Whole.is) tried.value, (tried.stays.0 ∙ size, tried.stays.1 ∙ place))
