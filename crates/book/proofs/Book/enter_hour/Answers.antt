use Rattle.std.proofs.Common.{refl, sym, ap, ◌∙◌, take}
use Rattle.book.specs.Entered.{Answer}
use Rattle.book.specs.Seen.{seen}
use Rattle.book.proofs.Answers.{no_row, not_taken, accepted, sound_after}
use Rattle.book.proofs.HourRuns.{no_area_lem, no_hour, an_hour, hour_is, refused, taken}
use Rattle.book.proofs.Book.enter_hour.Goals as goal

pub returns-in_default-clause-value : goal.returns-in_default-clause-value
returns-in_default-clause-value c = no_hour c.args.self.now c.args.s.now (sym c.in_default.is ∙ c.first_hour.ensures)

pub returns-then-is_err-clause-value : goal.returns-then-is_err-clause-value
returns-then-is_err-clause-value c =
    let b = seen c.self.inside in
    let s = c.args.s.now in
    let first = an_hour s c.in-Some.ensures in
    rw (← c.self.view_is)
    (refused _ b s first
    (not_taken b (take 12 s) (hour_is s first) no_area_lem c.index-j.ensures.value c.new-asked.ensures c.admit_hour.result c.admit_hour.ensures
    (sym c.is_err.ensures.value ∙ c.if-is_err.true)))

pub returns : goal.returns
returns c =
    let b = seen c.self.inside in
    let s = c.args.s.now in
    let first = an_hour s c.in-Some.ensures in
    let passed = no_row c.admit_hour.result (sym c.is_err.ensures.value ∙ c.if-is_err.false) ∙ c.admit_hour.ensures in
    let e = accepted b (take 12 s) (hour_is s first) no_area_lem c.index-j.ensures.value c.new-asked.ensures passed refl (rw (c.with_hour.ensures, c.index-j.ensures.value)) in
    rw (← c.self.view_is) (record { value = taken _ b s first e; book = ap (λ (x : Answer). x.book) e })

pub invariant_of-self : goal.invariant_of-self
invariant_of-self c =
    let s = c.args.s.now in
    let passed = no_row c.admit_hour.result (sym c.is_err.ensures.value ∙ c.if-is_err.false) ∙ c.admit_hour.ensures in
    sound_after (seen c.self.inside) (take 12 s) (hour_is s (an_hour s c.in-Some.ensures)) no_area_lem c.index-j.ensures.value c.new-asked.ensures
    c.self.invariant passed refl (rw (c.with_hour.ensures, c.index-j.ensures.value))
