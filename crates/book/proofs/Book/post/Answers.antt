use Rattle.std.proofs.Common.{refl, ◌∙◌}
use Rattle.std.proofs.lemmas.Result.{err_from_is_err_and}
use Rattle.book.specs.Books.{facts_of_book}
use Rattle.book.specs.Seen.{seen}
use Rattle.book.specs.Steps.{post_answer}
use Rattle.book.proofs.AreaMoney.{due_most_lem, distributed, left_over, lines_posted, posted_after_lem}
use Rattle.book.proofs.Soundness.{with_posted_sound}
use Rattle.book.proofs.Book.post.Goals as goal

pub returns-in_err-dues : goal.returns-in_err-dues
unfolding post_answer
returns-in_err-dues c =
    let row = err_from_is_err_and c.from_residual.result c.from_residual.ensures.1 in
    rw (row.1, row.2, left_over (facts_of_book c.args.self.now) c.args.area c.in_err-dues.ensures)

pub returns : goal.returns
unfolding post_answer
returns c =
    let b = seen c.self.inside in
    let a = c.args.area in
    let settled = distributed (facts_of_book b) a (rw (← c.self.view_is) at c.in_ok-dues.ensures) in
    rw (
      ← c.self.view_is,
      settled.0,
      c.lines-lines.ensures ∙ lines_posted b c.self.invariant a c.requires settled.1 refl,
      posted_after_lem b a settled.1,
    )

pub invariant_of-self : goal.invariant_of-self
invariant_of-self c =
    let b = seen c.self.inside in
    let a = c.args.area in
    let settled = distributed (facts_of_book b) a (rw (← c.self.view_is) at c.in_ok-dues.ensures) in
    rw (posted_after_lem b a settled.1) (with_posted_sound b c.self.invariant (due_most_lem b c.self.invariant) a)
