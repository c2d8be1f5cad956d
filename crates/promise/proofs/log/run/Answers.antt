use Rattle.std.proofs.Common.{refl, ◌∙◌}
use Rattle.book.proofs.AreaMoney.{due_most_lem}
use Rattle.book.proofs.Soundness.{run_sound}
use Rattle.promise.specs.Logs.{strings}
use Rattle.promise.proofs.Storing.{going_more, going_book, going_numbers, going_lines}
use Rattle.promise.proofs.log.run.Goals as goal

pub loop-i-preserved : goal.loop-i-preserved
loop-i-preserved c =
    going_more c.loop-i.invariant c.loop-i-test.true refl c.between.ensures c.enter-answer.ensures (c.put_number.ensures ∙ rw c.number.ensures)
    (c.put_lines-next.ensures.lines_after ∙ rw c.amounts.ensures) (c.put_lines-next.ensures.value ∙ rw c.amounts.ensures)

pub returns : goal.returns
returns c =
    let g = c.loop-i.invariant in
    let book = going_book g c.loop-i-test.false in
    record {
      value = (book, rw book (run_sound due_most_lem (strings c.args.bytes.now c.args.ends.now)));
      numbers_after = going_numbers g c.loop-i-test.false;
      lines_after = going_lines g c.loop-i-test.false;
    }
