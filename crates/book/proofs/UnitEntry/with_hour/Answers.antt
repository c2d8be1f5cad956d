use Rattle.rules.specs.Hours.{counted}
use Rattle.book.proofs.UnitEntry.with_hour.Goals as goal

pub returns : goal.returns
unfolding counted
returns c = simp (c.hour_index.ensures, c.hour_counts-more.ensures.value)
