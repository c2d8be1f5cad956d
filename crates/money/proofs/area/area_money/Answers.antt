use Rattle.numbers.specs.Lists.{list_below}
use Rattle.money.specs.AreaMoney.{money_answer}
use Rattle.numbers.proofs.Tests.{flag}
use Rattle.money.proofs.area.area_money.Goals as goal

pub returns-else-area_in_range : goal.returns-else-area_in_range
unfolding money_answer list_below
returns-else-area_in_range c = simp (flag c.area_in_range.ensures c.if-area_in_range.false)
