-- The definitions give figure i.
use Rattle.std.proofs.Common.{refl}
use Rattle.numbers.specs.Rows.{EachGiven}
use Rattle.numbers.specs.Sum.{sum_below}
use Rattle.numbers.specs.Lists.{list_below}
use Rattle.numbers.specs.Signed.{above, below}
use Rattle.numbers.specs.Split.{first_shares, split}
use Rattle.money.specs.AreaMoney.{priced, charge, ceiling, charges, ceilings, credit}
use Rattle.money.specs.Figures.{CreditGiven, credit_rows}

pub credit_figures : EachGiven CreditGiven credit_rows
unfolding sum_below list_below above below first_shares split priced charge ceiling charges ceilings credit
credit_figures = ((refl, refl, refl), tt)
