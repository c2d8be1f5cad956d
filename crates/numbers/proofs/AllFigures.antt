-- The definitions give figure h.
use Rattle.std.proofs.Common.{refl}
use Rattle.numbers.specs.Sum.{sum_below}
use Rattle.numbers.specs.Lists.{list_below}
use Rattle.numbers.specs.Split.{first_shares, split, with_sign, split_signed}
use Rattle.numbers.specs.Rows.{EachGiven}
use Rattle.numbers.specs.Figures.{SplitGiven, split_rows}

pub split_figures : EachGiven SplitGiven split_rows
unfolding sum_below list_below first_shares split with_sign split_signed
split_figures = (refl, (refl, tt))
