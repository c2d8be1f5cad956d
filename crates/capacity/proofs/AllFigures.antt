-- The definitions give figures e to g.
use Rattle.std.proofs.Common.{refl}
use Rattle.numbers.specs.Rows.{EachGiven}
use Rattle.capacity.specs.Shortfall.{unforced, peak_rated, available, quarters, limit, limited, unit_shortfall, unit_limit, limited_shortfall}
use Rattle.capacity.specs.Figures.{CapacityGiven, capacity_rows}

pub capacity_figures : EachGiven CapacityGiven capacity_rows
unfolding unforced peak_rated available quarters limit limited unit_shortfall unit_limit limited_shortfall
capacity_figures = (refl, (refl, (refl, (refl, (refl, (refl, (refl, tt)))))))
