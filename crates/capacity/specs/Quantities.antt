-- The values of the types InstalledWatts and UnforcedWatts.
use Rattle.std.specs.Prelude.{List, ℕ, pos, ℤ, get_or}
use Rattle.capacity.specs.declared.InstalledWatts.{InstalledWatts}
use Rattle.capacity.specs.declared.UnforcedWatts.{UnforcedWatts}

abbrev pub installed_watts : ℕ → InstalledWatts
installed_watts w = record { 0 = w }

abbrev pub unforced_watts : ℤ → UnforcedWatts
unforced_watts w = record { 0 = w }

-- party p's watts of an array
abbrev pub watts_of : List UnforcedWatts → ℕ → ℤ
watts_of l p = (get_or l p (unforced_watts (pos 0))).0
