-- The reckoning's lines add up to what it calls paid.
use Rattle.std.proofs.Common.{refl, sym, ◌∙◌, ◌+◌, ◌-ℤ◌, eq-eqb}
use lib.IntN.{+ℤ_comm, -ℤ-+ℤ_cancel}
use Rattle.money.specs.Lines.{line}
use Rattle.promise.specs.Reckoning.{reckoned_due, reckoned_paid, reckoned_line}
use Rattle.promise.specs.Laws.{LinesAddUp}

pub lines_add_up : LinesAddUp
unfolding reckoned_paid reckoned_line line
lines_add_up acc a p =
    rw (eq-eqb (a + 1) (a + 1) refl)
    (sym (+ℤ_comm (reckoned_paid acc a p) (reckoned_due acc a p -ℤ reckoned_paid acc a p) ∙ -ℤ-+ℤ_cancel (reckoned_due acc a p) (reckoned_paid acc a p)))
