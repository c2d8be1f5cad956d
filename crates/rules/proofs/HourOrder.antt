-- The order of hours.
use Rattle.std.proofs.Common.{◌≡◌, refl, Bool, true, false, ◌&&◌, ◌||◌, ℕ, ◌+◌, ◌*◌, ◌≤◌, arith, eqb, ltb, ltb-true, ltb-false, eqb-true, lt-ltb}
use Rattle.std.proofs.Common.{le-ltb}
use borrow.Author.Tests.{eqb-false}
use Rattle.numbers.proofs.Tests.{within_from, within_to}
use Rattle.records.specs.declared.format.HourRecord.{HourRecord}
use Rattle.records.specs.Format.{hour_ending}
use Rattle.rules.specs.Hours.{hour_index}
use Rattle.rules.specs.Laws.{day_of}

-- numbers of a day and an hour ending, in one
by_day_then_hour : (d e h k : ℕ) → 1 ≤ h → h ≤ 24 → 1 ≤ k → k ≤ 24
    → ltb (d * 24 + h) (e * 24 + k) ≡ (ltb d e || (eqb d e && ltb h k))
by_day_then_hour d e h k h₁ h₂ k₁ k₂ = go (ltb d e) (eqb d e) (ltb h k) refl refl refl
  where
    go : (a b c : Bool) → ltb d e ≡ a → eqb d e ≡ b → ltb h k ≡ c → ltb (d * 24 + h) (e * 24 + k) ≡ (a || (b && c))
    go true b c p q r = lt-ltb (d * 24 + h) (e * 24 + k) (omega (arith, ltb-true d e p))
    go false true true p q r = lt-ltb (d * 24 + h) (e * 24 + k) (omega (arith, eqb-true d e q, ltb-true h k r))
    go false true false p q r = le-ltb (d * 24 + h) (e * 24 + k) (omega (arith, eqb-true d e q, ltb-false h k r))
    go false false c p q r = le-ltb (d * 24 + h) (e * 24 + k) (omega (arith, ltb-false d e p, eqb-false d e q))

pub hours_ordered : (y : ℕ) (h k : HourRecord) → hour_ending.holds h.hour ≡ true → hour_ending.holds k.hour ≡ true
    → ltb (hour_index y h) (hour_index y k) ≡ (ltb (day_of y h) (day_of y k) || (eqb (day_of y h) (day_of y k) && ltb h.hour k.hour))
unfolding hour_index
hours_ordered y h k p q =
    by_day_then_hour (day_of y h) (day_of y k) h.hour k.hour
    (within_from 1 24 _ p) (within_to 1 24 _ p) (within_from 1 24 _ q) (within_to 1 24 _ q)
