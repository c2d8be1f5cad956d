-- What the rows of refusal say of a record that none of them fits, and of one that the frame refuses.
use Rattle.std.proofs.Common.{◌≡◌, refl, Bool, true, false, ℕ, suc, arith, Err}
use borrow.Author.Tests.{not-false}
use Rattle.records.specs.declared.format.Fault.{Fault}
use Rattle.records.specs.declared.format.Fault.TheVariants.{Broken, UnknownTag, WrongLength}
use Rattle.records.specs.Kinds.{Decoded, fault_number}
use Rattle.rules.specs.declared.refusal.Asked.{Asked}
use Rattle.rules.specs.Refusal.{row, refusal_of, has_fault, no_year, second_year, out_of_range, in_range, not_entered, second_unit, derated_out, not_later}
use Rattle.rules.specs.Refusal.{undistributed}

-- a row that was passed: it does not fit, and the rows after it give 0 too
passed_row : (n : ℕ) (t : Bool) {x : ℕ} → row (suc n) t x ≡ 0 → (t ≡ false) × (x ≡ 0)
passed_row n true e = absurd (omega (arith, e))
passed_row n false e = (refl, e)

-- rows 4 to 11
pub record Accepted (a : Asked) (r : Decoded) : Type 0 where
  pub has_year : no_year a r ≡ false
  pub first_year : second_year a r ≡ false
  pub in_range_lem : in_range a.year r ≡ true
  pub entered : not_entered a r ≡ false
  pub first_unit : second_unit a r ≡ false
  pub not_out : derated_out a r ≡ false
  pub later : not_later a r ≡ false
  pub distributed : undistributed a r ≡ false

pub accepted : (a : Asked) (r : Decoded) → refusal_of a r ≡ 0 → Accepted a r
unfolding refusal_of
accepted a r e =
    let row3 = passed_row 2 (has_fault 3 r) (passed_row 1 (has_fault 2 r) (passed_row 0 (has_fault 1 r) e).1).1 in
    let row4 = passed_row 3 (no_year a r) row3.1 in
    let row5 = passed_row 4 (second_year a r) row4.1 in
    let row6 = passed_row 5 (out_of_range a r) row5.1 in
    let row7 = passed_row 6 (not_entered a r) row6.1 in
    let row8 = passed_row 7 (second_unit a r) row7.1 in
    let row9 = passed_row 8 (derated_out a r) row8.1 in
    let row10 = passed_row 9 (not_later a r) row9.1 in
    record {
      has_year = row4.0;
      first_year = row5.0;
      in_range_lem = not-false (in_range a.year r) row6.0;
      entered = row7.0;
      first_unit = row8.0;
      not_out = row9.0;
      later = row10.0;
      distributed = (passed_row 10 (undistributed a r) row10.1).0;
    }

-- a fault's number is that of its row
pub fault_row : (a : Asked) (f : Fault) → fault_number f ≡ refusal_of a (Err f)
unfolding fault_number refusal_of
fault_row a Broken = refl
fault_row a UnknownTag = refl
fault_row a WrongLength = refl
