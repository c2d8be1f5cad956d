-- The texts of numbers are the library's.
use Rattle.std.proofs.Common.{◌≡◌, ap, ◌∙◌, List, ◌++◌, ◌∷◌, ℕ, suc, ◌+◌, ◌^◌, ◌<◌, ℤ, pos, negsuc, arith, lt-ltb, le-ltb, get_or}
use Rattle.std.proofs.Common.{w64, to_z, of_z, to_z-of_z, add-one}
use Rattle.std.proofs.lemmas.List.{append_assoc}
use Rattle.std.specs.Fmt as std
use Rattle.std.proofs.lemmas.Fmt.{AppendsLastDigit, decimal_from_appends, length-decimal-le_succ}
use lib.Signed.{mag}
use Rattle.money.specs.declared.Cents.{Cents}
use Rattle.money.specs.Quantities.{cents}
use Rattle.report.specs.Printed.{digits_of, decimal, signed, party_lines, unless_zero}

appends : AppendsLastDigit digits_of
unfolding digits_of
appends = record {
  one = λ k n h. rw (lt-ltb n 10 h);
  more = λ k n h. rw (le-ltb n 10 h);
}

pub std_decimal : (n : ℕ) → n < 2 ^ 64 → decimal n ≡ std.decimal n
unfolding decimal
std_decimal n h = decimal_from_appends digits_of appends (suc n) n h (omega (arith, length-decimal-le_succ n h))

pub std_signed : (z : ℤ) → mag z < 2 ^ 63 → signed z ≡ std.signed_decimal z
std_signed (pos n) h = std_decimal n (omega arith)
std_signed (negsuc n) h = ap (λ (l : List ℕ). 45 ∷ l) (std_decimal (suc n) (omega arith))

-- the line of one party more
pub lines_more : (before : List ℕ) (area : ℕ) (lines : List Cents) (p : ℕ) {out new : List ℕ} {v : ℤ} → out ≡ before ++ party_lines area lines p
    → v ≡ (get_or lines p (cents (pos 0))).0 → mag v < 2 ^ 63 → new ≡ out ++ unless_zero area (p + 1) (to_z w64 (of_z w64 v))
    → new ≡ before ++ party_lines area lines (p + 1)
unfolding party_lines
lines_more before area lines p same value fits put =
    put ∙ rw (same, to_z-of_z {w = w64} (record { sfits = fits }), value, add-one p)
    (append_assoc before (party_lines area lines p) (unless_zero area (suc p) (get_or lines p (cents (pos 0))).0))
