-- What a test that passed says: of its parts, of a range, and of all numbers below n by one test that antt computes.
use Rattle.std.proofs.Common.{◌≡◌, refl, sym, ◌∙◌, Bool, true, false, ◌&&◌, cond, ℕ, zero, suc, ◌≤◌, ◌<◌}
use Rattle.std.proofs.Common.{not-suc-le-zero, arith, leb, eqb, ltb, eqb-true, leb-true, le-leb, ne_eqb, lt-ltb, eq-eqb}
use mathlib.Core.Bool.{and-eq-true_iff}
use borrow.Author.Tests.{eqb-false}
use Rattle.numbers.specs.Range.{within}

pub within_from : (first last x : ℕ) → within first last x ≡ true → first ≤ x
unfolding within
within_from first last x e = leb-true first x ((and-eq-true_iff (leb first x) (leb x last)).0 e).0

pub within_to : (first last x : ℕ) → within first last x ≡ true → x ≤ last
unfolding within
within_to first last x e = leb-true x last ((and-eq-true_iff (leb first x) (leb x last)).0 e).1

pub within_holds : (first last x : ℕ) → first ≤ x → x ≤ last → within first last x ≡ true
unfolding within
within_holds first last x from to = simp (le-leb first x from, le-leb x last to)

-- the test t passes at every number below n
unfoldable pub all_below : ℕ → (ℕ → Bool) → Bool
all_below zero t = true
all_below (suc n) t = t n && all_below n t

pub each_below : (n : ℕ) (t : ℕ → Bool) → all_below n t ≡ true → (k : ℕ) → k < n → t k ≡ true
unfolding all_below
each_below zero t e k h = absurd (not-suc-le-zero h)
each_below (suc n) t e k h = go (eqb k n) refl (each_below n t ((and-eq-true_iff (t n) (all_below n t)).0 e).1 k)
  where
    go : (b : Bool) → eqb k n ≡ b → (k < n → t k ≡ true) → t k ≡ true
    go true q below = rw (eqb-true k n q) ((and-eq-true_iff (t n) (all_below n t)).0 e).0
    go false q below = let ne : (k ≡ n → ⊥) = eqb-false k n q in below (omega arith)

-- what a flag that was tested says of the test's definition
pub flag : {f t v : Bool} → f ≡ t → f ≡ v → t ≡ v
flag e taken = sym e ∙ taken

-- a test that passed leaves the next one; one that failed ends the row
pub passed : {t u : Bool} → t ≡ true → u ≡ (t && u)
passed e = rw e

pub failed : {t : Bool} (u : Bool) → t ≡ false → false ≡ (t && u)
failed u e = rw e

-- a choice by a test that passed, and by one that failed
pub chosen : {A : Type 0} {t : Bool} {a : A} (b : A) → t ≡ true → a ≡ cond t a b
chosen b e = rw e

pub refused : {A : Type 0} {t : Bool} (a : A) {b : A} → t ≡ false → b ≡ cond t a b
refused a e = rw e

pub both_true : {a b : Bool} → (a && b) ≡ true → (a ≡ true) × (b ≡ true)
both_true {a} {b} q = (and-eq-true_iff a b).0 q

-- a row of tests that passed begins with a bound
pub at_most_and : {a b : ℕ} {t : Bool} → (leb a b && t) ≡ true → (a ≤ b) × (t ≡ true)
at_most_and {a} {b} q = let (le, rest) = both_true q in (leb-true a b le, rest)

-- a test of numbers that calls gave, told of their definitions
pub below_of : {x y a b : ℕ} → x ≡ a → y ≡ b → x < y → ltb a b ≡ true
below_of p q h = rw (sym p, sym q) (lt-ltb _ _ h)

-- a test of equal numbers, either way round
pub flipped : (m n : ℕ) → eqb m n ≡ eqb n m
flipped m n = go (eqb m n) refl
  where
    go : (t : Bool) → eqb m n ≡ t → t ≡ eqb n m
    go true q = sym (eq-eqb n m (sym (eqb-true m n q)))
    go false q = sym (ne_eqb n m (λ e. eqb-false m n q (sym e)))
