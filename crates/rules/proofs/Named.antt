-- An index is below the number of what it counts.
use Rattle.std.proofs.Common.{◌≡◌, refl, sym, ◌∙◌, Bool, true, false, cond, ℕ, ◌+◌, ◌-◌, ◌<◌, arith, eqb, eqb-true, eq-eqb, ne_eqb}
use borrow.Author.Tests.{eqb-false}
use Rattle.numbers.specs.Range.{within}
use Rattle.numbers.proofs.Tests.{within_from, within_to}
use Rattle.rules.specs.Rules.{index}

pub index_below : (most n : ℕ) → 0 < most → index most n < most
unfolding index
index_below most n h = go (within 1 most n) refl
  where
    go : (t : Bool) → within 1 most n ≡ t → cond t (n - 1) 0 < most
    go true q = omega (arith, within_from 1 most n q, within_to 1 most n q)
    go false q = h

-- the index of a number in range is the number less 1
pub index_in_range : (most n : ℕ) → within 1 most n ≡ true → index most n ≡ n - 1
unfolding index
index_in_range most n q = rw q

-- index k is that of number n if n is k + 1
pub named_by : (most n k : ℕ) → within 1 most n ≡ true → eqb k (index most n) ≡ eqb n (k + 1)
named_by most n k ok = go (eqb n (k + 1)) refl
  where
    go : (t : Bool) → eqb n (k + 1) ≡ t → eqb k (index most n) ≡ t
    go true q = rw (index_in_range most n ok) (eq-eqb k (n - 1) (omega (arith, eqb-true n (k + 1) q)))
    go false q =
        rw (index_in_range most n ok) (ne_eqb k (n - 1) (λ e. eqb-false n (k + 1) q (omega (arith, within_from 1 most n ok, e))))

pub named_index : (most n k : ℕ) → within 1 most n ≡ true → eqb n (k + 1) ≡ true → index most n ≡ k
named_index most n k ok q = sym (eqb-true k (index most n) (named_by most n k ok ∙ q))
