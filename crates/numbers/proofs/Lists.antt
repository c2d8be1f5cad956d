-- Laws of lists by their elements, and of a loop that fills an array from its start.
use Rattle.std.proofs.Common.{◌≡◌, refl, sym, ap, ◌∙◌, List, [], ◌∷◌, ◌++◌, Bool, true, false, cond, ℕ, zero, suc, ◌+◌, ◌≤◌, ◌<◌, not-suc-le-zero}
use Rattle.std.proofs.Common.{add-zero, add-one, arith, ltb, eqb, length, get_or, set, take, length-append, length-set, take-suc-set}
use Rattle.std.proofs.Common.{get_or-append-add, get_or-set_same, get_or-set_other, ltb-true, ltb-false, eqb-true}
use lib.ListN.{get_or-append, get_or-eq_default}
use borrow.Author.Tests.{eqb-false}
use Rattle.std.proofs.Common.{map, replicate}
use Rattle.std.specs.List.{range_with_len}
use Rattle.std.proofs.lemmas.List.{replicate_more}
use Rattle.std.proofs.lemmas.List.FromFn.{map-range_with_len_more}
use Rattle.numbers.specs.Sum.{sum_below}
use Rattle.numbers.specs.Lists.{list_below, element}
use Rattle.numbers.proofs.Sums.{sum_same}

module _ {A : Type 0} where
  pub length_below : (n : ℕ) (f : ℕ → A) → length (list_below n f) ≡ n
  unfolding list_below
  length_below zero f = refl
  length_below (suc n) f = simp (length-append, length_below n f) (add-one n)

  pub element_below : (n : ℕ) (f : ℕ → A) (k : ℕ) (d : A) → k < n → get_or (list_below n f) k d ≡ f k
  unfolding list_below
  element_below zero f k d h = absurd (not-suc-le-zero h)
  element_below (suc n) f k d h = go (ltb k n) refl (element_below n f k d)
    where
      go : (t : Bool) → ltb k n ≡ t → (k < n → get_or (list_below n f) k d ≡ f k) → get_or (list_below n f ++ (f n ∷ [])) k d ≡ f k
      go true q earlier =
          let b : k < length (list_below n f) = rw (length_below n f) (ltb-true k n q) in
          get_or-append (list_below n f) (f n ∷ []) d k b ∙ earlier (ltb-true k n q)
      go false q earlier =
          let e : k ≡ n = omega (arith, ltb-false k n q) in
          let l : k ≡ length (list_below n f) + 0 = e ∙ sym (length_below n f) ∙ sym (add-zero (length (list_below n f))) in
          ap (λ (j : ℕ). get_or (list_below n f ++ (f n ∷ [])) j d) l ∙ get_or-append-add (list_below n f) (f n ∷ []) 0 d ∙ ap f (sym e)

  -- the same elements make the same list
  pub list_same : (n : ℕ) (f g : ℕ → A) → ((k : ℕ) → k < n → f k ≡ g k) → list_below n f ≡ list_below n g
  unfolding list_below
  list_same zero f g h = refl
  list_same (suc n) f g h = rw (list_same n f g (λ k b. h k (omega arith)), h n (omega arith))

  -- the first i places of out, of n, hold what f gives
  pub record Filled (n : ℕ) (f : ℕ → A) (out : List A) (i : ℕ) : Type 0 where
    pub inside : i ≤ n
    pub long : length out ≡ n
    pub made : take i out ≡ list_below i f

  module _ {n : ℕ} {f : ℕ → A} {out : List A} where
    pub filled_none : length out ≡ n → Filled n f out 0
    unfolding list_below
    filled_none l = record { inside = omega arith; long = l; made = refl }

    pub filled_more : {i : ℕ} {v : A} → Filled n f out i → i < n → v ≡ f i → Filled n f (set out i v) (i + 1)
    unfolding list_below
    filled_more {i} {v} h b e =
        record {
          inside = omega arith;
          long = length-set out i v ∙ h.long;
          made = rw (add-one i, take-suc-set out i v (omega (arith, h.long)), h.made, e);
        }

pub sum_filled : (f : ℕ → ℕ) {l : List ℕ} → l ≡ list_below 16 f → sum_below 16 (element l) ≡ sum_below 16 f
sum_filled f e = rw e (sum_same 16 (element (list_below 16 f)) f (λ k h. element_below 16 f k 0 h))

-- an element after a store
pub stored_at : {A : Type 0} (l : List A) (i k : ℕ) (x d : A) → i < length l → get_or (set l i x) k d ≡ cond (eqb k i) x (get_or l k d)
stored_at l i k x d h = go (eqb k i) refl
  where
    go : (t : Bool) → eqb k i ≡ t → get_or (set l i x) k d ≡ cond t x (get_or l k d)
    go true q = rw (eqb-true k i q) (get_or-set_same l i x d h)
    go false q = get_or-set_other l i k x d (eqb-false k i q)

-- what holds of the default and of every value of a list holds at every index, past the list's end too
module _ {A : Type 0} (P : A → Type 0) (d : A) where
  pub each_made : (n : ℕ) (f : ℕ → A) → P d → ((k : ℕ) → k < n → P (f k)) → (k : ℕ) → P (get_or (list_below n f) k d)
  each_made n f end all k = go (ltb k n) refl
    where
      go : (t : Bool) → ltb k n ≡ t → P (get_or (list_below n f) k d)
      go true q = rw (element_below n f k d (ltb-true k n q)) (all k (ltb-true k n q))
      go false q =
          let past : length (list_below n f) ≤ k = rw (length_below n f) (ltb-false k n q) in
          rw (get_or-eq_default (list_below n f) d {n = k} past) end

  -- also after a store
  pub each_stored : (l : List A) (i : ℕ) (x : A) → P x → ((k : ℕ) → P (get_or l k d)) → (k : ℕ) → P (get_or (set l i x) k d)
  each_stored [] i x new old k = old k
  each_stored (y ∷ l) zero x new old zero = new
  each_stored (y ∷ l) zero x new old (suc k) = old (suc k)
  each_stored (y ∷ l) (suc i) x new old zero = old zero
  each_stored (y ∷ l) (suc i) x new old (suc k) = each_stored l i x new (λ j. old (suc j)) k

-- list_below makes what the library makes of a function
pub list_below-is : {A : Type 0} (n : ℕ) (f : ℕ → A) → list_below n f ≡ map f (range_with_len 0 n)
unfolding list_below
list_below-is zero f = refl
list_below-is (suc n) f =
    rw (list_below-is n f)
    (sym (map-range_with_len_more f 0 n n (omega arith)) ∙ ap (λ (m : ℕ). map f (range_with_len 0 m)) (add-one n))

-- and so does a list that is filled with one value
pub list_below-replicate : {A : Type 0} (n : ℕ) (x : A) → replicate n x ≡ list_below n (λ k. x)
unfolding list_below
list_below-replicate zero x = refl
list_below-replicate (suc n) x = ap (λ (m : ℕ). replicate m x) (sym (add-one n)) ∙ sym (replicate_more n x) ∙ rw (list_below-replicate n x)
