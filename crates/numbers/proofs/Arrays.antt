-- Arrays that the library makes by the calls of a closure, told by their elements: what the closure captures is as P says at each
-- call, and call number k gives h k.
use Rattle.std.proofs.Common.{◌≡◌, ◌∙◌, refl, sym, ap, subst, List, ℕ, zero, suc, ◌+◌, ◌<◌, get_or, not-suc-le-zero, arith, length}
use Rattle.std.specs.Array.{IsFromFnResult, IsFromFnResultFrom, IsMapOf, MapsFrom}
use Rattle.std.proofs.lemmas.List.{nil_from_length}
use Rattle.std.proofs.lemmas.List.FromFn.{fill_by_all}
use Rattle.std.specs.Fn.{Mut, Called}
use Rattle.numbers.specs.Lists.{list_below}
use Rattle.numbers.proofs.Lists.{list_below-is}

-- a list of n elements, each what f gives
pub listed : {A : Type 0} (n : ℕ) (f : ℕ → A) (d : A) {xs : List A} → length xs ≡ n → ((k : ℕ) → k < n → get_or xs k d ≡ f k) → xs ≡ list_below n f
listed n f d {xs} long each = fill_by_all f xs n d long each ∙ sym (list_below-is n f)

-- of `array::from_fn`
module _ {F B : Type 0} {g : Mut F (ℕ × Unit {0}) B} {n : ℕ} (P : F → Type 0) (h : ℕ → B)
    (call : (f : F) (k : ℕ) (y : B) (q : F) → k < n → P f → Called g f (k, tt) y q → (y ≡ h k) × P q) where
  made_from : (ys : List B) (m i k j : ℕ) (d : B) {f : F} → i + m ≡ n → P f → IsFromFnResultFrom g f ys i m → k < m → i + k ≡ j → get_or ys j d ≡ h j
  made_from ys zero i k j d all p each b e = absurd (not-suc-le-zero b)
  made_from ys (suc m) i zero j d {f} all p (q, y, at, called, rest) b e =
      let here : i ≡ j = omega arith in
      ap (λ (l : ℕ). get_or ys l d) (sym here) ∙ at.1 d ∙ (call f i y q (omega arith) p called).0 ∙ ap h here
  made_from ys (suc m) i (suc k) j d {f} all p (q, y, at, called, rest) b e =
      made_from ys m (i + 1) k j d (omega arith) (call f i y q (omega arith) p called).1 rest (omega arith) (omega arith)

  first_made : (m : ℕ) {f : F} {ys : List B} → m ≡ n → IsFromFnResultFrom g f ys 0 m → P f → length ys ≡ m → ys ≡ list_below m h
  unfolding list_below
  first_made zero all each p long = nil_from_length _ long
  first_made (suc m) all each p long =
      let d : B = each.1 in
      listed (suc m) h d long (λ k b. made_from _ (suc m) 0 k k d (omega arith) p each b (omega arith))

  pub from_fn-is : {f : F} {ys : List B} → P f → IsFromFnResult g f ys n → ys ≡ list_below n h
  from_fn-is p made = first_made n refl made.each p made.long

-- of an array's `map`
module _ {F A B : Type 0} {g : Mut F (A × Unit {0}) B} {n : ℕ} (P : F → Type 0) (xs : List A) (d : A) (h : ℕ → B)
    (call : (f : F) (k : ℕ) (y : B) (q : F) → k < n → P f → Called g f (get_or xs k d, tt) y q → (y ≡ h k) × P q) where
  mapped_from : (ys : List B) (m i k j : ℕ) (e : B) {f : F} → i + m ≡ n → P f → MapsFrom g f xs ys i m → k < m → i + k ≡ j → get_or ys j e ≡ h j
  mapped_from ys zero i k j e all p each b s = absurd (not-suc-le-zero b)
  mapped_from ys (suc m) i zero j e {f} all p (q, x, y, from, at, called, rest) b s =
      let here : i ≡ j = omega arith in
      ap (λ (l : ℕ). get_or ys l e) (sym here) ∙ at.1 e
      ∙ (call f i y q (omega arith) p (subst (λ (z : A). Called g f (z, tt) y q) (sym (from.1 d)) called)).0
      ∙ ap h here
  mapped_from ys (suc m) i (suc k) j e {f} all p (q, x, y, from, at, called, rest) b s =
      mapped_from ys m (i + 1) k j e (omega arith)
      (call f i y q (omega arith) p (subst (λ (z : A). Called g f (z, tt) y q) (sym (from.1 d)) called)).1
      rest (omega arith) (omega arith)

  first_mapped : (m : ℕ) {f : F} {ys : List B} → m ≡ n → MapsFrom g f xs ys 0 m → P f → length ys ≡ m → ys ≡ list_below m h
  unfolding list_below
  first_mapped zero all each p long = nil_from_length _ long
  first_mapped (suc m) all each p long =
      let e : B = each.2 in
      listed (suc m) h e long (λ k b. mapped_from _ (suc m) 0 k k e (omega arith) p each b (omega arith))

  pub map-is : {f : F} {ys : List B} → P f → IsMapOf g f xs ys n → ys ≡ list_below n h
  map-is p made = first_mapped n refl made.each p made.long
