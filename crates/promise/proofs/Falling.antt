-- A unit's hours, newest first, each later than the one before it: two such lists with the same set of records are the same.
use Rattle.std.proofs.Common.{◌≡◌, refl, sym, ap, ◌∙◌, ◌⊎◌, inl, inr, ◌↔◌, List, [], ◌∷◌, ℕ, ◌≤◌, ◌<◌, arith}
use mathlib.Core.List.Memᴰ
use mathlib.Core.List.{Memᴰ}
use Rattle.records.specs.declared.format.HourRecord.{HourRecord}
use Rattle.rules.specs.Hours.{hour_index}
use Rattle.promise.specs.Reckoning.{last_index}

module _ (y : ℕ) where
  abbrev pub Falling : List HourRecord → Type 0
  Falling [] = Unit {0}
  Falling (h ∷ hs) = (last_index y hs < hour_index y h) × Falling hs

  -- no hour of the list is later than its first
  member_most : (hs : List HourRecord) → Falling hs → (h : HourRecord) → Memᴰ h hs → hour_index y h ≤ last_index y hs
  unfolding last_index
  member_most [] f h m = absurd (Memᴰ.not-nil m)
  member_most (k ∷ hs) f h m = go (Memᴰ.cases_cons m) (member_most hs f.1 h)
    where
      go : (h ≡ k) ⊎ Memᴰ h hs → (Memᴰ h hs → hour_index y h ≤ last_index y hs) → hour_index y h ≤ hour_index y k
      go (inl e) earlier = rw e (omega arith)
      go (inr n) earlier = omega (arith, f.0, earlier n)

  -- the first of a list that is in another one is not later than its first
  same_first : (h k : HourRecord) (hs ks : List HourRecord) → Falling (h ∷ hs) → Falling (k ∷ ks) → Memᴰ h (k ∷ ks) → Memᴰ k (h ∷ hs) → h ≡ k
  same_first h k hs ks f g m n = go (Memᴰ.cases_cons m) (Memᴰ.cases_cons n)
    where
      go : (h ≡ k) ⊎ Memᴰ h ks → (k ≡ h) ⊎ Memᴰ k hs → h ≡ k
      go (inl e) j = e
      go (inr i) (inl e) = sym e
      go (inr i) (inr j) = absurd (omega (arith, f.0, g.0, member_most ks g.1 h i, member_most hs f.1 k j))

  -- a record of the rest is not the first
  rest_of : (h k : HourRecord) (hs ks : List HourRecord) → h ≡ k → Falling (h ∷ hs) → (x : HourRecord) → Memᴰ x hs → Memᴰ x (k ∷ ks) → Memᴰ x ks
  rest_of h k hs ks e f x m n = go (Memᴰ.cases_cons n)
    where
      go : (x ≡ k) ⊎ Memᴰ x ks → Memᴰ x ks
      go (inl q) = let i : hour_index y x ≡ hour_index y h = ap (hour_index y) (q ∙ sym e) in absurd (omega (arith, f.0, member_most hs f.1 x m))
      go (inr j) = j

  -- strictly increasing hours with the same set are the same hours
  pub same_hours : (hs ks : List HourRecord) → Falling hs → Falling ks → ((h : HourRecord) → Memᴰ h hs ↔ Memᴰ h ks) → hs ≡ ks
  same_hours [] [] f g same = refl
  same_hours [] (k ∷ ks) f g same = absurd (Memᴰ.not-nil ((same k).1 (Memᴰ.head refl)))
  same_hours (h ∷ hs) [] f g same = absurd (Memᴰ.not-nil ((same h).0 (Memᴰ.head refl)))
  same_hours (h ∷ hs) (k ∷ ks) f g same =
      let e : h ≡ k = same_first h k hs ks f g ((same h).0 (Memᴰ.head refl)) ((same k).1 (Memᴰ.head refl)) in
      let rest : hs ≡ ks = same_hours hs ks f.1 g.1 (λ x. (
        λ m. rest_of h k hs ks e f x m ((same x).0 (Memᴰ.tail m)),
        λ m. rest_of k h ks hs (sym e) g x m ((same x).1 (Memᴰ.tail m)),
      )) in
      rw (e, rest)
