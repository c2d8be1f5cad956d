-- Strings among which no Owner is leave every unit without an owner.
use Rattle.std.proofs.Common.{◌≡◌, refl, ap, ◌∙◌, Bool, true, false, cond, List, [], ◌∷◌, ℕ, eqb, Ok}
use mathlib.Core.List.{Memᴰ}
use Rattle.records.specs.declared.format.OwnerRecord.{OwnerRecord}
use Rattle.records.specs.declared.format.Record.TheVariants.{Hour}
use Rattle.records.specs.Format.{owner_format}
use Rattle.records.specs.Kinds.{Decoded, is_of}
use Rattle.records.specs.Decoded.{decoded}
use Rattle.rules.proofs.Owners.{unowned}
use Rattle.promise.specs.Reckoning.{latest_owner, owner_of, facts_of_list, number_for, joined, accepted_with, accepted_of}
use Rattle.promise.specs.Laws.{facts_after, WithoutOwners}
use Rattle.promise.proofs.OneMore.{joined_keeps}

-- with one record more that is none, and with one string more
other_owner : (acc : List Decoded) (r : Decoded) (u : ℕ) → is_of owner_format r ≡ false → latest_owner (r ∷ acc) u ≡ latest_owner acc u
unfolding latest_owner
other_owner acc r u other = rw other

unowned_next : (acc : List Decoded) (s : List ℕ) → is_of owner_format (decoded s) ≡ false → (u : ℕ) → owner_of acc u ≡ 0 → owner_of (accepted_with acc s) u ≡ 0
unfolding accepted_with
unowned_next acc s other u none = go (eqb (number_for acc s) 0)
  where
    go : (t : Bool) → owner_of (cond t (joined acc (decoded s)) acc) u ≡ 0
    go true = ap (λ (o : OwnerRecord). o.party) (joined_keeps (λ l. latest_owner l u) (λ h l. other_owner l (Ok (Hour h)) u refl) acc (decoded s) (λ q. other_owner acc (decoded s) u other)) ∙ none
    go false = none

unowned_from : (acc : List Decoded) → ((u : ℕ) → owner_of acc u ≡ 0) → (ss : List (List ℕ))
    → ((s : List ℕ) → Memᴰ s ss → is_of owner_format (decoded s) ≡ false) → (u : ℕ) → owner_of (accepted_of acc ss) u ≡ 0
unfolding accepted_of
unowned_from acc none [] without u = none u
unowned_from acc none (s ∷ ss) without u =
    unowned_from (accepted_with acc s) (λ v. unowned_next acc s (without s (Memᴰ.head refl)) v (none v)) ss (λ t i. without t (Memᴰ.tail i)) u

pub without_owners : WithoutOwners
unfolding facts_of_list latest_owner
without_owners ss without = unowned (facts_after ss) (unowned_from [] (λ u. refl) ss without)
