-- A record by its kind: what the rows of refusal say of an accepted one, and choices by whether it is of a format.
use Rattle.std.proofs.Common.{◌≡◌, refl, sym, subst, Bool, true, false, cond, ℕ, T, ltb}
use Rattle.records.specs.Format.{Format}
use Rattle.records.specs.Kinds.{Decoded, format_of, numbers_of, is_of}
use Rattle.records.proofs.OneKind.{made, is_made}
use Rattle.rules.specs.declared.refusal.Asked.{Asked}
use Rattle.rules.specs.Facts.{Facts}
use Rattle.rules.specs.Rules.{asked}
use Rattle.rules.proofs.Fields.{EachFits, numbers_fit_lem}
use Rattle.rules.proofs.AcceptedRows.{Accepted}

-- what holds of both branches of a choice holds of the choice
pub chosen : {A : Type 0} (P : A → Type 0) (t : Bool) {x y : A} → (t ≡ true → P x) → P y → P (cond t x y)
chosen P true h k = h refl
chosen P false h k = k

-- what holds of both branches of two choices by one test holds of the choices
pub paired : {A B : Type 0} (R : A → B → Type 0) (t : Bool) {x y : A} {u v : B} → (t ≡ true → R x u) → R y v → R (cond t x y) (cond t u v)
paired R true h k = h refl
paired R false h k = k

-- the latest of a key: a record of its kind that has the key, and what there was before
pub by_key : {A : Type 0} (P : A → Type 0) (kind key : Bool) {x old : A} → (kind ≡ true → key ≡ true → P x) → P old
    → P (cond kind (cond key x old) old)
by_key P true true h k = h refl refl
by_key P true false h k = k
by_key P false key h k = k

-- the same at each place
pub by_key_each : {A : Type 0} (P : (ℕ → A) → Type 0) (kind key : Bool) {f old : ℕ → A} → (kind ≡ true → key ≡ true → P f) → P old
    → P (λ n. cond kind (cond key (f n) (old n)) (old n))
by_key_each P true true h k = h refl refl
by_key_each P true false h k = k
by_key_each P false key h k = k

-- the rows, of what the numbers of a record of a format make
pub as_made : (F : Facts) (r : Decoded) → Accepted (asked F r) r → (f : Format) → T (ltb 0 f.tag) → is_of f r ≡ true
    → let x = made f.tag (numbers_of r) in Accepted (asked F x) x
as_made F r ok f listed q = subst (λ (x : Decoded). Accepted (asked F x) x) (is_made f r listed q) ok

-- its numbers are in range
pub fit : {a : Asked} {r : Decoded} → Accepted a r → (f : Format) → T (ltb 0 f.tag) → is_of f r ≡ true
    → let x = made f.tag (numbers_of r) in EachFits (format_of x).fields (numbers_of x)
fit {a} {r} ok f listed q =
    subst (λ (x : Decoded). EachFits (format_of x).fields (numbers_of x)) (is_made f r listed q) (numbers_fit_lem a.year r ok.in_range_lem)

-- a record of a format, and any other
pub by_kind : (P : Decoded → Type 0) (r : Decoded) (f : Format) → T (ltb 0 f.tag) → (is_of f r ≡ true → P (made f.tag (numbers_of r))) → (is_of f r ≡ false → P r) → P r
by_kind P r f listed of other = go (is_of f r) refl
  where
    go : (t : Bool) → is_of f r ≡ t → P r
    go true q = subst P (sym (is_made f r listed q)) (of q)
    go false q = other q
