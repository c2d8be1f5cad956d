-- A record of a known tag is what its numbers make.
use Rattle.std.proofs.Common.{◌≡◌, refl, ap, ◌∙◌, Bool, true, false, cond, List, [], ◌∷◌, map, not, subst, ℕ, ◌<◌, Ok, Err, arith, T, eqb, ltb, eqb-true, ltb-true, ne_eqb}
use mir.Val.{has_key}
use types.Run.{OneOf, miss}
use Rattle.numbers.specs.Lists.{element}
use Rattle.records.specs.declared.format.Fault.TheVariants.{Broken}
use Rattle.records.specs.declared.format.Record.TheVariants as records
use Rattle.records.specs.declared.format.Record.TheVariants.{Year, Area, Commitment, Hour, Load, Post, Owner, Day}
use Rattle.records.specs.Format.{Format, formats}
use Rattle.records.specs.Kinds.{Decoded, tag_of_record, numbers_of, area_from, unit_from, commitment_from, hour_from, load_from, owner_from, day_from, is_of}

abbrev pub made : ℕ → List ℕ → Decoded
made t l =
    cond (eqb t 1) (Ok (Year (element l 0)))
    (cond (eqb t 2) (Ok (Area (area_from l)))
    (cond (eqb t 3) (Ok (records.Unit (unit_from l)))
    (cond (eqb t 4) (Ok (Commitment (commitment_from l)))
    (cond (eqb t 5) (Ok (Hour (hour_from l)))
    (cond (eqb t 6) (Ok (Load (load_from l)))
    (cond (eqb t 7) (Ok (Post (element l 0)))
    (cond (eqb t 8) (Ok (Owner (owner_from l)))
    (cond (eqb t 9) (Ok (Day (day_from l)))
    (Err Broken)))))))))

rebuilt : (r : Decoded) → 0 < tag_of_record r → r ≡ made (tag_of_record r) (numbers_of r)
rebuilt (Err f) h = absurd (omega arith)
rebuilt (Ok (Year y)) h = refl
rebuilt (Ok (Area a)) h = refl
rebuilt (Ok (records.Unit u)) h = refl
rebuilt (Ok (Commitment c)) h = refl
rebuilt (Ok (Hour k)) h = refl
rebuilt (Ok (Load l)) h = refl
rebuilt (Ok (Post p)) h = refl
rebuilt (Ok (Owner o)) h = refl
rebuilt (Ok (Day d)) h = refl

-- what the frame refuses has no listed tag
pub listed_tag : (f : Format) → T (ltb 0 f.tag) → 0 < f.tag
listed_tag f listed = ltb-true 0 f.tag (is_true (ltb 0 f.tag) listed)
  where
    is_true : (t : Bool) → T t → t ≡ true
    is_true true h = refl
    is_true false h = absurd h

pub is_made : (f : Format) (r : Decoded) → T (ltb 0 f.tag) → is_of f r ≡ true → r ≡ made f.tag (numbers_of r)
is_made f r listed q =
    let e : tag_of_record r ≡ f.tag = eqb-true _ _ q in
    rebuilt r (rw e (listed_tag f listed)) ∙ ap (λ (t : ℕ). made t (numbers_of r)) e

-- the tags of what is of none of these formats: of other formats, and 0 of what the frame refuses
abbrev pub others : List Format → List ℕ
others fs = without (map (λ (f : Format). f.tag) fs) (0 ∷ map (λ (f : Format). f.tag) formats)
  where
    without : List ℕ → List ℕ → List ℕ
    without ks [] = []
    without ks (t ∷ ts) = cond (has_key ks t) (without ks ts) (t ∷ without ks ts)

pub another : (fs : List Format) (r : Decoded) → OneOf (others fs) (tag_of_record r) → (f : Format) → T (not (has_key (others fs) f.tag))
    → is_of f r ≡ false
another fs r one f away = ne_eqb (tag_of_record r) f.tag (λ e. miss (others fs) f.tag away (subst (OneOf (others fs)) e one))

-- the last arm of a `match`: a record that no numbers of this format make is of another one
pub of_another : (f : Format) (r : Decoded) → T (ltb 0 f.tag) → (r ≡ made f.tag (numbers_of r) → ⊥) → is_of f r ≡ false
of_another f r listed away = go (is_of f r) refl
  where
    go : (t : Bool) → is_of f r ≡ t → is_of f r ≡ false
    go true q = absurd (away (is_made f r listed q))
    go false q = q
