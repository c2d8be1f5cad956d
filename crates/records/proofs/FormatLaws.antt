-- Laws of the format and of the next record.
use Rattle.std.proofs.Common.{◌≡◌, refl, sym, ap, subst, ◌∙◌, Bool, true, false, cond, not, ◌||◌, List, ◌++◌, ℕ, ◌+◌, ◌≤◌, ◌<◌, arith, eqb, ltb, length}
use Rattle.std.proofs.Common.{take, get_or, length-take, length-take-le, get_or-take, ltb-true, ltb-false, lt-ltb, le-ltb, eq-eqb, ne_eqb}
use Rattle.std.proofs.Math.ListN.{length-append}
use lib.ListN.{get_or-append}
use Rattle.records.specs.declared.stream.Next.{Next}
use Rattle.records.specs.declared.stream.Next.TheVariants.{Whole, Broken, Partial}
use Rattle.records.specs.Format.{number_at, formats}
use Rattle.records.specs.Decoded.{length_of, is_broken}
use Rattle.records.specs.Stream.{next_record}
use Rattle.records.specs.Laws.{adjoining}

pub fields_adjoin : adjoining formats ≡ true
fields_adjoin = refl

second : (a b : Bool) → b ≡ true → (a || b) ≡ true
second true b q = refl
second false b q = q

-- two strings with the same bytes 1 and 2 state the same length
same_stated : (s t : List ℕ) → get_or s 1 0 ≡ get_or t 1 0 → get_or s 2 0 ≡ get_or t 2 0 → length_of s ≡ length_of t
unfolding number_at
same_stated s t p q = rw (p, q)

stated_by_front : (n : ℕ) (s : List ℕ) → 3 ≤ n → length_of (take n s) ≡ length_of s
stated_by_front n s h = same_stated (take n s) s (get_or-take n s 1 0 (omega arith)) (get_or-take n s 2 0 (omega arith))

stated_at_first : (s t : List ℕ) → 3 ≤ length s → length_of (s ++ t) ≡ length_of s
stated_at_first s t h = same_stated (s ++ t) s (get_or-append s t 0 1 (omega arith)) (get_or-append s t 0 2 (omega arith))

-- row 1, from what is known of the lengths
module _ (s : List ℕ) where
  short : length s < 3 → is_broken s ≡ true
  unfolding is_broken
  short h = rw (lt-ltb (length s) 3 h)

  long : 32 < length_of s → is_broken s ≡ true
  unfolding is_broken
  long h = second (ltb (length s) 3) (ltb 32 (length_of s) || not (eqb (length s) (3 + length_of s))) (rw (lt-ltb 32 (length_of s) h))

  cut : length s < 3 + length_of s → is_broken s ≡ true
  unfolding is_broken
  cut h =
      second (ltb (length s) 3) (ltb 32 (length_of s) || not (eqb (length s) (3 + length_of s)))
      (second (ltb 32 (length_of s)) (not (eqb (length s) (3 + length_of s))) (rw (ne_eqb (length s) (3 + length_of s) (λ e. omega arith))))

  framed : length_of s ≤ 32 → length s ≡ 3 + length_of s → is_broken s ≡ false
  unfolding is_broken
  framed h e = simp (le-ltb (length s) 3 (omega arith), le-ltb 32 (length_of s) h, eq-eqb (length s) (3 + length_of s) e)

-- what the next record says of the lengths
abbrev Told : List ℕ → Next → Type 0
Told s (Whole n) = (n ≡ 3 + length_of s) × (length_of s ≤ 32) × (n ≤ length s)
Told s Broken = (3 ≤ length s) × (32 < length_of s)
Told s Partial = (is_broken s ≡ true) × (length s < 35)

told : (s : List ℕ) → Told s (next_record s)
unfolding next_record
told s = go (ltb (length s) 3) (ltb 32 (length_of s)) (ltb (length s) (3 + length_of s)) refl refl refl
  where
    go : (a b c : Bool) → ltb (length s) 3 ≡ a → ltb 32 (length_of s) ≡ b → ltb (length s) (3 + length_of s) ≡ c
        → Told s (cond a Partial (cond b Broken (cond c Partial (Whole (3 + length_of s)))))
    go true b c p q r = let few = ltb-true (length s) 3 p in (short s few, omega arith)
    go false true c p q r = (ltb-false (length s) 3 p, ltb-true 32 (length_of s) q)
    go false false true p q r =
        let few = ltb-true (length s) (3 + length_of s) r in
        let most = ltb-false 32 (length_of s) q in
        (cut s few, omega arith)
    go false false false p q r = (refl, ltb-false 32 (length_of s) q, ltb-false (length s) (3 + length_of s) r)

pub whole_not_broken : (s : List ℕ) (n : ℕ) → next_record s ≡ Whole n → (n ≤ length s) × (is_broken (take n s) ≡ false)
whole_not_broken s n e = go (subst (Told s) e (told s))
  where
    go : Told s (Whole n) → (n ≤ length s) × (is_broken (take n s) ≡ false)
    go (all, bounded, there) = (
      there,
      framed (take n s)
          (omega (arith, stated_by_front n s (omega arith)))
          (omega (arith, stated_by_front n s (omega arith), length-take-le n s there)),
    )

-- a record has a head of three bytes
pub whole_least : (s : List ℕ) (n : ℕ) → next_record s ≡ Whole n → 3 ≤ n
whole_least s n e = go (subst (Told s) e (told s))
  where
    go : Told s (Whole n) → 3 ≤ n
    go (all, bounded, there) = omega arith

pub broken_least : (s : List ℕ) → next_record s ≡ Broken → 3 ≤ length s
broken_least s e = (subst (Told s) e (told s)).0

pub broken_stays : (s : List ℕ) → next_record s ≡ Broken → (t : List ℕ) (n : ℕ) → is_broken (take n (s ++ t)) ≡ true
broken_stays s e t n = go (subst (Told s) e (told s)) (ltb (length (take n (s ++ t))) 3) refl
  where
    go : Told s Broken → (a : Bool) → ltb (length (take n (s ++ t))) 3 ≡ a → is_broken (take n (s ++ t)) ≡ true
    go known true q = short (take n (s ++ t)) (ltb-true (length (take n (s ++ t))) 3 q)
    go (begun, above) false q =
        long (take n (s ++ t))
        (omega (
          arith,
          stated_by_front n (s ++ t) (omega (arith, ltb-false (length (take n (s ++ t))) 3 q, length-take n (s ++ t))),
          stated_at_first s t begun,
        ))

pub partial_broken : (s : List ℕ) → next_record s ≡ Partial → is_broken s ≡ true
partial_broken s e = (subst (Told s) e (told s)).0

-- a record that is not whole yet is short
pub partial_most : (s : List ℕ) → next_record s ≡ Partial → length s < 35
partial_most s e = (subst (Told s) e (told s)).1

-- what follows changes no record that is whole or broken
pub whole_stays : (s t : List ℕ) (n : ℕ) → next_record s ≡ Whole n → next_record (s ++ t) ≡ Whole n
unfolding next_record
whole_stays s t n e = go (subst (Told s) e (told s))
  where
    go : Told s (Whole n) → next_record (s ++ t) ≡ Whole n
    go (all, bounded, there) =
        let same = stated_at_first s t (omega arith) in
        let more = length-append s t in
        let begun : ltb (length (s ++ t)) 3 ≡ false = le-ltb (length (s ++ t)) 3 (omega arith) in
        let whole : ltb (length (s ++ t)) (3 + length_of s) ≡ false = le-ltb (length (s ++ t)) (3 + length_of s) (omega arith) in
        let framed : next_record (s ++ t) ≡ Whole (3 + length_of s) = simp (begun, same, le-ltb 32 (length_of s) bounded, whole) in
        framed ∙ ap Whole (sym all)

pub broken_more : (s t : List ℕ) → next_record s ≡ Broken → next_record (s ++ t) ≡ Broken
unfolding next_record
broken_more s t e = go (subst (Told s) e (told s))
  where
    go : Told s Broken → next_record (s ++ t) ≡ Broken
    go (begun, above) =
        let same = stated_at_first s t begun in
        let more = length-append s t in
        simp (le-ltb (length (s ++ t)) 3 (omega arith), same, lt-ltb 32 (length_of s) above)
