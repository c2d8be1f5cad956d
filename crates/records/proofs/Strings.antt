-- The strings that a stream is cut into, where its bytes are known up to a place.
use Rattle.std.proofs.Common.{◌≡◌, refl, ap, ◌∙◌, List, [], ◌∷◌, ◌++◌, ℕ, zero, suc, ◌<◌, arith, length, take, drop}
use Rattle.std.proofs.lemmas.List.{append-nil, take-append-le, drop-append-le, take-append-drop}
use Rattle.std.proofs.Math.ListN.{length-drop, length-append}
use mathlib.Core.List.{flatten}
use Rattle.records.specs.declared.stream.Next.{Next}
use Rattle.records.specs.declared.stream.Next.TheVariants.{Whole, Broken, Partial}
use Rattle.records.specs.Stream.{next_record, cut_at_end, first_strings, strings_of}
use Rattle.records.proofs.FormatLaws.{whole_least, whole_not_broken, whole_stays, broken_more}

-- more strings than bytes are enough
enough_strings : (n m : ℕ) (s : List ℕ) → length s < n → length s < m → first_strings n s ≡ first_strings m s
unfolding first_strings
enough_strings zero m s p q = absurd (omega arith)
enough_strings (suc n) zero s p q = absurd (omega arith)
enough_strings (suc n) (suc m) s p q = go (next_record s) refl (enough_strings n m)
  where
    go : (x : Next) → next_record s ≡ x
        → ((s : List ℕ) → length s < n → length s < m → first_strings n s ≡ first_strings m s)
        → first_strings (suc n) s ≡ first_strings (suc m) s
    go Partial e further = rw e
    go Broken e further = rw e
    go (Whole k) e further =
        let least = whole_least s k e in
        let there = (whole_not_broken s k e).0 in
        let shorter = length-drop k s in
        rw e (ap (λ (x : List (List ℕ)). take k s ∷ x) (further (drop k s) (omega arith) (omega arith)))

-- a whole record is the first string, whatever follows it
pub strings_whole : (s t : List ℕ) (k : ℕ) → next_record s ≡ Whole k → strings_of (s ++ t) ≡ take k s ∷ strings_of (drop k s ++ t)
unfolding strings_of first_strings
strings_whole s t k e =
    let least = whole_least s k e in
    let there = (whole_not_broken s k e).0 in
    let long = length-append s t in
    let shorter = length-append (drop k s) t in
    let left = length-drop k s in
    let first : strings_of (s ++ t) ≡ take k (s ++ t) ∷ first_strings (length (s ++ t)) (drop k (s ++ t)) = rw (whole_stays s t k e) in
    first
    ∙ rw (take-append-le k s t there, drop-append-le k s t there)
    (ap (λ (x : List (List ℕ)). take k s ∷ x)
    (enough_strings (length (s ++ t)) (suc (length (drop k s ++ t))) (drop k s ++ t) (omega arith) (omega arith)))

-- a broken one takes all that follows it
pub strings_broken : (s t : List ℕ) → next_record s ≡ Broken → strings_of (s ++ t) ≡ (s ++ t) ∷ []
unfolding strings_of first_strings
strings_broken s t e = rw (broken_more s t e)

pub strings_cut : (s : List ℕ) → next_record s ≡ Partial → strings_of s ≡ cut_at_end s
unfolding strings_of first_strings
strings_cut s e = rw e

cut_joined : (s : List ℕ) → flatten (cut_at_end s) ≡ s
unfolding flatten
cut_joined [] = refl
cut_joined (b ∷ s) = append-nil (b ∷ s)

first_joined : (n : ℕ) (s : List ℕ) → length s < n → flatten (first_strings n s) ≡ s
unfolding first_strings flatten
first_joined zero s p = absurd (omega arith)
first_joined (suc n) s p = go (next_record s) refl (first_joined n)
  where
    go : (x : Next) → next_record s ≡ x → ((s : List ℕ) → length s < n → flatten (first_strings n s) ≡ s)
        → flatten (first_strings (suc n) s) ≡ s
    go Partial e further = rw e (cut_joined s)
    go Broken e further = rw e (append-nil s)
    go (Whole k) e further =
        let least = whole_least s k e in
        let there = (whole_not_broken s k e).0 in
        let shorter = length-drop k s in
        rw e (ap (λ (x : List ℕ). take k s ++ x) (further (drop k s) (omega arith)) ∙ take-append-drop k s)

pub strings_joined : (s : List ℕ) → flatten (strings_of s) ≡ s
unfolding strings_of
strings_joined s = first_joined (suc (length s)) s (omega arith)
