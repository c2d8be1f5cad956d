-- The record at the start of a stream, if it is of one kind.
use Rattle.std.proofs.Common.{◌≡◌, refl, sym, ap, ◌∙◌, Bool, true, false, cond, ◌&&◌, true≢false, List, [], ◌∷◌, map, ℕ, zero, suc, ◌+◌, ◌≤◌, arith, T, eqb, ltb, leb, length, take, Option, Some, None}
use Rattle.std.proofs.Common.{get_or-take, length-take-le, leb-true, le-leb, le-ltb, eqb-true, eq-eqb}
use Rattle.numbers.proofs.Tests.{both_true}
use Rattle.records.specs.declared.stream.Next.{Next}
use Rattle.records.specs.declared.stream.Next.TheVariants.{Whole, Broken, Partial}
use Rattle.records.specs.Format.{Format, Field, number_at, value_of, values_of, bytes_of, hour_format, day_format}
use Rattle.records.specs.Kinds.{format_of, numbers_of, is_of, of_format, hour_from, day_from}
use Rattle.records.specs.Decoded.{tag_of, length_of, is_broken, of_length, framed, decoded}
use Rattle.records.specs.Stream.{next_record, on_next, first_hour, first_day}
use Rattle.records.proofs.OneKind.{made}
use Rattle.records.proofs.Frames.{frame_of}
use Rattle.records.proofs.FormatLaws.{whole_not_broken, whole_least}

-- the first n bytes of a string have the numbers that lie in them
front : (n : ℕ) (s : List ℕ) (w from : ℕ) → from + w ≤ n → number_at w (take n s) from ≡ number_at w s from
unfolding number_at
front n s zero from h = refl
front n s (suc w) from h = rw (front n s w from (omega arith), get_or-take n s (from + w) 0 (omega arith))

abbrev inside : ℕ → List Field → Bool
inside n [] = true
inside n (f ∷ fs) = leb (3 + f.offset + f.width) n && inside n fs

front_values : (n : ℕ) (s : List ℕ) (fs : List Field) → inside n fs ≡ true → map (value_of (take n s)) fs ≡ map (value_of s) fs
front_values n s [] h = refl
front_values n s (f ∷ fs) h =
    let both = both_true {a = leb (3 + f.offset + f.width) n} h in
    rw (front n s f.width (3 + f.offset) (omega (arith, leb-true _ _ both.0)), front_values n s fs both.1)

-- a whole record of the format's tag and length is there
abbrev begins : Format → List ℕ → Bool
begins f s = leb (bytes_of f) (length s) && (eqb (tag_of s) f.tag && eqb (length_of s) f.size)

-- the next record, if it is of a format
abbrev pub first_of : {A : Type 0} → Format → (List ℕ → A) → List ℕ → Option A
first_of f given s = on_next None None (λ k. of_format f None (λ l. Some (given l)) (decoded (take k s))) (next_record s)

-- the next record is of the format, and x is made of its numbers
pub record FirstIs {A : Type 0} (f : Format) (given : List ℕ → A) (s : List ℕ) (x : A) : Type 0 where
  pub next_is : next_record s ≡ Whole (bytes_of f)
  pub is : is_of f (decoded (take (bytes_of f) s)) ≡ true
  pub made_is : x ≡ given (numbers_of (decoded (take (bytes_of f) s)))

module _ (f : Format) (listed : T (ltb 0 f.tag)) (kind : (l : List ℕ) → format_of (made f.tag l) ≡ f) {A : Type 0} (given : List ℕ → A) (s : List ℕ) where
  abbrev first : Option A
  first = first_of f given s

  -- a record of the format has the format's length
  pub whole_size : (k : ℕ) → next_record s ≡ Whole k → is_of f (decoded (take k s)) ≡ true → k ≡ bytes_of f
  whole_size k q p = omega (arith, (frame_of (take k s) f listed kind p).0, length-take-le k s (whole_not_broken s k q).0)

  pub first_is : {x : A} → Some x ≡ first → FirstIs f given s x
  first_is {x} e = go (next_record s) refl e
    where
      go : (n : Next) → next_record s ≡ n → Some x ≡ on_next None None (λ k. of_format f None (λ l. Some (given l)) (decoded (take k s))) n → FirstIs f given s x
      go Partial q e = cc
      go Broken q e = cc
      go (Whole k) q e = of (is_of f (decoded (take k s))) refl e
        where
          of : (t : Bool) → is_of f (decoded (take k s)) ≡ t → Some x ≡ cond t (Some (given (numbers_of (decoded (take k s))))) None → FirstIs f given s x
          of true p e =
              let size : k ≡ bytes_of f = whole_size k q p in
              let made_is : x ≡ given (numbers_of (decoded (take k s))) = cc in
              record { next_is = q ∙ ap Whole size; is = rw size at p; made_is = rw size at made_is }
          of false p e = cc

  pub none_is : None ≡ first → (k : ℕ) → next_record s ≡ Whole k → is_of f (decoded (take k s)) ≡ false
  none_is e k q = of (is_of f (decoded (take k s))) refl (rw q at e)
    where
      of : (t : Bool) → is_of f (decoded (take k s)) ≡ t → None ≡ cond t (Some (given (numbers_of (decoded (take k s))))) None → is_of f (decoded (take k s)) ≡ false
      of true p e = cc
      of false p e = p

  none : begins f s ≡ false → first ≡ None
  none e = go (next_record s) refl
    where
      go : (x : Next) → next_record s ≡ x → on_next None None (λ k. of_format f None (λ l. Some (given l)) (decoded (take k s))) x ≡ None
      go Partial q = refl
      go Broken q = refl
      go (Whole k) q = of (is_of f (decoded (take k s))) refl
        where
          of : (t : Bool) → is_of f (decoded (take k s)) ≡ t → of_format f None (λ l. Some (given l)) (decoded (take k s)) ≡ None
          of true p =
              let (long, tag, size) = frame_of (take k s) f listed kind p in
              let least = whole_least s k q in
              let there = (whole_not_broken s k q).0 in
              let all = length-take-le k s there in
              let is : begins f s ≡ true =
              rw (le-leb (bytes_of f) (length s) (omega arith), eq-eqb (tag_of s) f.tag (sym (front k s 1 0 (omega arith)) ∙ tag), eq-eqb (length_of s) f.size (sym (front k s 2 1 (omega arith)) ∙ size)) in
              absurd (true≢false (sym is ∙ e))
          of false p = rw p

  -- `reads`: what is made of a string that has the tag and the length
  found : leb f.size 32 ≡ true → inside (bytes_of f) f.fields ≡ true
      → ((t : List ℕ) → is_broken t ≡ false → tag_of t ≡ f.tag → length_of t ≡ f.size → of_format f None (λ l. Some (given l)) (decoded t) ≡ Some (given (values_of f t)))
      → begins f s ≡ true → first ≡ Some (given (values_of f s))
  unfolding next_record
  found few fields reads e =
      let (there, says) = both_true {a = leb (bytes_of f) (length s)} e in
      let (tag, size) = both_true {a = eqb (tag_of s) f.tag} says in
      let all : bytes_of f ≤ length s = leb-true _ _ there in
      let stated : length_of s ≡ f.size = eqb-true _ _ size in
      let next : next_record s ≡ Whole (bytes_of f) = simp (le-ltb (length s) 3 (omega arith), stated, le-ltb 32 f.size (leb-true _ _ few), le-ltb (length s) (bytes_of f) all) in
      let t : List ℕ = take (bytes_of f) s in
      rw next
      (reads t (whole_not_broken s (bytes_of f) next).1 (front (bytes_of f) s 1 0 (omega arith) ∙ eqb-true _ _ tag) (front (bytes_of f) s 2 1 (omega arith) ∙ stated)
      ∙ ap (λ (l : List ℕ). Some (given l)) (front_values (bytes_of f) s f.fields fields))

module _ (s : List ℕ) where
  pub hour_found : begins hour_format s ≡ true → Some (hour_from (values_of hour_format s)) ≡ first_hour s
  unfolding first_hour decoded framed of_length
  hour_found e = sym (found hour_format tt (λ l. refl) hour_from s refl refl (λ t b tag size. rw (b, tag, size)) e)

  pub no_hour : begins hour_format s ≡ false → None ≡ first_hour s
  unfolding first_hour
  no_hour e = sym (none hour_format tt (λ l. refl) hour_from s e)

  pub day_found : begins day_format s ≡ true → Some (day_from (values_of day_format s)) ≡ first_day s
  unfolding first_day decoded framed of_length
  day_found e = sym (found day_format tt (λ l. refl) day_from s refl refl (λ t b tag size. rw (b, tag, size)) e)

  pub no_day : begins day_format s ≡ false → None ≡ first_day s
  unfolding first_day
  no_day e = sym (none day_format tt (λ l. refl) day_from s e)
