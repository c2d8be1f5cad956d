-- Strings of a slice of bytes, and values stored one after another.
use Rattle.std.proofs.Common.{◌≡◌, refl, sym, ap, ◌∙◌, Bool, true, false, List, [], ◌∷◌, ◌++◌, map, ℕ, zero, suc, ◌+◌, ◌-◌, ◌≤◌, ◌<◌, min}
use Rattle.std.proofs.Common.{add-one, arith, ℤ, pos, leb, length, get_or, take, drop, set, length-set, drop_of_length-le}
use Rattle.std.proofs.Common.{drop-cons, leb-true, leb-false}
use native.Mathlib.Nat.{min-eq_left, min-eq_right}
use mathlib.Core.List.{flat_map}
use native.Mathlib.Numerals.{unary_clauses}
use lib.ListN.{length-map, get_or-map}
use lib.Seq.{set_out}
use Rattle.std.proofs.lemmas.List.{take_min}
use Rattle.numbers.specs.Lists.{list_below}
use Rattle.numbers.proofs.Arrays.{listed}
use Rattle.money.specs.declared.Cents.{Cents}
use Rattle.money.specs.Quantities.{cents}
use Rattle.book.specs.Books.{Book, empty_book}
use Rattle.book.specs.Entered.{Answer, entered, book_after}
use Rattle.promise.specs.Promise.{run, from_empty}
use Rattle.promise.specs.Logs.{strings_from, strings, stored_from, stored, all_numbers, all_lines}

-- the amounts of a string's lines
abbrev pub amounts_of : List Cents → List ℤ
amounts_of cs = map (λ (c : Cents). c.0) cs

-- where all places from n on give the same, a place past n may be moved back to it
moved_back : {B : Type 0} (f : ℕ → B) (n k : ℕ) → (n ≤ k → f k ≡ f n) → f (min k n) ≡ f k
moved_back f n k same = go (leb k n) refl
  where
    go : (t : Bool) → leb k n ≡ t → f (min k n) ≡ f k
    go true e = ap f (min-eq_left (leb-true k n e))
    go false e = let h : n ≤ k = omega (arith, leb-false k n e) in ap f (min-eq_right h) ∙ sym (same h)

module _ {A : Type 0} where
  -- past the end nothing is stored
  stored_past : (k : ℕ) (l vs : List A) → length l ≤ k → stored_from k l vs ≡ l
  unfolding stored_from
  stored_past k l [] h = refl
  stored_past k l (v ∷ vs) h = rw (set_out l k v h) (stored_past (suc k) l vs (omega arith))

  stored_within : (k : ℕ) (l vs : List A) → stored_from (min k (length l)) l vs ≡ stored_from k l vs
  stored_within k l vs = moved_back (λ k. stored_from k l vs) (length l) k (λ h. stored_past k l vs h ∙ sym (stored_past (length l) l vs (omega arith)))

  stored_length : (k : ℕ) (l vs : List A) → length (stored_from k l vs) ≡ length l
  unfolding stored_from
  stored_length k l [] = refl
  stored_length k l (v ∷ vs) = stored_length (suc k) (set l k v) vs ∙ length-set l k v

  stored_append : (k : ℕ) (l xs ys : List A) → stored_from k l (xs ++ ys) ≡ stored_from (k + length xs) (stored_from k l xs) ys
  unfolding stored_from
  stored_append k l [] ys = simp unary_clauses
  stored_append k l (x ∷ xs) ys =
      stored_append (suc k) (set l k x) xs ys ∙ ap (λ (n : ℕ). stored_from n (stored_from (suc k) (set l k x) xs) ys) (omega arith)

  -- a list's first element is left alone from its second place on
  stored_tail : (x : A) (k : ℕ) (l vs : List A) → stored_from (suc k) (x ∷ l) vs ≡ x ∷ stored_from k l vs
  unfolding stored_from
  stored_tail x k l [] = refl
  stored_tail x k l (v ∷ vs) = stored_tail x (suc k) (set l k v) vs

  -- value by value from the start is all at once
  stored_whole : (l vs : List A) → stored_from 0 l vs ≡ stored l vs
  unfolding stored_from
  stored_whole [] vs = stored_past 0 [] vs (omega arith) ∙ sym (drop_of_length-le [] {i = length vs} (omega arith))
  stored_whole (x ∷ l) [] = refl
  stored_whole (x ∷ l) (v ∷ vs) = stored_tail v 0 l vs ∙ ap (λ (t : List A). v ∷ t) (stored_whole l vs)

  -- as many of the values as there is room for, in the place of as many of the list from a place on
  pub stored_part : (k : ℕ) (l vs : List A) {n : ℕ} → k ≤ length l → n ≡ min (length l) (k + length vs) - k
      → take k l ++ (take n vs ++ drop n (drop k l)) ≡ stored_from k l vs
  stored_part zero l vs {n} h e =
      let fewer : n ≡ min (length l) (length vs) = omega arith in
      let fewer' : n ≡ min (length vs) (length l) = omega arith in
      let values : take n vs ≡ take (length l) vs = rw fewer (take_min (length l) vs) in
      let ends : length l ≤ length vs → drop (length vs) l ≡ drop (length l) l =
      λ past. drop_of_length-le l past ∙ sym (drop_of_length-le l (omega arith)) in
      let rest : drop n l ≡ drop (length vs) l = rw fewer' (moved_back (λ j. drop j l) (length l) (length vs) ends) in
      rw (values, rest) (sym (stored_whole l vs))
  stored_part (suc k) [] vs h e = absurd (omega arith)
  stored_part (suc k) (x ∷ l) vs h e = ap (λ (t : List A). x ∷ t) (stored_part k l vs (omega arith) (omega arith)) ∙ sym (stored_tail x k l vs)

-- sixteen amounts by party, as an array's `map` gives them
pub amounts_are : (cs : List Cents) → length cs ≡ 16 → list_below 16 (λ p. (get_or cs p (cents (pos 0))).0) ≡ amounts_of cs
amounts_are cs long = sym (listed 16 _ (pos 0) (rw length-map long) (λ k b. get_or-map (λ (c : Cents). c.0) cs k (cents (pos 0))))

-- one string more
strings_more : (from : ℕ) (bytes ends : List ℕ) (i : ℕ) {end : ℕ} → i < length ends → end ≡ get_or ends i 0
    → strings_from from bytes (drop i ends) ≡ take (end - from) (drop from bytes) ∷ strings_from end bytes (drop (i + 1) ends)
unfolding strings_from
strings_more from bytes ends i h e = rw (drop-cons ends i 0 h, add-one i, e)

module _ (b : Book) (s : List ℕ) (ss : List (List ℕ)) {a : Answer} (e : a ≡ entered b s) where
  book_more : book_after a.book ss ≡ book_after b (s ∷ ss)
  book_more = rw e

  numbers_more : (l : List ℕ) (k : ℕ) → stored_from (k + 1) (set l k a.number) (all_numbers (run a.book ss)) ≡ stored_from k l (all_numbers (run b (s ∷ ss)))
  unfolding stored_from run
  numbers_more l k = rw (e, add-one k)

  lines_next : (l : List ℤ) (k : ℕ)
      → stored_from (min (k + length a.lines) (length l)) (stored_from k l (amounts_of a.lines)) (all_lines (run a.book ss))
      ≡ stored_from k l (all_lines (run b (s ∷ ss)))
  unfolding run flat_map
  lines_next l k =
      let amounts = amounts_of a.lines in
      let put = stored_from k l amounts in
      let more = all_lines (run a.book ss) in
      let place : min (k + length a.lines) (length l) ≡ min (k + length amounts) (length put) = rw (length-map, stored_length k l amounts) in
      let all : stored_from k l (amounts ++ more) ≡ stored_from k l (all_lines (run b (s ∷ ss))) = rw e in
      rw place (stored_within (k + length amounts) put more ∙ sym (stored_append k l amounts more) ∙ all)

-- The loop of `run`: after i strings, what is left to do is what was to do at first.
pub record Going (bytes ends first_numbers : List ℕ) (first_lines : List ℤ) (numbers : List ℕ) (lines : List ℤ) (b : Book) (from next i : ℕ) : Type 0 where
  pub there : i ≤ length ends
  pub room : next ≤ length lines
  pub numbers_length : length numbers ≡ length first_numbers
  pub lines_length : length lines ≡ length first_lines
  pub book_left : book_after b (strings_from from bytes (drop i ends)) ≡ book_after empty_book (strings bytes ends)
  pub numbers_left : stored_from i numbers (all_numbers (run b (strings_from from bytes (drop i ends))))
      ≡ stored_from 0 first_numbers (all_numbers (from_empty (strings bytes ends)))
  pub lines_left : stored_from next lines (all_lines (run b (strings_from from bytes (drop i ends))))
      ≡ stored_from 0 first_lines (all_lines (from_empty (strings bytes ends)))

module _ {bytes ends first_numbers numbers : List ℕ} {first_lines lines : List ℤ} {b : Book} {from next i : ℕ}
    (g : Going bytes ends first_numbers first_lines numbers lines b from next i) where
  pub going_more : {end : ℕ} {s : List ℕ} {a : Answer} → i < length ends → end ≡ get_or ends i 0 → s ≡ take (end - from) (drop from bytes)
      → a ≡ entered b s
      → {put_numbers : List ℕ} {put_lines : List ℤ} {after : ℕ} → put_numbers ≡ set numbers i a.number → put_lines ≡ stored_from next lines (amounts_of a.lines)
      → after ≡ min (next + length a.lines) (length lines) → Going bytes ends first_numbers first_lines put_numbers put_lines a.book end after (i + 1)
  going_more {end} {s} {a} h e part answer {put_numbers} {put_lines} {after} n l k =
      let ss = strings_from end bytes (drop (i + 1) ends) in
      let rest : s ∷ ss ≡ strings_from from bytes (drop i ends) = rw part (sym (strings_more from bytes ends i h e)) in
      let size : length put_lines ≡ length lines = ap length l ∙ stored_length next lines (amounts_of a.lines) in
      record {
        there = omega arith;
        room = omega arith;
        numbers_length = ap length n ∙ length-set numbers i a.number ∙ g.numbers_length;
        lines_length = size ∙ g.lines_length;
        book_left = book_more b s ss answer ∙ ap (book_after b) rest ∙ g.book_left;
        numbers_left =
            rw n (numbers_more b s ss answer numbers i ∙ ap (λ (x : List (List ℕ)). stored_from i numbers (all_numbers (run b x))) rest ∙ g.numbers_left);
        lines_left =
            rw (l, k) (lines_next b s ss answer lines next ∙ ap (λ (x : List (List ℕ)). stored_from next lines (all_lines (run b x))) rest ∙ g.lines_left);
      }

  -- no string is left
  module _ (h : length ends ≤ i) where
    none : strings_from from bytes (drop i ends) ≡ []
    unfolding strings_from
    none = rw (drop_of_length-le ends h)

    pub going_book : b ≡ book_after empty_book (strings bytes ends)
    going_book = ap (book_after b) (sym none) ∙ g.book_left

    pub going_numbers : numbers ≡ stored first_numbers (all_numbers (from_empty (strings bytes ends)))
    unfolding stored_from run
    going_numbers = ap (λ (x : List (List ℕ)). stored_from i numbers (all_numbers (run b x))) (sym none) ∙ g.numbers_left ∙ stored_whole first_numbers _

    pub going_lines : lines ≡ stored first_lines (all_lines (from_empty (strings bytes ends)))
    unfolding stored_from run flat_map
    going_lines = ap (λ (x : List (List ℕ)). stored_from next lines (all_lines (run b x))) (sym none) ∙ g.lines_left ∙ stored_whole first_lines _
