-- No string more and one string more, fed to the fresh reckoning.
use Rattle.std.proofs.Common.{◌≡◌, refl, false, List, [], ◌∷◌, ℕ, ◌-◌, ℤ, pos, eqb}
use Rattle.numbers.specs.Lists.{list_below}
use Rattle.records.specs.Format.{party_count}
use Rattle.records.specs.Decoded.{decoded}
use Rattle.records.specs.Kinds.{Decoded, of_post}
use Rattle.rules.specs.Refusal.{refusal_of}
use Rattle.rules.specs.Facts.{Facts}
use Rattle.rules.specs.Rules.{asked, refusal}
use Rattle.promise.specs.Reckoning.{facts_of_list, Answered, number_for, joined, accepted_with, reckoned_line, line_for, answers_of, accepted_of}
use Rattle.promise.proofs.OneMore.{list_kept}
use Rattle.promise.specs.Figures.{answer, no_lines}

number_of : (F : Facts) (s : List ℕ) (r : Decoded) (n : ℕ) → decoded s ≡ r → refusal_of (asked F r) r ≡ n → refusal F s ≡ n
unfolding refusal
number_of F s r n d e = rw d e

module _ (acc : List Decoded) (s : List ℕ) where
  -- the list after an accepted string, and after a refused one
  pub list_after : number_for acc s ≡ 0 → accepted_with acc s ≡ joined acc (decoded s)
  unfolding accepted_with
  list_after e = rw e

-- what strings are answered with, from a list on, and the list after them
pub record Fed (acc : List Decoded) (ss : List (List ℕ)) (answers : List Answered) (after : List Decoded) : Type 0 where
  pub answers_are : answers_of acc ss ≡ answers
  pub list_is : accepted_of acc ss ≡ after

pub none_next : (acc : List Decoded) → Fed acc [] [] acc
unfolding answers_of accepted_of
none_next acc = record { answers_are = refl; list_is = refl }

module _ (s : List ℕ) (r : Decoded) (acc : List Decoded) (ss : List (List ℕ)) {rest : List Answered} {after : List Decoded} where
  pub accepted_next : {lines : List ℤ} → decoded s ≡ r → refusal_of (asked (facts_of_list acc) r) r ≡ 0
      → list_below party_count (λ p. of_post (pos 0) (λ n. reckoned_line acc (n - 1) p) r) ≡ lines
      → Fed (joined acc r) ss rest after → Fed acc (s ∷ ss) (answer 0 lines ∷ rest) after
  unfolding answers_of accepted_of line_for list_below
  accepted_next d e l more =
      let number : number_for acc s ≡ 0 = number_of (facts_of_list acc) s r 0 d e in
      record {
        answers_are = rw (list_after acc s number, number, d, l, more.answers_are);
        list_is = rw (list_after acc s number, d) more.list_is;
      }

  pub refused_next : (n : ℕ) → eqb n 0 ≡ false → decoded s ≡ r → refusal_of (asked (facts_of_list acc) r) r ≡ n
      → Fed acc ss rest after → Fed acc (s ∷ ss) (answer n no_lines ∷ rest) after
  unfolding answers_of accepted_of line_for list_below
  refused_next n q d e more =
      let number : number_for acc s ≡ n = number_of (facts_of_list acc) s r n d e in
      let kept : accepted_with acc s ≡ acc = list_kept acc s (rw number q) in
      record { answers_are = rw (kept, number, q, more.answers_are); list_is = rw kept more.list_is }
