-- A string's lines, in the book and in the reckoning.
use Rattle.std.proofs.Common.{Ok, ◌≡◌, refl, sym, ap, ◌∙◌, Bool, true, false, cond, true≢false, ◌&&◌, List, ◌∷◌, ℕ, ◌+◌, ◌-◌, ◌<◌, arith, ℤ, pos, ◌+ℤ◌}
use Rattle.std.proofs.Common.{eqb, eqb-true, eq-eqb}
use lib.IntN.{+ℤ_idl, +ℤ_idr}
use Rattle.numbers.specs.Range.{within}
use Rattle.numbers.specs.Lists.{element}
use Rattle.numbers.specs.Signed.{sum_below_ℤ}
use Rattle.numbers.proofs.Tests.{within_from, within_to, both_true}
use Rattle.numbers.proofs.Lists.{element_below, list_same}
use Rattle.numbers.proofs.SignedSums.{sum_same_ℤ, sum_add_ℤ}
use Rattle.money.specs.Quantities.{cents, cents_of}
use Rattle.money.specs.declared.Cents.{Cents}
use Rattle.records.specs.declared.format.HourRecord.{HourRecord}
use Rattle.records.specs.declared.format.Record.TheVariants.{Hour, Post}
use Rattle.records.specs.Format.{area_count, party_count, post_format}
use Rattle.records.specs.Decoded.{decoded}
use Rattle.records.specs.Kinds.{Decoded, numbers_of, is_of, of_post}
use Rattle.rules.specs.Rules.{area_index}
use Rattle.rules.proofs.Named.{index_in_range}
use Rattle.rules.proofs.ByKind.{paired, by_key, fit, by_kind}
use Rattle.book.specs.Books.{Book}
use Rattle.book.specs.Entered.{no_lines, post_lines, entered}
use Rattle.promise.specs.Reckoning.{year_of, latest_area, unit_of, latest_commitment, latest_load, latest_owner, accepted_hours, facts_of_list, number_for, accepted_with}
use Rattle.promise.specs.Reckoning.{reckoned_due, reckoned_paid, reckoned_line, line_for, answer_for}
use Rattle.promise.specs.Promise.{Entry, number_of, line_of, is_post}
use Rattle.promise.specs.Laws.{answered}
use Rattle.promise.proofs.Agreement.{agreed_facts}
use Rattle.promise.proofs.LineSums.{lines_add_up}
use Rattle.promise.proofs.OneMore.{joined_keeps, list_kept, post_accepted}
use Rattle.promise.proofs.Runs.{list_after}
use Rattle.promise.proofs.Meeting.{Meets, number_met, accepted_by, book_after_lem, book_kept, meets_next}

-- the test of a Post of area a
is_post_lem : (a : ℕ) (r : Decoded) → of_post false (λ n. eqb n (a + 1)) r ≡ true → r ≡ Ok (Post (a + 1))
is_post_lem a r =
    by_kind (λ x. of_post false (λ n. eqb n (a + 1)) x ≡ true → x ≡ Ok (Post (a + 1))) r post_format tt
    (λ q e. ap (λ (n : ℕ). Ok (Post n)) (eqb-true (element (numbers_of r) 0) (a + 1) e)) (λ q e. absurd (true≢false (sym (rw q at e))))

-- a Post changes no fact
pub post_keeps : (n : ℕ) (acc : List Decoded) → facts_of_list (Ok (Post n) ∷ acc) ≡ facts_of_list acc
unfolding facts_of_list year_of latest_area unit_of latest_commitment latest_load latest_owner accepted_hours
post_keeps n acc = refl

-- no other record moves what is paid in area a
other_paid : (acc : List Decoded) (a p : ℕ) (r : Decoded) → of_post false (λ n. eqb n (a + 1)) r ≡ false → reckoned_paid (r ∷ acc) a p ≡ reckoned_paid acc a p
unfolding reckoned_paid
other_paid acc a p r e =
    by_key (λ z. z ≡ reckoned_paid acc a p) (is_of post_format r) (eqb (element (numbers_of r) 0) (a + 1)) (λ q k. absurd (true≢false (rw (q, k) at e))) refl

no_hour_pays : (h : HourRecord) (acc : List Decoded) (a p : ℕ) → reckoned_paid (Ok (Hour h) ∷ acc) a p ≡ reckoned_paid acc a p
unfolding reckoned_paid
no_hour_pays h acc a p = refl

module _ (b : Book) (acc : List Decoded) (m : Meets b acc) (s : List ℕ) where
  -- the entry that s makes
  abbrev pub entry : Entry
  entry = record { string = s; answer = entered b s }

  -- an accepted Post of area a
  pub record Posted (a : ℕ) : Type 0 where
    number : number_for acc s ≡ 0
    is_a_post : decoded s ≡ Ok (Post (a + 1))

  pub posted_by : (a : ℕ) → is_post a entry ≡ true → Posted a
  posted_by a q =
      let both = both_true {a = eqb (number_of entry) 0} q in
      record { number = sym (number_met b acc m s) ∙ post_accepted a entry q; is_a_post = is_post_lem a (decoded s) both.1 }

  -- a Post's lines are the reckoning's
  line_met : (n p : ℕ) → p < party_count → within 1 area_count n ≡ true → cents_of (post_lines b (area_index n)) p ≡ reckoned_line acc (n - 1) p
  unfolding post_lines reckoned_line reckoned_due
  line_met n p h fits =
      let inside : n - 1 < area_count = omega (arith, within_from 1 area_count n fits, within_to 1 area_count n fits) in
      ap (λ (c : Cents). c.0) (element_below party_count _ p (cents (pos 0)) h)
      ∙ rw (index_in_range area_count n fits, agreed_facts b acc m.agrees, m.agrees.posted (n - 1) p inside h)

  no_line : (p : ℕ) → p < party_count → cents_of no_lines p ≡ pos 0
  no_line p h = ap (λ (c : Cents). c.0) (element_below party_count (λ q. cents (pos 0)) p (cents (pos 0)) h)

  -- each line of the string is the reckoning's
  line_given : (p : ℕ) → p < party_count → line_of entry p ≡ line_for acc s p
  unfolding line_for
  line_given p h = go (eqb (number_for acc s) 0) refl
    where
      go : (t : Bool) → eqb (number_for acc s) 0 ≡ t
          → line_of entry p ≡ cond t (of_post (pos 0) (λ n. reckoned_line acc (n - 1) p) (decoded s)) (pos 0)
      go true q =
          let z : number_for acc s ≡ 0 = eqb-true (number_for acc s) 0 q in
          rw (book_after_lem b acc m s z)
          (paired (λ ls x. cents_of ls p ≡ x) (is_of post_format (decoded s))
          (λ i. line_met _ p h (fit (accepted_by b acc m s z) post_format tt i).0) (no_line p h))
      go false q = rw (book_kept b acc m s q) (no_line p h)

  line_posted : (a p : ℕ) → p < party_count → Posted a → line_of entry p ≡ reckoned_line acc a p
  unfolding line_for
  line_posted a p h q =
      let same : a + 1 - 1 ≡ a = omega arith in
      line_given p h ∙ rw (q.number, q.is_a_post, same)

  -- what is paid grows by the lines of the accepted Posts of the area
  pub paid_more : (a p : ℕ) → p < party_count → reckoned_paid (accepted_with acc s) a p ≡ reckoned_paid acc a p +ℤ cond (is_post a entry) (line_of entry p) (pos 0)
  paid_more a p h = go (is_post a entry) refl
    where
      go : (t : Bool) → is_post a entry ≡ t → reckoned_paid (accepted_with acc s) a p ≡ reckoned_paid acc a p +ℤ cond t (line_of entry p) (pos 0)
      go true q =
          let post = posted_by a q in
          rw (list_after acc s post.number, post.is_a_post, line_posted a p h post) (lines_add_up acc a p)
      go false q = rw (+ℤ_idr (reckoned_paid acc a p)) (other (eqb (number_for acc s) 0) refl (rw (number_met b acc m s) at q))
        where
          other : (u : Bool) → eqb (number_for acc s) 0 ≡ u → (u && of_post false (λ n. eqb n (a + 1)) (decoded s)) ≡ false
              → reckoned_paid (accepted_with acc s) a p ≡ reckoned_paid acc a p
          other true z x = rw (list_after acc s (eqb-true (number_for acc s) 0 z)) (joined_keeps (λ l. reckoned_paid l a p) (λ h l. no_hour_pays h l a p) acc (decoded s) (λ q. other_paid acc a p (decoded s) x))
          other false z x = rw (list_kept acc s z)

  -- right after an accepted Post of the area what is paid is the due
  pub paid_due : (a p : ℕ) → Posted a → reckoned_paid (accepted_with acc s) a p ≡ reckoned_due (accepted_with acc s) a p
  unfolding reckoned_paid reckoned_due
  paid_due a p q = rw (list_after acc s q.number, q.is_a_post, eq-eqb (a + 1) (a + 1) refl, post_keeps (a + 1) acc)

  -- its lines add up to 0: what is paid did before, and does after it
  pub lines_balance : (a : ℕ) → is_post a entry ≡ true → sum_below_ℤ party_count (line_of entry) ≡ pos 0
  lines_balance a q =
      let paid : ℕ → ℤ = reckoned_paid acc a in
      let grown : (p : ℕ) → p < party_count → reckoned_paid (accepted_with acc s) a p ≡ paid p +ℤ line_of entry p = λ p h. rw q at (paid_more a p h) in
      sym (+ℤ_idl (sum_below_ℤ party_count (line_of entry)))
      ∙ ap (λ (z : ℤ). z +ℤ sum_below_ℤ party_count (line_of entry)) (sym (m.kept.balance a))
      ∙ sym (sum_add_ℤ party_count paid (line_of entry))
      ∙ sym (sum_same_ℤ party_count (reckoned_paid (accepted_with acc s) a) (λ p. paid p +ℤ line_of entry p) grown)
      ∙ (meets_next b acc m s).kept.balance a

  pub answer_met : answered entry ≡ answer_for acc s
  answer_met = rw (number_met b acc m s, list_same party_count (line_of entry) (line_for acc s) line_given)
