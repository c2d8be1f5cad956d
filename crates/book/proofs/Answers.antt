-- From the number that rows 1 to 10 give to a string's answer.
use Rattle.std.proofs.Common.{◌≡◌, refl, sym, ap, ◌∙◌, Bool, true, false, cond, List, ℕ, suc, Result, Ok, Err, arith, eqb, get_or, ne_eqb}
use Rattle.std.specs.Result.{IsErrAnd, is_err}
use Rattle.numbers.specs.Lists.{element}
use Rattle.money.specs.declared.Cents.{Cents}
use Rattle.records.specs.declared.format.Fault.{Fault}
use Rattle.records.specs.declared.format.Record.{Record}
use Rattle.records.specs.declared.format.Record.TheVariants.{Post}
use Rattle.records.specs.Format.{post_format}
use Rattle.records.specs.Kinds.{Decoded, numbers_of, is_of}
use Rattle.records.specs.Decoded.{decoded}
use Rattle.rules.specs.declared.refusal.Asked.{Asked}
use Rattle.rules.specs.declared.refusal.Refusal.{Refusal}
use Rattle.rules.specs.declared.refusal.Refusal.TheVariants.{Broken, UnknownTag, WrongLength, NoYear, SecondYear, OutOfRange, NotEntered, SecondUnit, DeratedOut, NotLater, Undistributed}
use Rattle.rules.specs.Refusal.{has_fault, no_year, second_year, out_of_range, not_entered, second_unit, derated_out, not_later, row, refusal_of, row_number, number_of, IsRow}
use Rattle.rules.specs.Facts.{no_area}
use Rattle.rules.specs.Dues.{undistributed_in}
use Rattle.rules.specs.Rules.{area_index, area_named, unit_named, post_undistributed, asked_of, asked, refusal}
use Rattle.rules.proofs.AcceptedRows.{fault_row}
use Rattle.book.specs.declared.UnitEntry.{UnitEntry}
use Rattle.book.specs.Books.{Book, no_entry, facts_of_book, Sound}
use Rattle.book.specs.Entered.{Answer, posted_after, after, no_lines, post_lines, lines_of, answer, answered, entered}
use Rattle.book.specs.Steps.{with_posted, post_answer}
use Rattle.book.proofs.AreaMoney.{due_most_lem}
use Rattle.book.proofs.Soundness.{entered_sound}

-- what rows 1 to 10 ask of those that a record names
abbrev pub before : Book → Decoded → Asked
before b r =
    let u : UnitEntry = get_or b.units (unit_named r) no_entry in
    asked_of b.year (get_or b.areas (area_named r) no_area) u.entry u.last false

-- rows that give y without the last row, and x with it: where y is 0 the last row decides
record WithLast (last y x : ℕ) : Type 0 where
  is : x ≡ cond (eqb y 0) last y

row_before : (n : ℕ) (t : Bool) {last y x : ℕ} → WithLast last y x → WithLast last (row (suc n) t y) (row (suc n) t x)
row_before n true e = record { is = rw (ne_eqb (suc n) 0 (λ z. omega (arith, z))) }
row_before n false e = e

-- row 11 is asked where rows 1 to 10 do not fit
settled_row : (b : Book) (r : Decoded)
    → refusal_of (asked (facts_of_book b) r) r ≡ cond (eqb (refusal_of (before b r) r) 0) (cond (post_undistributed (facts_of_book b) r) 11 0) (refusal_of (before b r) r)
unfolding refusal_of
settled_row b r =
    let a : Asked = before b r in
    (row_before 0 (has_fault 1 r)
    (row_before 1 (has_fault 2 r)
    (row_before 2 (has_fault 3 r)
    (row_before 3 (no_year a r)
    (row_before 4 (second_year a r)
    (row_before 5 (out_of_range a r)
    (row_before 6 (not_entered a r)
    (row_before 7 (second_unit a r)
    (row_before 8 (derated_out a r)
    (row_before 9 (not_later a r) (last (is_of post_format r)))))))))))).is
  where
    left : Bool
    left = undistributed_in (facts_of_book b) (area_index (element (numbers_of r) 0))

    last : (t : Bool) → WithLast (cond (cond t left false) 11 0) (row 11 (cond t false false) 0) (row 11 (cond t (cond t left false) false) 0)
    last true = record { is = refl }
    last false = record { is = refl }

-- no row has the number 0
pub row_is : (x : Refusal) → row_number x ≡ 0 → ⊥
row_is Broken e = omega arith
row_is UnknownTag e = omega arith
row_is WrongLength e = omega arith
row_is NoYear e = omega arith
row_is SecondYear e = omega arith
row_is OutOfRange e = omega arith
row_is NotEntered e = omega arith
row_is SecondUnit e = omega arith
row_is DeratedOut e = omega arith
row_is NotLater e = omega arith
row_is Undistributed e = omega arith

pub no_row : (result : Result (Unit {0}) Refusal) → is_err result ≡ false → 0 ≡ number_of result
no_row (Ok u) e = refl
no_row (Err x) e = cc

module _ (b : Book) (s : List ℕ) where
  refused : (r : Decoded) (x : Refusal) → r ≡ decoded s → row_number x ≡ refusal_of (before b r) r → answer (row_number x) no_lines b ≡ entered b s
  unfolding entered refusal
  refused r x known e =
      let number : refusal_of (asked (facts_of_book b) (decoded s)) (decoded s) ≡ row_number x
      = rw (sym known) (settled_row b r ∙ rw (sym e, ne_eqb _ 0 (row_is x))) in
      rw (number, ne_eqb _ 0 (row_is x))

  -- rows 1 to 3 refuse it
  pub faulty : (f : Fault) (result : Result (List Cents) Refusal) → Err f ≡ decoded s → IsErrAnd result (IsRow f) → answered result b ≡ entered b s
  faulty f (Ok lines) known e = absurd e
  faulty f (Err x) known e = refused (Err f) x known (e ∙ fault_row (before b (Err f)) f)

  -- a record, and what was read at the indices that it names
  module _ {r : Record} (known : Ok r ≡ decoded s) {i j : ℕ} (area : i ≡ area_named (Ok r)) (unit : j ≡ unit_named (Ok r)) {a : Asked}
      (read : a ≡ asked_of b.year (get_or b.areas i no_area) (get_or b.units j no_entry).entry (get_or b.units j no_entry).last false) where
    number_is : {n : ℕ} → n ≡ refusal_of a (Ok r) → n ≡ refusal_of (before b (Ok r)) (Ok r)
    number_is e = e ∙ rw (read, area, unit)

    -- rows 4 to 10 refuse it
    unadmitted : (x : Refusal) → row_number x ≡ refusal_of a (Ok r) → answer (row_number x) no_lines b ≡ entered b s
    unadmitted x e = refused (Ok r) x known (number_is e)

    pub returned : (x : Refusal) (result : Result (List Cents) Refusal) → row_number x ≡ refusal_of a (Ok r) → IsErrAnd result (λ y. y ≡ x)
        → answered result b ≡ entered b s
    returned x (Ok lines) e is = absurd is
    returned x (Err y) e is = rw is (unadmitted x e)

    pub not_taken : (result : Result (Unit {0}) Refusal) → number_of result ≡ refusal_of a (Ok r) → is_err result ≡ true → eqb (entered b s).number 0 ≡ false
    not_taken (Ok u) e q = cc
    not_taken (Err x) e q = rw (sym (ap (λ (y : Answer). y.number) (unadmitted x e))) (ne_eqb _ 0 (row_is x))

    -- they let it pass, and row 11 too
    pub accepted : {b' : Book} → 0 ≡ refusal_of a (Ok r) → is_of post_format (Ok r) ≡ false → b' ≡ after b (Ok r) → answer 0 no_lines b' ≡ entered b s
    unfolding entered refusal
    accepted passed other book =
        let number : refusal_of (asked (facts_of_book b) (decoded s)) (decoded s) ≡ 0
        = rw (sym known) (settled_row b (Ok r) ∙ rw (sym (number_is passed), other)) in
        let lines : no_lines ≡ lines_of b (Ok r) = rw other in
        rw (number, ← known, book) (ap (λ (ls : List Cents). answer 0 ls (after b (Ok r))) lines)

    -- the book after it is sound
    pub sound_after : {b' : Book} → Sound b → 0 ≡ refusal_of a (Ok r) → is_of post_format (Ok r) ≡ false → b' ≡ after b (Ok r) → Sound b'
    sound_after sound passed other book =
        rw (ap (λ (x : Answer). x.book) (accepted passed other book)) (entered_sound b s sound (due_most_lem b sound))

    -- they let a Post pass
    pub posted : {p : ℕ} {x : Answer} → r ≡ Post p → 0 ≡ refusal_of a (Ok r) → x ≡ post_answer b (area_index p) → x ≡ entered b s
    unfolding entered refusal post_answer
    posted {p} {x} post passed given = given ∙ go (undistributed_in (facts_of_book b) (area_index p)) refl
      where
        this : decoded s ≡ Ok (Post p)
        this = sym known ∙ ap (λ (q : Record). Ok q) post

        number : refusal_of (asked (facts_of_book b) (Ok (Post p))) (Ok (Post p)) ≡ cond (undistributed_in (facts_of_book b) (area_index p)) 11 0
        number = settled_row b (Ok (Post p)) ∙ rw (sym (ap (λ (q : Record). refusal_of (before b (Ok q)) (Ok q)) post) ∙ sym (number_is passed))

        go : (t : Bool) → undistributed_in (facts_of_book b) (area_index p) ≡ t
            → cond t (answer 11 no_lines b) (answer 0 (post_lines b (area_index p)) (with_posted b (posted_after b (area_index p))))
            ≡ cond (eqb (refusal_of (asked (facts_of_book b) (decoded s)) (decoded s)) 0) (answer 0 (lines_of b (decoded s)) (after b (decoded s)))
            (answer (refusal_of (asked (facts_of_book b) (decoded s)) (decoded s)) no_lines b)
        go true q = rw (this, number, q)
        go false q = rw (this, number, q)
