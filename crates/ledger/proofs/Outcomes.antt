-- What the output is to hold at the end of a run, from turn to turn.
use Rattle.std.proofs.Common.{◌≡◌, ◌≢◌, refl, List, [], ◌++◌, ℕ, ◌+◌, ◌^◌, ◌≤◌, ◌<◌, length, drop, Option, Some, None, Result, Ok, Err, IfOk, sym, ap, ◌∙◌}
use Rattle.std.proofs.Common.{subst, append_assoc}
use Rattle.std.specs.declared.ops.ControlFlow.{ControlFlow}
use Rattle.std.proofs.Common.{Continue, Break, false}
use Rattle.std.specs.Option.{is_some}
use Rattle.std.specs.ControlFlow.{break_value}
use mathlib.Core.Bool.{false≢true}
use Rattle.std.specs.Io.KnownBytes.{Keeps, Consumes, Appends, IsAtEnd}
use Rattle.std.proofs.lemmas.List.{append-nil}
use Rattle.std.proofs.lemmas.Option.{same_Some}
use Rattle.report.specs.declared.pass.Stop.{Stop}
use Rattle.report.specs.declared.pass.Stop.TheVariants as stop
use Rattle.report.specs.Passes.{State, Stopped, stopped, passed, run_of, printed_from, ended, closed, emptied, room, finish_answer}
use Rattle.report.specs.Pieces.{Reading, reading, turned, after_text}
use Rattle.report.proofs.Passing.{finish_room}
use Rattle.report.proofs.Joined.{PassedOn, passed_on, from_stop, run_at_end, text_first}
use Rattle.ledger.specs.Unread.{Reads}
use Rattle.ledger.specs.Input.{IsCut, outcome, GoesOn, Follows}

-- what is printed at the end, by where the run ends
printed_by : {x : State} (r : State) (s : List ℕ) → run_of r s ≡ x → printed_from r s ≡ closed x
unfolding printed_from
printed_by r s e = ap closed e

closed_after : (text : List ℕ) (r : State) → closed (after_text text r) ≡ text ++ closed r
unfolding closed
closed_after text r = append_assoc text r.text _

pub keeps_on : (x y z : Option (List ℕ)) → Keeps x y → Keeps y z → Keeps x z
keeps_on None y z p q = tt
keeps_on (Some xs) None z p q = absurd p
keeps_on (Some xs) (Some ys) None p q = absurd q
keeps_on (Some xs) (Some ys) (Some zs) p q = q ∙ p

-- records of the buffer are tried
outcome_pass : (printed : Option (List ℕ)) (r r' : State) (s s' : List ℕ) (rest : Option (List ℕ))
    → ((xs : List ℕ) → printed_from r (s ++ xs) ≡ printed_from r' (s' ++ xs))
    → Keeps (outcome printed r s rest) (outcome printed r' s' rest)
outcome_pass None r r' s s' rest e = tt
outcome_pass (Some p) r r' s s' None e = tt
outcome_pass (Some p) r r' s s' (Some xs) e = ap (λ (x : List ℕ). p ++ x) (sym (e xs))

-- the input ended at a cut record: the last lines are printed
pub outcome_at_end : (printed printed' : Option (List ℕ)) (r : State) (s bs : List ℕ) (rest rest' : Option (List ℕ))
    → IsCut s → bs ≡ [] → Consumes rest rest' bs → IsAtEnd rest' → Appends printed printed' (closed (ended r s))
    → Keeps (outcome printed r s rest) printed'
outcome_at_end None printed' r s bs rest rest' cut none read end a = tt
outcome_at_end (Some p) printed' r s bs None rest' cut none read end a = tt
outcome_at_end (Some p) printed' r s bs (Some xs) None cut none read end a = absurd read
outcome_at_end (Some p) None r s bs (Some xs) (Some ys) cut none read end a = absurd a
outcome_at_end (Some p) (Some q) r s bs (Some xs) (Some ys) cut none read end a =
    let nothing : xs ≡ [] = cc in
    let all : s ++ xs ≡ s = ap (λ (x : List ℕ). s ++ x) nothing ∙ append-nil s in
    a ∙ ap (λ (x : List ℕ). p ++ x) (sym (ap (λ (x : List ℕ). printed_from r x) all ∙ printed_by r s (run_at_end r s cut)))

-- a broken record came: the last line is printed
outcome_at_break : (printed printed' : Option (List ℕ)) (text : List ℕ) (r : State) (s : List ℕ) (rest : Option (List ℕ))
    → ((xs : List ℕ) → printed_from r (s ++ xs) ≡ text) → Appends printed printed' text → Keeps (outcome printed r s rest) printed'
outcome_at_break None printed' text r s rest e a = tt
outcome_at_break (Some p) printed' text r s None e a = tt
outcome_at_break (Some p) None text r s (Some xs) e a = absurd a
outcome_at_break (Some p) (Some q) text r s (Some xs) e a = a ∙ ap (λ (x : List ℕ). p ++ x) (sym (e xs))

-- a text is printed before what is still to come
text_printed : (r : State) (s : List ℕ) → closed (run_of r s) ≡ r.text ++ printed_from (emptied r) s
unfolding printed_from
text_printed r s = ap closed (text_first r s) ∙ closed_after r.text (run_of (emptied r) s)

-- what is printed after a turn that goes on is what was to be printed before it
turn_printed : (r r' : State) (s piece xs : List ℕ) (next : ℕ) (why : Stop) → (why ≢ stop.Broken)
    → run_of r (s ++ (piece ++ xs)) ≡ from_stop why r' (drop next s ++ (piece ++ xs))
    → (turned (reading [] r s) piece (stopped r' next why)).printed
    ++ printed_from (turned (reading [] r s) piece (stopped r' next why)).state ((turned (reading [] r s) piece (stopped r' next why)).left ++ xs)
    ≡ printed_from r (s ++ (piece ++ xs))
turn_printed r r' s piece xs next stop.Full goes same =
    ap (λ (l : List ℕ). r'.text ++ printed_from (emptied r') l) (append_assoc (drop next s) piece xs)
    ∙ sym (text_printed r' (drop next s ++ (piece ++ xs)))
    ∙ sym (printed_by r (s ++ (piece ++ xs)) same)
turn_printed r r' s piece xs next stop.Partial goes same =
    ap (printed_from r') (append_assoc (drop next s) piece xs)
    ∙ printed_by r' (drop next s ++ (piece ++ xs)) refl
    ∙ sym (printed_by r (s ++ (piece ++ xs)) same)
turn_printed r r' s piece xs next stop.Broken goes same = absurd (goes refl)

-- and the output is to hold the same
pub turn_keeps : (size : ℕ) (r : State) (s : List ℕ) (now : Reading) (printed printed' rest rest' : Option (List ℕ))
    → ((passed size r s).stop ≢ stop.Broken) × GoesOn printed printed' rest rest' now (λ piece. turned (reading [] r s) piece (passed size r s))
    → Keeps (outcome printed r s rest) (outcome printed' now.state now.left rest')
turn_keeps size r s now None printed' rest rest' h = tt
turn_keeps size r s now (Some p) printed' None rest' h = tt
turn_keeps size r s now (Some p) printed' (Some xs) None (goes, (piece, read, put, state, left)) = absurd read
turn_keeps size r s now (Some p) None (Some xs) (Some ys) (goes, (piece, read, put, state, left)) = absurd put
turn_keeps size r s now (Some p) (Some q) (Some xs) (Some ys) (goes, (piece, read, put, state, left)) =
    let w = passed size r s in
    rw (read, put, state, left)
    (append_assoc p _ _
    ∙ ap (λ (x : List ℕ). p ++ x) (turn_printed r w.state s piece ys w.next w.stop goes ((passed_on size r s (piece ++ ys)).same)))

-- nothing is read, and nothing is printed
consumes_none : (rest rest' : Option (List ℕ)) → Keeps rest rest' → Consumes rest rest' []
consumes_none None rest' k = tt
consumes_none (Some xs) None k = absurd k
consumes_none (Some xs) (Some ys) k = sym k

keeps_all : (known : Option (List ℕ)) → Keeps known known
keeps_all None = tt
keeps_all (Some xs) = refl

appends_none : (printed : Option (List ℕ)) → Appends printed printed []
appends_none None = tt
appends_none (Some xs) = sym (append-nil xs)

-- a read goes on with the bytes that it gave, none where it failed
pub reads_on : {E : Type 0} (size : ℕ) (r : State) (s s' : List ℕ) (printed rest rest' : Option (List ℕ)) (x : Result ℕ E) → Reads size rest rest' s s' x
    → GoesOn printed printed rest rest' (reading [] r s') (λ piece. reading [] r (s ++ piece))
reads_on size r s s' printed rest rest' (Ok n) (bs, whole, long, read, end) = (bs, read, appends_none printed, refl, whole)
reads_on size r s s' printed rest rest' (Err e) (same, kept) =
    ([], consumes_none rest rest' kept, appends_none printed, refl, same ∙ sym (append-nil s))

-- a turn that is no last one goes on
pub no_break : {A : Type 0} (before printed : Option (List ℕ)) (next : ControlFlow (Unit {0}) (Unit {0})) → false ≡ is_some (break_value next)
    → Follows before printed A next → A
no_break before printed (Break done) e h = absurd (false≢true e)
no_break before printed (Continue more) e h = h

follows_on : (before now printed : Option (List ℕ)) {A B : Type 0} (next : ControlFlow (Unit {0}) (Unit {0})) → Keeps before now → (A → B)
    → Follows now printed A next → Follows before printed B next
follows_on before now printed (Break done) k f h = keeps_on before now printed k h
follows_on before now printed (Continue more) k f h = f h

pub all_follow : {E : Type 0} (x : Result (ControlFlow (Unit {0}) (Unit {0})) E) (before now printed : Option (List ℕ)) {A B : Type 0}
    → Keeps before now → (A → B) → IfOk x (λ next. Follows now printed A next) → IfOk x (λ next. Follows before printed B next)
all_follow (Ok next) before now printed k f h = follows_on before now printed next k f h
all_follow (Err e) before now printed k f h = tt

-- A turn: a pass over the bytes s that are there, and what it leaves of them, s'.
module _ (size : ℕ) (r r' : State) (s s' : List ℕ) (next : ℕ) (why : Stop)
    (e : stopped r' next why ≡ passed size r s) (left : s' ≡ drop next s) where
  turn_passed : (xs : List ℕ) → PassedOn r s 0 xs (stopped r' next why)
  turn_passed xs = subst (λ (x : Stopped). PassedOn r s 0 xs x) (sym e) (passed_on size r s xs)

  goes_on : {u : Stop} → why ≡ u → (xs : List ℕ) → printed_from r (s ++ xs) ≡ closed (from_stop u r' (s' ++ xs))
  goes_on q xs = printed_by r (s ++ xs) (rw (q, sym left) at ((turn_passed xs).same))

  abbrev pub Goes : Option (List ℕ) → Option (List ℕ) → Option (List ℕ) → Option (List ℕ) → Reading → Stopped → Type 0
  Goes printed printed' rest rest' now p = (p.stop ≢ stop.Broken) × GoesOn printed printed' rest rest' now (λ piece. turned (reading [] r s) piece p)

  pub full_turn : (printed printed' rest : Option (List ℕ)) {x : State} → why ≡ stop.Full → x ≡ emptied r' → Appends printed printed' r'.text
      → Goes printed printed' rest rest (reading [] x s') (passed size r s)
  full_turn printed printed' rest {x} q empty a =
      subst (Goes printed printed' rest rest (reading [] x s')) e
      (rw q ((λ z. absurd (cc)), ([], consumes_none rest rest (keeps_all rest), a, empty, left ∙ sym (append-nil (drop next s)))))

  pub read_turn : (printed printed' rest rest' : Option (List ℕ)) (now : Reading) → why ≡ stop.Partial
      → GoesOn printed printed' rest rest' now (λ piece. reading [] r' (s' ++ piece)) → Goes printed printed' rest rest' now (passed size r s)
  read_turn printed printed' rest rest' now q (piece, read, put, state, held) =
      subst (Goes printed printed' rest rest' now) e
      (rw q ((λ z. absurd (cc)), (piece, read, put, state, held ∙ ap (λ (l : List ℕ). l ++ piece) left)))

  pub broken_turn : (printed printed' rest : Option (List ℕ)) (text : List ℕ) → why ≡ stop.Broken → text ≡ closed r' → Appends printed printed' text
      → Keeps (outcome printed r s rest) printed'
  broken_turn printed printed' rest text q last a = outcome_at_break printed printed' text r s rest (λ xs. goes_on q xs ∙ sym last) a

  pub partial_turn : (printed rest : Option (List ℕ)) → why ≡ stop.Partial → Keeps (outcome printed r s rest) (outcome printed r' s' rest)
  partial_turn printed rest q = outcome_pass printed r r' s s' rest (λ xs. goes_on q xs ∙ sym (printed_by r' (s' ++ xs) refl))

  pub partial_cut : why ≡ stop.Partial → IsCut s'
  partial_cut q = rw left ((turn_passed []).partial q)

-- the texts of the last lines
pub last_lines : (size : ℕ) (r : State) (s bs all text : List ℕ) → length r.text + room ≤ size → r.tried + 1 < 2 ^ 64
    → Some text ≡ finish_answer size r all → all ≡ s ++ bs → bs ≡ [] → text ≡ closed (ended r s)
last_lines size r s bs all text has_room few e whole none =
    let same : all ≡ s = whole ∙ ap (λ (l : List ℕ). s ++ l) none ∙ append-nil s in
    same_Some text (closed (ended r s)) (e ∙ finish_room size r all has_room few ∙ ap (λ (l : List ℕ). Some (closed (ended r l))) same)
