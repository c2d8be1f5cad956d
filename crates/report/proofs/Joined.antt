-- A run over an input is the same in whatever pieces the input is read.
use Rattle.std.proofs.Common.{◌≡◌, refl, Bool, true, false, List, [], ◌∷◌, ◌++◌, ℕ, zero, suc, ◌+◌, ◌≤◌, ◌<◌, ltb, length, take, drop, Err}
use Rattle.std.proofs.Common.{sym, ap, ◌∙◌, append_assoc, arith}
use Rattle.std.proofs.lemmas.List.{append-nil, take_all, drop-drop}
use Rattle.std.proofs.Math.ListN.{length-drop}
use mathlib.Core.List.{flatten}
use Rattle.records.specs.declared.stream.Next.{Next}
use Rattle.records.specs.declared.stream.Next.TheVariants.{Whole, Broken, Partial}
use Rattle.records.specs.declared.format.Fault.TheVariants as fault
use Rattle.records.specs.Decoded.{is_broken, decoded}
use Rattle.records.specs.Stream.{next_record, cut_at_end, first_strings, strings_of}
use Rattle.records.proofs.FormatLaws.{broken_stays, whole_least, whole_not_broken}
use Rattle.records.proofs.Strings.{strings_whole, strings_broken, strings_cut}
use Rattle.rules.specs.Rules.{refusal}
use Rattle.book.specs.Entered.{entered}
use Rattle.report.specs.declared.pass.Stop.{Stop}
use Rattle.report.specs.declared.pass.Stop.TheVariants as stop
use Rattle.report.specs.Passes.{State, Stopped, standing, stopped, room, pass_of, passed, tried, tried_all, run_of, ended, emptied}
use Rattle.report.specs.Pieces.{Reading, reading, on_stop, turned, turns, after_text, whole}

-- a string is tried by what it holds
tried_by : (r : State) (s t : List ℕ) → decoded s ≡ decoded t → tried r s ≡ tried r t
unfolding tried entered refusal
tried_by r s t e = rw e

broken_decoded : (s : List ℕ) → is_broken s ≡ true → decoded s ≡ Err fault.Broken
unfolding decoded
broken_decoded s e = rw e

-- a broken record is tried as it is, or with what follows
broken_tried : (r : State) (s t : List ℕ) → next_record s ≡ Broken → tried r (s ++ t) ≡ tried r s
broken_tried r s t e = tried_by r (s ++ t) s (holds t ∙ sym (rw (append-nil s) at (holds [])))
  where
    holds : (u : List ℕ) → decoded (s ++ u) ≡ Err fault.Broken
    holds u = broken_decoded (s ++ u) (rw (take_all (length (s ++ u)) (s ++ u) (omega arith)) at (broken_stays s e u (length (s ++ u))))

tried_after : (text : List ℕ) (r : State) (s : List ℕ) → tried (after_text text r) s ≡ after_text text (tried r s)
unfolding tried
tried_after text r s = simp append_assoc

-- a text that is there is printed first
all_after : (ss : List (List ℕ)) (text : List ℕ) (r : State) → tried_all (after_text text r) ss ≡ after_text text (tried_all r ss)
unfolding tried_all
all_after [] text r = refl
all_after (s ∷ ss) text r = ap (λ (x : State). tried_all x ss) (tried_after text r s) ∙ all_after ss text (tried r s)

pub text_first : (r : State) (s : List ℕ) → run_of r s ≡ after_text r.text (run_of (emptied r) s)
text_first r s =
    ap (λ (l : List ℕ). run_of (standing r.book r.tried r.accepted l) s) (sym (append-nil r.text))
    ∙ all_after (strings_of s) r.text (emptied r)

-- a run at a whole record, at a broken one and at a cut one
run_whole : (r : State) (s rest : List ℕ) (k : ℕ) → next_record s ≡ Whole k → run_of r (s ++ rest) ≡ run_of (tried r (take k s)) (drop k s ++ rest)
unfolding tried_all
run_whole r s rest k e = ap (tried_all r) (strings_whole s rest k e)

run_broken : (r : State) (s rest : List ℕ) → next_record s ≡ Broken → run_of r (s ++ rest) ≡ tried r s
unfolding tried_all
run_broken r s rest e = ap (tried_all r) (strings_broken s rest e) ∙ broken_tried r s rest e

cut_tried : (r : State) (s : List ℕ) → tried_all r (cut_at_end s) ≡ ended r s
unfolding tried_all
cut_tried r [] = refl
cut_tried r (b ∷ s) = refl

pub run_at_end : (r : State) (s : List ℕ) → next_record s ≡ Partial → run_of r s ≡ ended r s
run_at_end r s e = ap (tried_all r) (strings_cut s e) ∙ cut_tried r s

nothing_more : (r : State) → run_of r [] ≡ r
unfolding strings_of first_strings next_record tried_all
nothing_more r = refl

-- where a run ends that a pass stopped at: after a broken record, there
abbrev pub from_stop : Stop → State → List ℕ → State
from_stop why r s = on_stop (run_of r s) (run_of r s) r why

-- A pass over a part of the input stops where the run over all of it goes on.
pub record PassedOn (r : State) (s : List ℕ) (from : ℕ) (rest : List ℕ) (p : Stopped) : Type 0 where
  pub same : run_of r (drop from s ++ rest) ≡ from_stop p.stop p.state (drop p.next s ++ rest)
  pub partial : p.stop ≡ stop.Partial → next_record (drop p.next s) ≡ Partial

module _ (size : ℕ) (s rest : List ℕ) where
  pass_on : (n : ℕ) (r : State) (from : ℕ) → from ≤ length s → length s < from + n → PassedOn r s from rest (pass_of n size r s from)
  unfolding pass_of
  pass_on zero r from within enough = absurd (omega arith)
  pass_on (suc n) r from within enough = go (ltb size (length r.text + room)) (next_record (drop from s)) refl refl (pass_on n)
    where
      go : (full : Bool) (x : Next) → ltb size (length r.text + room) ≡ full → next_record (drop from s) ≡ x
          → ((r : State) (from : ℕ) → from ≤ length s → length s < from + n → PassedOn r s from rest (pass_of n size r s from))
          → PassedOn r s from rest (pass_of (suc n) size r s from)
      go true x f e further = rw f (record { same = refl; partial = λ q. absurd (cc) })
      go false Partial f e further = rw (f, e) (record { same = refl; partial = λ q. e })
      go false Broken f e further =
          rw (f, e)
          (record { same = run_broken r (drop from s) rest e; partial = λ q. absurd (cc) })
      go false (Whole k) f e further =
          let least = whole_least (drop from s) k e in
          let most = (whole_not_broken (drop from s) k e).0 in
          let there = length-drop from s in
          let next = further (tried r (take k (drop from s))) (from + k) (omega arith) (omega arith) in
          rw (f, e)
          (record {
            same =
                run_whole r (drop from s) rest k e
                ∙ ap (λ (x : List ℕ). run_of (tried r (take k (drop from s))) (x ++ rest)) (drop-drop k from s)
                ∙ next.same;
            partial = next.partial;
          })

pub passed_on : (size : ℕ) (r : State) (s rest : List ℕ) → PassedOn r s 0 rest (passed size r s)
passed_on size r s rest = pass_on size s rest (suc (length s)) r 0 (omega arith) (omega arith)

text_joined : (a b : List ℕ) (r : State) → after_text (a ++ b) r ≡ after_text a (after_text b r)
text_joined a b r = ap (standing r.book r.tried r.accepted) (append_assoc a b r.text)

-- a turn over what is there, and then the turns of the pieces that follow
module _ (size : ℕ) (i : Reading) (piece : List ℕ) (pieces : List (List ℕ)) (r : State) (next : ℕ) where
  abbrev all : List ℕ
  all = piece ++ flatten pieces

  abbrev left : List ℕ
  left = drop next i.left

  shifted : (x : State) → run_of x ((left ++ piece) ++ flatten pieces) ≡ run_of x (left ++ all)
  shifted x = ap (run_of x) (append_assoc left piece (flatten pieces))

  next_turn : (why : Stop) → run_of i.state (i.left ++ all) ≡ from_stop why r (left ++ all)
      → ((j : Reading) → whole (turns size j pieces) ≡ whole (reading j.printed j.state (j.left ++ flatten pieces)))
      → whole
      (on_stop
      (turns size (turned i piece (stopped r next why)) pieces)
      (turns size (turned i piece (stopped r next why)) pieces)
      (turned i piece (stopped r next why))
      why)
      ≡ whole (reading i.printed i.state (i.left ++ all))
  next_turn stop.Full same further =
      further (reading (i.printed ++ r.text) (emptied r) (left ++ piece))
      ∙ ap (after_text (i.printed ++ r.text)) (shifted (emptied r))
      ∙ text_joined i.printed r.text (run_of (emptied r) (left ++ all))
      ∙ ap (after_text i.printed) (sym (text_first r (left ++ all)) ∙ sym same)
  next_turn stop.Partial same further =
      further (reading i.printed r (left ++ piece)) ∙ ap (after_text i.printed) (shifted r ∙ sym same)
  next_turn stop.Broken same further = ap (after_text i.printed) (nothing_more r ∙ sym same)

pub pieces_joined : (size : ℕ) (i : Reading) (pieces : List (List ℕ)) → whole (turns size i pieces) ≡ whole (reading i.printed i.state (i.left ++ flatten pieces))
unfolding turns flatten
pieces_joined size i [] = ap (λ (l : List ℕ). after_text i.printed (run_of i.state l)) (sym (append-nil i.left))
pieces_joined size i (piece ∷ pieces) =
    let p = passed size i.state i.left in
    next_turn size i piece pieces p.state p.next p.stop ((passed_on size i.state i.left (piece ++ flatten pieces)).same)
    (λ j. pieces_joined size j pieces)
