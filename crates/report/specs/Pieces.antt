-- An input that is read in pieces, cut anywhere: what a run over it holds between two turns, as `ledger` carries it on. 01, The
-- ledger program.
use Rattle.std.specs.Prelude.{List, [], ◌∷◌, ◌++◌, ℕ, drop}
use Rattle.report.specs.declared.pass.Stop.{Stop}
use Rattle.report.specs.declared.pass.Stop.TheVariants as stop
use Rattle.report.specs.Passes.{State, Stopped, standing, passed, run_of, emptied}

-- what was printed, where the run stands, and the bytes that were read and are still to be tried
pub record Reading : Type 0 where
  pub printed : List ℕ
  pub state : State
  pub left : List ℕ

abbrev pub reading : List ℕ → State → List ℕ → Reading
reading printed r left = record { printed = printed; state = r; left = left }

-- what follows from why a pass stopped
abbrev pub on_stop : {A : Type 0} → A → A → A → Stop → A
on_stop full partial broken stop.Full = full
on_stop full partial broken stop.Partial = partial
on_stop full partial broken stop.Broken = broken

-- After a pass: a full text is printed, and the next piece stands after what is left; after a broken record nothing is left.
abbrev pub turned : Reading → List ℕ → Stopped → Reading
turned i piece p =
    on_stop
    (reading (i.printed ++ p.state.text) (emptied p.state) (drop p.next i.left ++ piece))
    (reading i.printed p.state (drop p.next i.left ++ piece))
    (reading i.printed p.state [])
    p.stop

-- A turn for each piece, with a text of so many bytes at most; after a broken record no more is read. A piece may be empty: so it
-- is after a full text, where `ledger` reads nothing.
unfoldable pub turns : ℕ → Reading → List (List ℕ) → Reading
turns size i [] = i
turns size i (piece ∷ pieces) =
    on_stop
    (turns size (turned i piece (passed size i.state i.left)) pieces)
    (turns size (turned i piece (passed size i.state i.left)) pieces)
    (turned i piece (passed size i.state i.left))
    (passed size i.state i.left).stop

-- a state with a text before its own
abbrev pub after_text : List ℕ → State → State
after_text text r = standing r.book r.tried r.accepted (text ++ r.text)

-- where the run ends, if nothing more is read: the text is all that was printed, and what is still to be printed
abbrev pub whole : Reading → State
whole i = after_text i.printed (run_of i.state i.left)
