-- What a run over an input is, in whatever pieces it is read.
use Rattle.std.specs.Prelude.{◌≡◌, ◌≤◌, List, [], ◌++◌, ℕ, ◌+◌, length, replicate}
use mathlib.Core.List.{flatten}
use Rattle.records.specs.declared.stream.Next.TheVariants.{Partial}
use Rattle.records.specs.Stream.{next_record}
use Rattle.report.specs.Passes.{State, room, run_of, ended}
use Rattle.report.specs.Pieces.{Reading, reading, turns, whole}

pub record JoinedPieces : Type 0 where
  -- Text, counts and book are those of all pieces end to end, after what is there. That is so after any number of turns, and with a
  -- text of any size: with one in which no answer has room, turns only read on.
  pub joined : (size : ℕ) (i : Reading) (pieces : List (List ℕ)) → whole (turns size i pieces) ≡ whole (reading i.printed i.state (i.left ++ flatten pieces))
  -- of bytes without a whole record the run is what `Report::finish` does: a cut record is tried
  pub at_end : (r : State) (s : List ℕ) → next_record s ≡ Partial → run_of r s ≡ ended r s
  -- With room for an answer in an empty text, turns get through what is there: as many as its bytes and two, if nothing more is read,
  -- leave no whole record.
  pub gets_through : (size : ℕ) (i : Reading) (n : ℕ) → room ≤ size → length i.left + 2 ≤ n → next_record (turns size i (replicate n [])).left ≡ Partial
