-- What the output is to hold at the end, in whatever parts the input is read. 01, The ledger program.
use Rattle.std.specs.Prelude.{◌≡◌, ◌≢◌, List, [], ◌++◌, ℕ, Option, Some, None}
use Rattle.std.specs.declared.ops.ControlFlow.{ControlFlow}
use Rattle.std.specs.declared.ops.ControlFlow.TheVariants.{Continue, Break}
use Rattle.std.specs.Io.KnownBytes.{Keeps, Appends, Consumes}
use Rattle.records.specs.declared.stream.Next.TheVariants.{Partial}
use Rattle.records.specs.Stream.{next_record}
use Rattle.report.specs.declared.pass.Stop.TheVariants as stop
use Rattle.report.specs.Passes.{State, state_of, passed, printed_from}
use Rattle.report.specs.Pieces.{Reading, reading, turned}
use Rattle.ledger.specs.declared.standing.Ledger.{Ledger}
use Rattle.ledger.specs.Unread.{unread}

-- the most bytes of a whole record: its head's 3 and its value's 32
abbrev pub record_most : ℕ
record_most = 35

-- no whole record is there, and none that is broken
abbrev pub IsCut : List ℕ → Type 0
IsCut s = next_record s ≡ Partial

-- What the output holds at the end of a run that has a state, bytes that are still to be tried, and bytes that are still to be
-- read, where it is known what the output holds and what is to be read.
abbrev pub outcome : Option (List ℕ) → State → List ℕ → Option (List ℕ) → Option (List ℕ)
outcome (Some printed) r s (Some rest) = Some (printed ++ printed_from r (s ++ rest))
outcome (Some printed) r s None = None
outcome None r s rest = None

-- the same, of where a run stands
abbrev pub outlook : {i o : ℕ} → Option (List ℕ) → Ledger i o → Option (List ℕ) → Option (List ℕ)
outlook printed l rest = outcome printed (state_of l.report l.text.items) (unread l.input) rest

-- what a run holds, of which nothing is printed
abbrev pub held : {i o : ℕ} → Ledger i o → Reading
held l = reading [] (state_of l.report l.text.items) (unread l.input)

-- a piece was read, perhaps an empty one, and what was printed and is held is that of a reading with it
abbrev pub GoesOn : Option (List ℕ) → Option (List ℕ) → Option (List ℕ) → Option (List ℕ) → Reading → (List ℕ → Reading) → Type 0
GoesOn printed printed' rest rest' now after =
    (piece : List ℕ) × Consumes rest rest' piece × Appends printed printed' (after piece).printed × (now.state ≡ (after piece).state)
    × (now.left ≡ (after piece).left)

-- the piece stands after what was there, and nothing is printed
abbrev pub ReadsOn : {i o : ℕ} → Option (List ℕ) → Option (List ℕ) → Option (List ℕ) → Option (List ℕ) → Ledger i o → Ledger i o → Type 0
ReadsOn printed printed' rest rest' l l' = GoesOn printed printed' rest rest' (held l') (λ piece. reading [] (held l).state ((held l).left ++ piece))

-- a turn that goes on is one of the `turns` over the pieces of an input, after a pass that met no broken record
abbrev pub Turns : {i o : ℕ} → Option (List ℕ) → Option (List ℕ) → Option (List ℕ) → Option (List ℕ) → Ledger i o → Ledger i o → Type 0
Turns {i} {o} printed printed' rest rest' l l' =
    ((passed o (held l).state (held l).left).stop ≢ stop.Broken)
    × GoesOn printed printed' rest rest' (held l') (λ piece. turned (held l) piece (passed o (held l).state (held l).left))

-- after the last turn the output holds what it was to hold at the end
abbrev pub Follows : Option (List ℕ) → Option (List ℕ) → Type 0 → ControlFlow (Unit {0}) (Unit {0}) → Type 0
Follows before printed goes_on (Break done) = Keeps before printed
Follows before printed goes_on (Continue more) = goes_on
