-- The bytes that were read and are still to be tried.
use Rattle.std.specs.Prelude.{◌≡◌, ◌<◌, List, ◌++◌, ℕ, length, take, Option, Result, MatchResult}
use Rattle.std.specs.Io.KnownBytes.{Consumes, IsAtEnd, Keeps}
use Rattle.ledger.specs.declared.input.Input.{Input}

abbrev pub unread : {size : ℕ} → Input size → List ℕ
unread i = take i.end i.bytes

-- a read puts so many bytes of the reader after those that are there, and none only at its end or where there is no room
abbrev pub Reads : {E : Type 0} → ℕ → Option (List ℕ) → Option (List ℕ) → List ℕ → List ℕ → Result ℕ E → Type 0
Reads size rest rest' before after result =
    MatchResult result
    (λ n. (bs : List ℕ) × (after ≡ before ++ bs) × (length bs ≡ n) × Consumes rest rest' bs × (n ≡ 0 → length before < size → IsAtEnd rest'))
    (λ e. (after ≡ before) × Keeps rest rest')
