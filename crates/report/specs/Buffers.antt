-- What a function does to a buffer that it is lent: to its text, to its size, the most bytes that the text may have, and to its
-- place, by which the caller knows its own slice again.
use Rattle.std.specs.Prelude.{◌≡◌, List, ◌++◌, ℕ}

-- the text apart, it is the same buffer
abbrev pub Stays : {B : Type 0} → (B → ℕ) → (B → ℕ) → B → B → Type 0
Stays size place old new = (size new ≡ size old) × (place new ≡ place old)

-- so many bytes are put at the end of the text
abbrev pub Puts : {B : Type 0} → (B → List ℕ) → (B → ℕ) → (B → ℕ) → B → B → List ℕ → Type 0
Puts text size place old new bytes = (text new ≡ text old ++ bytes) × Stays size place old new
