-- Ranges of numbers, both ends included.
use Rattle.std.specs.Prelude.{Bool, ◌&&◌, ℕ, leb}

-- x is one of first to last
unfoldable pub within : ℕ → ℕ → ℕ → Bool
within first last x = leb first x && leb x last
