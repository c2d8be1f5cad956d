use Rattle.std.proofs.Common.{◌≡◌, rules}
use Rattle.numbers.specs.Lists.{list_below}
use Rattle.rules.specs.Facts.{no_area, no_commitment}
use Rattle.book.specs.Books.{no_entry}
use Rattle.book.proofs.Soundness.{empty_sound}
use Rattle.book.proofs.Book.new.Goals as goal

zeros : (c : goal.After-zero) → (c.default.result ≡ no_area) × (c.default-2.result ≡ no_entry) × (c.default-3.result ≡ no_commitment)
zeros c = search rules

pub returns : goal.returns
unfolding list_below
returns c = let (area, unit, commitment) = zeros c in simp (area, unit, commitment, c.zero.ensures)

pub invariant_of-result : goal.invariant_of-result
unfolding list_below
invariant_of-result c = let (area, unit, commitment) = zeros c in simp (area, unit, commitment, c.zero.ensures) empty_sound
