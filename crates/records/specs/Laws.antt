-- What the definitions of this folder give, for all arguments.
use mathlib.Core.List.{flatten}
use Rattle.std.specs.Prelude.{◌≡◌, Bool, true, false, ◌&&◌, List, [], ◌∷◌, ◌++◌, ℕ, ◌+◌, ◌≤◌, eqb, length, take}
use Rattle.records.specs.declared.stream.Next.TheVariants.{Whole, Broken, Partial}
use Rattle.records.specs.Format.{Field, Format, formats}
use Rattle.records.specs.Decoded.{is_broken}
use Rattle.records.specs.Stream.{next_record, strings_of}

-- the first field begins at `from`, each other where the one before it ends, and the last ends at `size`
abbrev pub adjoin_to : ℕ → List Field → ℕ → Bool
adjoin_to size [] from = eqb from size
adjoin_to size (f ∷ fs) from = eqb f.offset from && adjoin_to size fs (from + f.width)

abbrev pub adjoining : List Format → Bool
adjoining [] = true
adjoining (f ∷ fs) = adjoin_to f.size f.fields 0 && adjoining fs

pub record RecordLaws : Type 0 where
  -- the fields of every format fill its value, without gap or overlap
  pub fields_adjoin : adjoining formats ≡ true
  -- row 1 does not fit the record that a stream is cut at, and it is all there
  pub whole_not_broken : (s : List ℕ) (n : ℕ) → next_record s ≡ Whole n → (n ≤ length s) × (is_broken (take n s) ≡ false)
  -- what is broken for certain: row 1 fits it at any length, whatever follows
  pub broken_stays : (s : List ℕ) → next_record s ≡ Broken → (t : List ℕ) (n : ℕ) → is_broken (take n (s ++ t)) ≡ true
  -- what is not whole when the input ends is refused by row 1
  pub partial_broken : (s : List ℕ) → next_record s ≡ Partial → is_broken s ≡ true
  -- the strings that a stream is cut into, put end to end, are the stream
  pub strings_joined : (s : List ℕ) → flatten (strings_of s) ≡ s
