-- A log: strings end to end in one slice, and in another the place where each of them ends. Bytes past the last end belong to
-- no string.
use mathlib.Core.List.{flat_map}
use Rattle.std.specs.Prelude.{List, [], ◌∷◌, ◌++◌, map, ℕ, suc, ◌+◌, ◌-◌, ℤ, length, take, drop, set}
use Rattle.money.specs.declared.Cents.{Cents}
use Rattle.promise.specs.Promise.{Entry, number_of}

-- Each string begins where the one before it ends. Where that is past its own end, or past the end of the bytes, it is empty.
unfoldable pub strings_from : ℕ → List ℕ → List ℕ → List (List ℕ)
strings_from from bytes [] = []
strings_from from bytes (end ∷ ends) = take (end - from) (drop from bytes) ∷ strings_from end bytes ends

abbrev pub strings : List ℕ → List ℕ → List (List ℕ)
strings bytes ends = strings_from 0 bytes ends

-- where strings end that stand end to end from a place on
unfoldable pub ends_from : ℕ → List (List ℕ) → List ℕ
ends_from from [] = []
ends_from from (s ∷ ss) = (from + length s) ∷ ends_from (from + length s) ss

-- a list with these values at its start, as far as there is room, and further on as it was
abbrev pub stored : {A : Type 0} → List A → List A → List A
stored l vs = take (length l) vs ++ drop (length vs) l

-- the same from a place on, value by value, for the private functions of a log
unfoldable pub stored_from : {A : Type 0} → ℕ → List A → List A → List A
stored_from k l [] = l
stored_from k l (v ∷ vs) = stored_from (suc k) (set l k v) vs

-- the numbers of a run, and its lines, sixteen for each string
abbrev pub all_numbers : List Entry → List ℕ
all_numbers es = map number_of es

abbrev pub all_lines : List Entry → List ℤ
all_lines es = flat_map (λ (e : Entry). map (λ (c : Cents). c.0) e.answer.lines) es
