-- Lists by their elements: the arrays that functions return are stated so.
use Rattle.std.specs.Prelude.{List, [], ◌∷◌, ◌++◌, ℕ, zero, suc, get_or}

-- f 0, f 1, .. , f (n - 1)
unfoldable pub list_below : {A : Type 0} → ℕ → (ℕ → A) → List A
list_below zero f = []
list_below (suc n) f = list_below n f ++ (f n ∷ [])

-- number k of a list; past its end 0
abbrev pub element : List ℕ → ℕ → ℕ
element l k = get_or l k 0
