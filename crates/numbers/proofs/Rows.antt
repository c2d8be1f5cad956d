-- Laws of tables of figures.
use Rattle.std.proofs.Common.{List, [], ◌∷◌, ◌++◌, map}
use Rattle.numbers.specs.Rows.{EachGiven}

-- rows under another name, before other rows
pub each_renamed : {A B : Type 0} (given : B → Type 0) (name : A → B) (rows : List A) (more : List B) → EachGiven (λ r. given (name r)) rows
    → EachGiven given more → EachGiven given (map name rows ++ more)
each_renamed given name [] more all rest = rest
each_renamed given name (r ∷ rs) more all rest = (all.0, each_renamed given name rs more all.1 rest)
