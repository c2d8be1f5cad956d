-- The lines of a post. 01, Area money.
use Rattle.std.specs.Prelude.{cond, ◌&&◌, List, ℤ, pos, nat_abs, ◌-ℤ◌, leb}
use Rattle.numbers.specs.Lists.{list_below}
use Rattle.money.specs.declared.Cents.{Cents}
use Rattle.money.specs.Quantities.{cents, cents_of}
use Rattle.money.specs.AreaMoney.{due_most}

-- The lines of a post. "Post gives all sixteen lines at once, each being due less the party's earlier lines in that area";
-- `earlier` is the sum of the party's earlier lines there.
unfoldable pub line : ℤ → ℤ → ℤ
line due earlier = due -ℤ earlier

-- What the public function answers. A due is within its bound (the law `due-bound`), and so is the sum of earlier lines,
-- which is an earlier due. Past that the line is 0.
unfoldable pub line_answer : ℤ → ℤ → ℤ
line_answer due earlier = cond (leb (nat_abs due) due_most && leb (nat_abs earlier) due_most) (line due earlier) (pos 0)

unfoldable pub lines_answer : List Cents → List Cents → List Cents
lines_answer dues earlier = list_below 16 (λ p. cents (line_answer (cents_of dues p) (cents_of earlier p)))
