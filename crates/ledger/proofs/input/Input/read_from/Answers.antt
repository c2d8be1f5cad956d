use Rattle.std.proofs.Common.{◌≡◌, ◌+◌, ◌++◌, ◌≤◌, ℕ, List, length, take, arith, sym, ap, ◌∙◌}
use Rattle.std.proofs.lemmas.List.{take-append-le, length-take-le}
use Rattle.std.proofs.Math.Seq.{take-append-add}
use Rattle.ledger.proofs.input.Input.read_from.Goals as goal

-- bytes that are read into a buffer after those that it held
filled : (a n : ℕ) (xs ys zs : List ℕ) → a ≤ length xs → n ≤ length ys
    → take (a + n) (take a xs ++ (ys ++ zs)) ≡ take a xs ++ take n ys
filled a n xs ys zs p q =
    let size : length (take a xs) ≡ a = length-take-le a xs p in
    ap (λ (k : ℕ). take (k + n) (take a xs ++ (ys ++ zs))) (sym size)
    ∙ take-append-add (take a xs) (ys ++ zs) n
    ∙ ap (λ (l : List ℕ). take a xs ++ l) (take-append-le n ys zs q)

pub returns : goal.returns
returns g c =
    let size = length-take-le c.args.self.now.end c.args.self.now.bytes (omega arith) in (
      take c.in_ok-count.count c.read.new.buf,
      filled c.args.self.now.end c.in_ok-count.count c.args.self.now.bytes c.read.new.buf _ (omega arith) c.in_ok-count.ensures.bound.0,
      sym c.in_ok-count.ensures.bound.1,
      c.in_ok-count.ensures.bytes.0,
      λ none room. c.in_ok-count.ensures.bytes.1 none (omega arith),
    )
