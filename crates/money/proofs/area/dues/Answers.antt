use Rattle.std.proofs.Common.{◌≡◌, ◌∙◌, ◌+◌, ap, rules, arith}
use Rattle.numbers.specs.Signed.{above, difference_answer}
use Rattle.numbers.proofs.Arrays.{from_fn-is}
use Rattle.numbers.proofs.Signs.{difference_answered}
use Rattle.numbers.proofs.Sums.{sum_term}
use Rattle.money.specs.Quantities.{cents, cents_of}
use Rattle.money.proofs.area.dues.Goals as goal

pub returns : goal.returns
returns c =
    from_fn-is (λ f. (f.0.now ≡ c.args.credits) × (f.1.now ≡ c.args.load_shares) × (f.2.now ≡ c.args.charges)) _
    (λ f p y q b captured called.
    let credit = sum_term p 16 (λ k. above (cents_of c.args.credits k)) b in
    let load_share = sum_term p 16 (λ k. above (cents_of c.args.load_shares k)) b in
    let made : y ≡ cents (difference_answer (above (cents_of c.args.credits p) + above (cents_of c.args.load_shares p)) (above (cents_of c.args.charges p))) =
    search rules in
    (made ∙ ap cents (difference_answered (omega (arith, credit, load_share, c.requires)) (search rules)), search rules))
    (search rules) c.from_fn.ensures.items
