use Rattle.std.proofs.Common.{◌≡◌, ◌∙◌, List, [], ℕ, ◌<◌, get_or, rules}
use Rattle.std.proofs.lemmas.List.FromFn.{fill_by_all}
use Rattle.numbers.specs.Lists.{element, list_below}
use Rattle.numbers.proofs.Lists.{list_below-is}
use Rattle.records.specs.Format.{party_count}
use Rattle.book.specs.Seen.{seen}
use Rattle.book.proofs.AreaMoney.{money_settled}
use Rattle.book.proofs.Book.area_settled.Goals as goal

pub returns : goal.returns
returns c =
    let row : List ℕ = get_or c.self.inside.obligations c.args.area [] in
    let made = c.from_fn-obligations.ensures.items in
    let at : (k : ℕ) → k < party_count → get_or c.from_fn-obligations.result k 0 ≡ element row k = λ k h. let called = made.at k 0 h in search rules in
    let loads : c.from_fn-obligations.result ≡ list_below party_count (element row) =
    rw (list_below-is party_count (element row)) (fill_by_all (element row) _ party_count 0 made.long at) in
    rw (← c.self.view_is)
    (money_settled (seen c.self.inside) c.self.invariant c.args.area c.requires (rw (← c.self.view_is) at c.area_nets-nets.ensures) loads
    (c.from-days.ensures ∙ c.delivery_days.ensures) (rw c.from.ensures at c.area_money.ensures))
