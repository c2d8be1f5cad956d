use Rattle.std.proofs.Common.{◌∙◌, pos, sym, rules, arith, le-leb}
use borrow.Author.Tests.{lt-leb}
use Rattle.numbers.specs.Signed.{above, below}
use Rattle.numbers.proofs.Arrays.{map-is}
use Rattle.numbers.proofs.Tests.{passed, failed}
use Rattle.numbers.proofs.CappedSums.{capped_below, capped_test}
use Rattle.capacity.specs.Quantities.{unforced_watts, watts_of}
use Rattle.capacity.specs.Shares.{net_most}
use Rattle.money.specs.AreaMoney.{watts_in_range}
use Rattle.money.proofs.area.watts_in_range.Goals as goal

pub returns-then-capped_sum-le-NET_MOST : goal.returns-then-capped_sum-le-NET_MOST
unfolding watts_in_range
returns-then-capped_sum-le-NET_MOST c =
    let nets = c.args.nets in
    let shortfalls = map-is (λ f. Unit {0}) nets (unforced_watts (pos 0)) (λ p. above (watts_of nets p)) (λ f p y q b captured called. search rules) tt
    c.map.ensures.items in
    let excesses = map-is (λ f. Unit {0}) nets (unforced_watts (pos 0)) (λ p. below (watts_of nets p)) (λ f p y q b captured called. search rules) tt
    c.map-then-capped_sum-le-NET_MOST.ensures.items in
    sym (capped_test _ net_most (omega arith) (capped_below _ _ excesses c.capped_sum-then-capped_sum-le-NET_MOST.ensures))
    ∙ passed (capped_test _ net_most (omega arith) (capped_below _ _ shortfalls c.capped_sum.ensures) ∙ le-leb _ _ c.if-capped_sum-le-NET_MOST.true)

pub returns-else-capped_sum-le-NET_MOST : goal.returns-else-capped_sum-le-NET_MOST
unfolding watts_in_range
returns-else-capped_sum-le-NET_MOST c =
    let nets = c.args.nets in
    let shortfalls = map-is (λ f. Unit {0}) nets (unforced_watts (pos 0)) (λ p. above (watts_of nets p)) (λ f p y q b captured called. search rules) tt
    c.map.ensures.items in
    let past = lt-leb _ _ c.if-capped_sum-le-NET_MOST.false in
    past ∙ failed _ (capped_test _ net_most (omega arith) (capped_below _ _ shortfalls c.capped_sum.ensures) ∙ past)
