use Rattle.std.proofs.Common.{◌≡◌, ◌∙◌, rules, pos, get_or, ℕ, length}
use Rattle.std.proofs.lemmas.List.{length-map}
use Rattle.numbers.proofs.Arrays.{map-is}
use Rattle.money.specs.Quantities.{cents}
use Rattle.promise.proofs.Storing.{amounts_of, amounts_are, stored_part}
use Rattle.promise.proofs.log.put_lines.Goals as goal

pub returns-clause-lines_after : goal.returns-clause-lines_after
returns-clause-lines_after c =
    let cs = c.args.amounts in
    let sixteen : length cs ≡ 16 = search rules in
    let amounts : c.map-amounts.result ≡ amounts_of cs =
    map-is (λ f. Unit {0}) cs (cents (pos 0)) (λ (p : ℕ). (get_or cs p (cents (pos 0))).0) (λ f p y q b captured called. search rules) tt
    c.map-amounts.ensures.items
    ∙ amounts_are cs sixteen in
    rw (c.copy_from_slice.ensures.after, amounts) (stored_part _ _ (amounts_of cs) c.requires (rw (c.min-end.ensures, length-map, sixteen)))
