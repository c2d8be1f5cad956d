-- A record that row 6 does not fit: each of its numbers is in its field's range, and its own rule holds.
use Rattle.std.proofs.Common.{◌≡◌, true, List, [], ◌∷◌, ℕ}
use Rattle.numbers.proofs.Tests.{both_true}
use Rattle.records.specs.Format.{Field, fields_fit}
use Rattle.records.specs.Kinds.{Decoded, format_of, numbers_of}
use Rattle.rules.specs.Refusal.{numbers_fit, own_rule, in_range}

-- number by number; the first is `.0`, the next `.1 .0`, and so on
abbrev pub EachFits : List Field → List ℕ → Type 0
EachFits [] ns = Unit {0}
EachFits (f ∷ fs) [] = Unit {0}
EachFits (f ∷ fs) (n ∷ ns) = (f.holds n ≡ true) × EachFits fs ns

each_fits : (fs : List Field) (ns : List ℕ) → fields_fit fs ns ≡ true → EachFits fs ns
each_fits [] ns e = tt
each_fits (f ∷ fs) [] e = tt
each_fits (f ∷ fs) (n ∷ ns) e = let both = both_true {a = f.holds n} e in (both.0, each_fits fs ns both.1)

pub numbers_fit_lem : (y : ℕ) (r : Decoded) → in_range y r ≡ true → EachFits (format_of r).fields (numbers_of r)
unfolding in_range numbers_fit
numbers_fit_lem y r e = each_fits (format_of r).fields (numbers_of r) (both_true {a = numbers_fit r} e).0

pub rule_holds : (y : ℕ) (r : Decoded) → in_range y r ≡ true → own_rule y r ≡ true
unfolding in_range
rule_holds y r e = (both_true {a = numbers_fit r} e).1
