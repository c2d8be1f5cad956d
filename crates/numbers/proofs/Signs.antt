-- What the public function answers of a difference in range.
use Rattle.std.proofs.Common.{◌≡◌, ◌^◌, ◌<◌, ℕ, lt-ltb}
use lib.IntN.{sub_ℕ}
use Rattle.numbers.specs.Signed.{difference_answer}

pub difference_answered : {a b : ℕ} → a < 2 ^ 63 → b < 2 ^ 63 → difference_answer a b ≡ sub_ℕ a b
unfolding difference_answer
difference_answered {a} {b} ha hb = simp (lt-ltb a (2 ^ 63) ha, lt-ltb b (2 ^ 63) hb)
