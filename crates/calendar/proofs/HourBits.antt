-- Hours of a day as bits.
use Rattle.std.proofs.Common.{◌≡◌, refl, ◌∙◌, Bool, true, false, cond, ℕ, ◌+◌, ◌-◌, ◌*◌, ◌^◌, ◌≤◌, ◌<◌, arith, eqb}
use Rattle.std.specs.Int.{bit_at}
use Rattle.numbers.specs.Range.{within}
use Rattle.numbers.proofs.Bits.{bit_below, low_bit, high_bit}
use Rattle.numbers.proofs.Tests.{within_from, within_to, within_holds}
use Rattle.calendar.specs.Peak.{day_hours, hour_bits, has_hour}

pub lowest_bit : has_hour 1 1 ≡ true
unfolding within
lowest_bit = refl

pub highest_bit : has_hour (128 * 65536) 24 ≡ true
unfolding within
highest_bit = refl

pub no_other_hour : (hours h : ℕ) → within 1 day_hours h ≡ false → has_hour hours h ≡ false
no_other_hour hours h e = rw e

-- an hour is among those at which f holds if f holds at it
pub bits_of_hours : (f : ℕ → Bool) (h : ℕ) → within 1 day_hours h ≡ true → has_hour (hour_bits f) h ≡ f h
bits_of_hours f h q =
    let from = within_from 1 day_hours h q in
    let to = within_to 1 day_hours h q in
    let same : h - 1 + 1 ≡ h = omega arith in
    rw (q, bit_below (λ k. f (k + 1)) day_hours (h - 1) (omega arith), same) (of_bit (f h))
  where
    of_bit : (t : Bool) → eqb (cond t 1 0) 1 ≡ t
    of_bit true = refl
    of_bit false = refl

module _ (a b c h : ℕ) (inside : within 1 8 h ≡ true) where
  from : 1 ≤ h
  from = within_from 1 8 h inside

  to : h ≤ 8
  to = within_to 1 8 h inside

  -- of two numbers of hours whose bits at two hours are the same
  same_hour : (x y i j : ℕ) → 1 ≤ i → i ≤ 24 → 1 ≤ j → j ≤ 24 → bit_at x (i - 1) ≡ bit_at y (j - 1) → has_hour x i ≡ has_hour y j
  same_hour x y i j fi ti fj tj e = rw (within_holds 1 24 i fi ti, within_holds 1 24 j fj tj, e)

  pub last_byte : has_hour (a * 65536 + b * 256 + c) h ≡ has_hour c h
  last_byte =
      let whole : a * 65536 + b * 256 + c ≡ c + (a * 256 + b) * 2 ^ 8 = omega arith in
      same_hour _ c h h from (omega (arith, to)) from (omega (arith, to)) (rw whole (low_bit 8 (h - 1) c (a * 256 + b) (omega (arith, from, to))))

  pub middle_byte : c < 256 → has_hour (a * 65536 + b * 256 + c) (h + 8) ≡ has_hour b h
  middle_byte few =
      let whole : a * 65536 + b * 256 + c ≡ (b + a * 2 ^ 8) * 2 ^ 8 + c = omega arith in
      let place : h + 8 - 1 ≡ 8 + (h - 1) = omega (arith, from) in
      same_hour _ b (h + 8) h (omega arith) (omega (arith, to)) from (omega (arith, to))
      (rw (whole, place) (high_bit 8 (h - 1) c (b + a * 2 ^ 8) few ∙ low_bit 8 (h - 1) b a (omega (arith, from, to))))

  pub first_byte : b < 256 → c < 256 → has_hour (a * 65536 + b * 256 + c) (h + 16) ≡ has_hour a h
  first_byte fb fc =
      let whole : a * 65536 + b * 256 + c ≡ a * 2 ^ 16 + (b * 256 + c) = omega arith in
      let place : h + 16 - 1 ≡ 16 + (h - 1) = omega (arith, from) in
      same_hour _ a (h + 16) h (omega arith) (omega (arith, to)) from (omega (arith, to)) (rw (whole, place) (high_bit 16 (h - 1) (b * 256 + c) a (omega (arith, fb, fc))))
