-- Area money. 01, the section of that name; 002 (j) and (k). Party number p of 01 is p − 1 here.
-- The facts of an area: each party's net N and obligation, the price, and the days of the delivery year.
use Rattle.std.specs.Prelude.{Bool, cond, ◌&&◌, List, Result, Ok, Err, ℕ, ◌+◌, ◌-◌, ◌*◌, ◌/◌, ℤ, pos, eqb, ltb, leb}
use Rattle.std.proofs.Math.IntN.{sub_ℕ}
use Rattle.numbers.specs.Sum.{sum_below}
use Rattle.numbers.specs.Lists.{list_below, element}
use Rattle.numbers.specs.Signed.{above, below}
use Rattle.numbers.specs.Split.{split}
use Rattle.capacity.specs.declared.UnforcedWatts.{UnforcedWatts}
use Rattle.capacity.specs.Quantities.{watts_of}
use Rattle.capacity.specs.Shares.{net_most}
use Rattle.money.specs.declared.Cents.{Cents}
use Rattle.money.specs.declared.area.Undistributed.{Undistributed}
use Rattle.money.specs.Quantities.{cents}

-- N × price × days / 1,000,000: cents for so many watts at a price in cents per MW-day
unfoldable pub priced : ℕ → ℕ → ℕ → ℕ
priced watts price days = watts * price * days / 1000000

-- the most watts of an area's obligations: 16 parties × 100,000,000
abbrev pub obligations_most : ℕ
obligations_most = 1600000000

-- the most cents of a due: net_most × 50,000 × 366 / 1,000,000
abbrev pub due_most : ℕ
due_most = 2928000000

-- the shortfalls of all parties together are in range, and so are the excesses
unfoldable pub watts_in_range : (ℕ → ℤ) → Bool
watts_in_range N = leb (sum_below 16 (λ p. above (N p))) net_most && leb (sum_below 16 (λ p. below (N p))) net_most

module _ (N : ℕ → ℤ) (price days : ℕ) where
  -- C: the charge where N > 0
  unfoldable pub charge : ℕ → ℕ
  charge p = priced (above (N p)) price days

  -- M: the ceiling where N < 0
  unfoldable pub ceiling : ℕ → ℕ
  ceiling p = priced (below (N p)) price days

  -- R: the sum of C
  unfoldable pub charges : ℕ
  charges = sum_below 16 charge

  -- the sum of M
  unfoldable pub ceilings : ℕ
  ceilings = sum_below 16 ceiling

  -- if R is below the sum of M, R is split by M in party order; otherwise each gets its M
  unfoldable pub credit : ℕ → ℕ
  credit p = cond (ltb charges ceilings) (split charges 16 ceiling p) (ceiling p)

  -- what is left of R; nothing where R is below the sum of M
  unfoldable pub left : ℕ
  left = charges - ceilings

  module _ (obligation : ℕ → ℕ) where
    -- what is left is split over parties by obligation
    unfoldable pub load_share : ℕ → ℕ
    load_share p = split left 16 obligation p

    -- due = credit + load share − charge
    unfoldable pub due : ℕ → ℤ
    due p = sub_ℕ (credit p + load_share p) (charge p)

    -- refusal 11: money is left over and the area's obligations add up to 0
    unfoldable pub is_undistributed : Bool
    is_undistributed = ltb 0 left && eqb (sum_below 16 obligation) 0

    -- the ranges of 01, Records, and what follows from them
    unfoldable pub area_in_range : Bool
    area_in_range = leb price 50000 && (leb days 366 && (leb (sum_below 16 obligation) obligations_most && watts_in_range N))

    -- the sixteen dues
    abbrev pub each_due : List Cents
    each_due = list_below 16 (λ p. cents (due p))

    -- the sixteen dues; where refusal 11 fits, they stand in the error
    unfoldable pub settled : Result (List Cents) Undistributed
    settled = cond is_undistributed (Err (record { dues = each_due })) (Ok each_due)

-- What the public function answers. Out of these ranges refusal 11 does not fit and the dues are 0.
unfoldable pub money_answer : List UnforcedWatts → ℕ → ℕ → List ℕ → Result (List Cents) Undistributed
money_answer nets price days obligations =
    cond (area_in_range (watts_of nets) price days (element obligations))
    (settled (watts_of nets) price days (element obligations))
    (Ok (list_below 16 (λ p. cents (pos 0))))
