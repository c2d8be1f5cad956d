-- What is printed, as bytes in ASCII: 82 is R, 80 P, 69 E, 48 to 57 the digits, 45 the minus sign, 32 a blank and 10 the end of a line.
-- 01, The ledger program.
use Rattle.std.specs.Prelude.{cond, List, [], ◌∷◌, ◌++◌, ℕ, zero, suc, ◌+◌, ◌*◌, ◌/◌, ◌%◌, ℤ, pos, negsuc, nat_abs, eqb, ltb, get_or}
use Rattle.money.specs.declared.Cents.{Cents}
use Rattle.money.specs.Quantities.{cents}
use Rattle.records.specs.Format.{party_count}
use Rattle.book.specs.Entered.{Answer}

abbrev pub digit : ℕ → ℕ
digit d = 48 + d

-- the decimal digits of n, the highest first, without leading zeros; n has at most `most` of them
unfoldable pub digits_of : ℕ → ℕ → List ℕ
digits_of zero n = []
digits_of (suc most) n = cond (ltb n 10) (digit n ∷ []) (digits_of most (n / 10) ++ digit (n % 10) ∷ [])

unfoldable pub decimal : ℕ → List ℕ
decimal n = digits_of (suc n) n

-- a number below 0 has a minus sign
abbrev pub signed : ℤ → List ℕ
signed (pos n) = decimal n
signed (negsuc n) = 45 ∷ decimal (suc n)

-- each number of a line follows a blank
abbrev pub field : List ℕ → List ℕ
field number = 32 ∷ number

-- lines end in a line feed
abbrev pub line_end : List ℕ
line_end = 10 ∷ []

-- `R n c`: the n-th record tried is refused with number c
unfoldable pub refused_line : ℕ → ℕ → List ℕ
refused_line n c = 82 ∷ [] ++ field (decimal n) ++ field (decimal c) ++ line_end

-- `P a p v`: a post of area a has the line v for party p
unfoldable pub party_line : ℕ → ℕ → ℤ → List ℕ
party_line a p v = 80 ∷ [] ++ field (decimal a) ++ field (decimal p) ++ field (signed v) ++ line_end

-- `E n k`: n records were tried, and k accepted
unfoldable pub end_line : ℕ → ℕ → List ℕ
end_line n k = 69 ∷ [] ++ field (decimal n) ++ field (decimal k) ++ line_end

-- only a line other than 0 is printed
abbrev pub unless_zero : ℕ → ℕ → ℤ → List ℕ
unless_zero a p v = cond (eqb (nat_abs v) 0) [] (party_line a p v)

-- the lines of the first n parties, ascending
unfoldable pub party_lines : ℕ → List Cents → ℕ → List ℕ
party_lines a lines zero = []
party_lines a lines (suc n) = party_lines a lines n ++ unless_zero a (suc n) (get_or lines n (cents (pos 0))).0

-- what the n-th record tried is answered with, `a` being the area if it is a Post
unfoldable pub answer_text : ℕ → ℕ → Answer → List ℕ
answer_text n a r = cond (eqb r.number 0) (party_lines a r.lines party_count) (refused_line n r.number)

-- The most bytes of each text, from those of its parts. A number of 64 bits has at most 20 digits.
abbrev pub digits_most : ℕ
digits_most = 20

-- a minus sign before it
abbrev pub signed_most : ℕ
signed_most = 1 + digits_most

-- a blank before either
abbrev pub field_most : ℕ
field_most = 1 + digits_most

abbrev pub signed_field_most : ℕ
signed_field_most = 1 + signed_most

-- the line of an R or an E: its letter, two numbers, its end
abbrev pub pair_most : ℕ
pair_most = 1 + field_most + field_most + 1

-- that of a P: its letter, area and party, the amount, its end
abbrev pub line_most : ℕ
line_most = 1 + field_most + field_most + signed_field_most + 1

-- sixteen of them
abbrev pub lines_most : ℕ
lines_most = party_count * line_most
