-- Numbers as settle_book prints them (document 01, example M).
use Rattle.std.specs.Prelude.{cond, List, [], ◌∷◌, ◌++◌, ℕ, zero, suc, ◌+◌, ◌/◌, ◌%◌, ltb, ℤ, pos, negsuc}
use Rattle.numbers.specs.PointNumbers.{digit0}
use Rattle.lines.specs.Ascii.{ascii}

-- at most n digits
unfoldable pub digits_of : ℕ → ℕ → List ℕ
digits_of zero m = []
digits_of (suc n) m = cond (ltb m 10) ((digit0 + m) ∷ []) (digits_of n (m / 10) ++ (digit0 + m % 10) ∷ [])

-- one of 64 bits has at most twenty digits
abbrev pub most_digits : ℕ
most_digits = 20

-- 'numbers are decimal with no leading zeros'
abbrev pub decimal : ℕ → List ℕ
decimal m = digits_of most_digits m

-- 'month and day always two digits'
abbrev pub two_digits : ℕ → List ℕ
two_digits m = cond (ltb m 10) (ascii "0" ++ decimal m) (decimal m)

-- 'a minus sign stands before one below zero'
abbrev pub signed : ℤ → List ℕ
signed (pos m) = decimal m
signed (negsuc m) = ascii "-" ++ decimal (suc m)
