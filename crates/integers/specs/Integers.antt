-- Whole numbers with a sign.
use Rattle.std.specs.Prelude.{Bool, cond, List, [], ◌∷◌, ℕ, ◌-◌, ◌/◌, ◌%◌, ◌^◌, ltb, eqb, ℤ, pos, negsuc, nat_abs, ◌+ℤ◌}
use Rattle.numbers.specs.Words.{word64}

-- z ÷ d, rounded toward minus infinity. `negsuc n` is −(n + 1).
abbrev pub floor_div : ℤ → ℕ → ℤ
floor_div (pos n) d = pos (n / d)
floor_div (negsuc n) d = negsuc (n / d)

-- whether z ÷ d is whole: the division leaves no remainder
abbrev pub divides : ℕ → ℤ → Bool
divides d z = eqb (nat_abs z % d) 0

-- the number, or 0 where it is negative
abbrev pub or_zero : ℤ → ℕ
or_zero (pos n) = n
or_zero (negsuc n) = 0

-- all of them together
unfoldable pub sum_ℤ : List ℤ → ℤ
sum_ℤ [] = pos 0
sum_ℤ (z ∷ zs) = z +ℤ sum_ℤ zs

-- the size of each of six numbers whose sum fits a word of eight bytes
abbrev pub most_summand : ℕ
most_summand = 1_000_000_000_000_000

-- the highest word of eight bytes
abbrev pub most_word : ℕ
most_word = 256 ^ 8 - 1

-- two's complement at eight bytes
abbrev pub twos_complement : ℤ → ℕ
twos_complement (pos n) = n
twos_complement (negsuc n) = most_word - n

-- the number that such a word stands for
abbrev pub signed_of : ℕ → ℤ
signed_of word = cond (ltb word (2 ^ 63)) (pos word) (negsuc (most_word - word))

-- the number with a sign in the eight bytes at a place
abbrev pub signed_word : List ℕ → ℕ → ℤ
signed_word bytes at = signed_of (word64 bytes at)
