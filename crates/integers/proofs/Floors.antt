-- `floor_div` is the floor, over every divisor above 0. Assumes nothing.
use mathlib.Core.Path.{◌≡◌, sym, ap}
use mathlib.Core.Logic.{◌↔◌}
use Prim.Native.Nat.{ℕ, suc, ◌-◌, ◌%◌, ◌<◌}
use native.Mathlib.Nat.{div-add-mod', mod-lt, mod-eq_of_lt, mod_self, mod-one, suc-mod}
use native.Mathlib.Decide.{dec_lt}
use native.Mathlib.Omega.{arith}
use lib.Dec.{T}
use lib.IntN.{ℤ, pos, negsuc, ◌+ℤ◌, ◌*ℤ◌, nat_abs}
use lib.Signed.{◌≤ℤ◌, ◌<ℤ◌}
use mir.Facts.{eqb_yes, yes_eqb}
use Rattle.integers.specs.Integers.{floor_div, divides}
use Rattle.std.proofs.lemmas.Int.{ints}

-- what the division leaves
abbrev pub rest : ℤ → ℕ → ℕ
rest (pos n) d = n % d
rest (negsuc n) d = d - suc (n % d)

pub rest-< : (n : ℤ) (d : ℕ) → 0 < d → rest n d < d
rest-< (pos n) d p = mod-lt n p
rest-< (negsuc n) d p = omega arith

pub rest_is : (n : ℤ) (d : ℕ) → 0 < d → n ≡ floor_div n d *ℤ pos d +ℤ pos (rest n d)
rest_is (pos n) d p = ap pos (sym (div-add-mod' n d))
rest_is (negsuc n) d p = let h = mod-lt n p in let e = div-add-mod' n d in omega (arith, ints)

-- d × q ≤ n < d × q + d
pub floor_low : (n : ℤ) (d : ℕ) → 0 < d → (floor_div n d *ℤ pos d) ≤ℤ n
floor_low n d p = omega (arith, ints, rest_is n d p)

pub floor_high : (n : ℤ) (d : ℕ) → 0 < d → n <ℤ (floor_div n d *ℤ pos d +ℤ pos d)
floor_high n d p = omega (arith, ints, rest_is n d p, rest-< n d p)

-- nothing is left exactly where the size is a multiple
last_rest : (d n : ℕ) → 0 < d → (suc n % d ≡ 0) ↔ (d - suc (n % d) ≡ 0)
last_rest d n p = rw suc-mod (go (dec_lt (suc (n % d)) d))
  where
    go : Dec (suc (n % d) < d) → (suc (n % d) % d ≡ 0) ↔ (d - suc (n % d) ≡ 0)
    go (yes h) = rw (mod-eq_of_lt h) (omega arith)
    go (no h) = let e : suc (n % d) ≡ d = omega (arith, mod-lt n p) in rw e ((λ z. omega arith), (λ z. mod_self d))

pub divides_rest : (d : ℕ) (z : ℤ) → 0 < d → T (divides d z) ↔ (rest z d ≡ 0)
divides_rest d (pos n) p = (eqb_yes, yes_eqb)
divides_rest d (negsuc n) p = (λ t. (last_rest d n p).0 (eqb_yes t), λ e. yes_eqb ((last_rest d n p).1 e))

-- Divided by 1, nothing is left.
pub divides_one : (z : ℤ) → T (divides 1 z)
divides_one z = yes_eqb (mod-one (nat_abs z))
